use Rattle.std.proofs.Common.{◌∙◌, ◌++◌, List, ℕ, ap, append_assoc}
use Rattle.std.proofs.lemmas.Result.{on_ok_weaker}
use Rattle.wire_varint.specs.Varint.{tag, varint}
use Rattle.emitted_packets.proofs.emitter.push_head.Goals as goal

pub returns : goal.returns
returns c =
    on_ok_weaker c.push_number.result
    (λ all. all ∙ ap (λ (xs : List ℕ). xs ++ varint c.args.number) c.in_ok-push_tag.ensures
    ∙ append_assoc c.args.bytes.now.items (tag c.args.field c.args.wire) (varint c.args.number))
    c.push_number.ensures
