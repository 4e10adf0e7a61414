use Rattle.std.proofs.Common.{◌∙◌, ◌++◌, List, ℕ, ap, append_assoc}
use Rattle.std.specs.List.{repeat}
use Rattle.std.proofs.lemmas.Result.{on_ok_weaker}
use Rattle.trace_model.specs.Encoding.{bytes_field}
use Rattle.emitted_packets.proofs.emitter.push_field.Goals as goal

pub returns : goal.returns
unfolding bytes_field
returns c =
    on_ok_weaker c.push_times.result
    (λ all. all ∙ ap (λ (xs : List ℕ). xs ++ repeat c.args.times c.args.text.now) c.in_ok-push_bytes_head.ensures
    ∙ append_assoc c.args.bytes.now.items _ (repeat c.args.times c.args.text.now))
    c.push_times.ensures
