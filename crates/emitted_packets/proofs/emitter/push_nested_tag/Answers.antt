use Rattle.std.proofs.Common.{arith, ap, length, length-append}
use Rattle.std.proofs.lemmas.Result.{on_ok_weaker}
use Rattle.wire_varint.specs.Varint.{tag}
use Rattle.wire_varint.proofs.Lengths.{length-tag-le}
use Rattle.emitted_packets.proofs.emitter.push_nested_tag.Goals as goal

pub returns-clause-few : goal.returns-clause-few
returns-clause-few c =
    on_ok_weaker c.push_tag.result
    (λ all. omega (arith, ap length all, length-append c.args.bytes.now.items (tag c.args.field 2), length-tag-le c.args.field 2 c.requires.1 (omega arith)))
    c.push_tag.ensures
