use Rattle.std.proofs.Common.{◌+◌, ◌≤◌, length, ap, arith}
use Rattle.wire_varint.specs.Varint.{varint}
use Rattle.wire_varint.proofs.Lengths.{length-varint-le}
use Rattle.trace_file.proofs.parts.tail.Goals as goal

pub push_varint-requires : goal.push_varint-requires
push_varint-requires c =
    let long : length c.push.new.self.items + length (varint c.from.result) ≤ 14 =
    omega (arith, ap length c.push.ensures.items, ap length c.new-tail.ensures, length-varint-le c.from.result) in
    (omega arith, long)
