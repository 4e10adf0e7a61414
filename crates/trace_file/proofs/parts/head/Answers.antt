use Rattle.std.proofs.Common.{◌+◌, ◌≤◌, length, ap, arith}
use Rattle.wire_varint.specs.Varint.{varint}
use Rattle.wire_varint.proofs.Lengths.{length-varint-le}
use Rattle.trace_file.proofs.parts.head.Goals as goal

pub push_varint-requires : goal.push_varint-requires
push_varint-requires c =
    let long : length c.push.new.self.items + length (varint c.args.len) ≤ 11 =
    omega (arith, ap length c.push.ensures.items, ap length c.new-head.ensures, length-varint-le c.args.len) in
    (omega arith, long)
