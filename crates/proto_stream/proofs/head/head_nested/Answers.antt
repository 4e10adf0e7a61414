use Rattle.std.proofs.Common.{length, ap, arith}
use Rattle.wire_varint.proofs.Lengths.{length-tag-le}
use Rattle.proto_stream.proofs.head.head_nested.Goals as goal

pub push_tag-requires : goal.push_tag-requires
push_tag-requires c =
    (omega arith, (c.requires, (omega arith, omega (arith, ap length c.new.ensures, length-tag-le c.args.field 2 c.requires.1 (omega arith)))))
