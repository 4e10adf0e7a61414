use Rattle.std.proofs.Common.{length, length-append, ap, arith}
use Rattle.wire_varint.specs.Varint.{tag}
use Rattle.wire_varint.proofs.Lengths.{length-tag-le, length-varint-le}
use Rattle.proto_stream.proofs.head.tag_and_varint.Goals as goal

pub push_tag-requires : goal.push_tag-requires
push_tag-requires c = (
  omega arith,
  (
    c.requires.field,
    (
      c.requires.wire,
      omega (arith, ap length c.new.ensures, length-tag-le c.args.field c.args.wire c.requires.field.1 (omega (arith, c.requires.wire))),
    ),
  ),
)

pub push_varint-requires : goal.push_varint-requires
push_varint-requires c =
    omega (
      arith,
      ap length c.push_tag.ensures,
      length-append c.new.result.items (tag c.args.field c.args.wire),
      ap length c.new.ensures,
      length-tag-le c.args.field c.args.wire c.requires.field.1 (omega (arith, c.requires.wire)),
      length-varint-le c.args.value,
    )
