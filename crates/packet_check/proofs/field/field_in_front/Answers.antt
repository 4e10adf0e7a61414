use Rattle.std.proofs.Common.{arith}
use Rattle.packet_check.proofs.FieldLemmas.{field_is}
use Rattle.packet_check.proofs.field.field_in_front.Goals as goal

pub returns-clause-field : goal.returns-clause-field
returns-clause-field c =
    field_is c.args.bytes.now c.in_ok-tag.width c.in_ok-tag.tag c.in_ok-len.len c.in_ok-tag.ensures.varint c.in_ok-tag.ensures.within
    (omega arith) c.in_ok-tag.ensures.small c.in_ok-len.ensures.value c.in_ok-len.ensures.within
