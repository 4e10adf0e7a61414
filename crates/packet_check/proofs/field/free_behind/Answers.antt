use Rattle.std.proofs.Common.{◌/◌, sym, ◌∙◌, arith}
use Rattle.packet_check.proofs.FieldLemmas.{field_is}
use Rattle.packet_check.proofs.field.free_behind.Goals as goal

pub returns-clause-field : goal.returns-clause-field
returns-clause-field c = record {
  number = c.args.tag / 8;
  field =
      field_is c.args.bytes.now c.args.width c.args.tag c.in_ok-len.len c.requires.varint c.requires.within (omega arith) c.requires.small
      c.in_ok-len.ensures.value c.in_ok-len.ensures.within;
  free = sym c.is_refused.ensures ∙ c.if-is_refused.false;
}
