use Rattle.std.proofs.Common.{arith}
use Rattle.packet_check.proofs.FieldLemmas.{head_is}
use Rattle.packet_check.proofs.field.head_in_front.Goals as goal

pub returns-clause-head : goal.returns-clause-head
returns-clause-head c =
    head_is c.args.bytes.now c.in_ok-tag.wide c.in_ok-tag.tag c.in_ok-size.width c.in_ok-size.size c.in_ok-tag.ensures.varint c.in_ok-tag.ensures.within
    (omega arith) (omega arith) c.in_ok-tag.ensures.small c.in_ok-size.ensures.varint c.in_ok-size.ensures.within
