use Rattle.wire_varint.proofs.Writing.{front_is, behind_is}
use Rattle.wire_varint.proofs.write.put_varint.Goals as goal

pub returns-clause-written : goal.returns-clause-written
returns-clause-written c = front_is c.args.out.now c.put_varint_at.new.out _ c.put_varint_at.result c.put_varint_at.ensures.behind c.put_varint_at.ensures.bytes

pub returns-clause-behind : goal.returns-clause-behind
returns-clause-behind c = behind_is c.args.out.now c.put_varint_at.new.out _ c.put_varint_at.result c.put_varint_at.ensures.behind c.put_varint_at.ensures.bytes
