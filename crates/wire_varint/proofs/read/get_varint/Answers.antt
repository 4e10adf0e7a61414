use Rattle.std.proofs.Common.{Ok, Err}
use Rattle.wire_varint.proofs.Varints.{read_every}
use Rattle.wire_varint.proofs.read.get_varint.Goals as goal

pub returns-in-Ok-clause-every : goal.returns-in-Ok-clause-every
returns-in-Ok-clause-every c = read_every c.args.bytes.now (Ok c.in-Ok.found) c.in-Ok.ensures.within c.in-Ok.ensures.found tt

pub returns-in-Err-clause-every : goal.returns-in-Err-clause-every
returns-in-Err-clause-every c = read_every c.args.bytes.now (Err c.in-Err.fault) tt tt c.in-Err.ensures.none
