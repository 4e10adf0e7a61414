use Rattle.std.proofs.Common.{arith}
use Rattle.byte_io.proofs.Lent.{handed_on}
use Rattle.byte_io_rows.proofs.ends.write_both.Goals as goal

pub returns-in-Ok-clause-part : goal.returns-in-Ok-clause-part
returns-in-Ok-clause-part g c = grind (arith, handed_on _ _ _ _ _ _ c.in-Ok.ensures.handed c.pass_on.ensures.passed)
