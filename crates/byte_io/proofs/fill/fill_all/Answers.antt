-- Want of memory: the bytes of the last read came too, and are lost.
use Rattle.std.proofs.Common.{◌+◌, take, arith}
use Rattle.std.proofs.lemmas.Grind.{common_steps}
use Rattle.byte_io.proofs.Told.{gives_more}
use Rattle.byte_io.proofs.fill.fill_all.Goals as goal

pub returns-then-is_err-clause-taken : goal.returns-then-is_err-clause-taken
returns-then-is_err-clause-taken g c =
    gives_more (c.args.limit + 1) c.pieces.bytes.items (take c.in-Ok.count c.read.new.into) _ _ _ c.pieces.invariant.0 c.in-Ok.ensures.bytes
    (grind (arith, common_steps))
