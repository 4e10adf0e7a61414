use Rattle.trace_writer.proofs.claims.DropLaws as drop_laws
use Rattle.trace_writer.proofs.laws.drops_never_stall.Goals as goal

pub returns : goal.returns
returns c = drop_laws.drops_never_stall
