use Rattle.trace_writer.proofs.holding.HeldLaws as held_laws
use Rattle.trace_writer.proofs.laws.newest_is_held.Goals as goal

pub returns : goal.returns
returns c = held_laws.newest_is_held
