use Rattle.trace_writer.proofs.holding.HeldLaws as held_laws
use Rattle.trace_writer.proofs.laws.held_is_published.Goals as goal

pub returns : goal.returns
returns c = held_laws.held_is_published
