use Rattle.schedule_laws.proofs.CompleteLemmas.{enough_misses_nothing}
use Rattle.schedule_laws.proofs.laws.enough_misses_nothing.Goals as goal

pub returns : goal.returns
returns c = enough_misses_nothing
