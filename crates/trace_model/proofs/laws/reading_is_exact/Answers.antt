use Rattle.trace_model.proofs.ReadsAsLemmas.{reading_is_exact}
use Rattle.trace_model.proofs.laws.reading_is_exact.Goals as goal

pub returns : goal.returns
returns c = reading_is_exact
