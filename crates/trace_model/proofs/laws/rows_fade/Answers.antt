use Rattle.trace_model.proofs.FadingLemmas.{rows_fade}
use Rattle.trace_model.proofs.laws.rows_fade.Goals as goal

pub returns : goal.returns
returns c = rows_fade
