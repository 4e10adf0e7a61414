use Rattle.trace_model.proofs.CountedLemmas.{counts_are_outcomes}
use Rattle.trace_model.proofs.laws.counts_are_outcomes.Goals as goal

pub returns : goal.returns
returns c = counts_are_outcomes
