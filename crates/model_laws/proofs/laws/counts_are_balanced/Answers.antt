use Rattle.model_laws.proofs.ReportLemmas.{counts_are_balanced}
use Rattle.model_laws.proofs.laws.counts_are_balanced.Goals as goal

pub returns : goal.returns
returns c = counts_are_balanced
