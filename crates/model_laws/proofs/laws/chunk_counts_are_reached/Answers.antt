use Rattle.model_laws.proofs.ReachedCountLemmas.{chunk_counts_are_reached}
use Rattle.model_laws.proofs.laws.chunk_counts_are_reached.Goals as goal

pub returns : goal.returns
returns c = chunk_counts_are_reached
