use Rattle.run_model.proofs.ChunkLemmas.{uncollected_chunks_are_used_once}
use Rattle.run_model.proofs.laws.uncollected_chunks_are_used_once.Goals as goal

pub returns : goal.returns
returns c = uncollected_chunks_are_used_once
