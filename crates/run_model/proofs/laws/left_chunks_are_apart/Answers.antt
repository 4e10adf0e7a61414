use Rattle.run_model.proofs.ChunkLemmas.{left_chunks_are_apart}
use Rattle.run_model.proofs.laws.left_chunks_are_apart.Goals as goal

pub returns : goal.returns
returns c = left_chunks_are_apart
