use Rattle.schedule_laws.proofs.EnoughLemmas.{enough_chunks_lose_nothing}
use Rattle.schedule_laws.proofs.laws.enough_chunks_lose_nothing.Goals as goal

pub returns : goal.returns
returns c = enough_chunks_lose_nothing
