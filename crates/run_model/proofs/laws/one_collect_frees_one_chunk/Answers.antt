use Rattle.run_model.proofs.WorkedLemmas.{one_collect_frees_one_chunk}
use Rattle.run_model.proofs.laws.one_collect_frees_one_chunk.Goals as goal

pub returns : goal.returns
returns c = one_collect_frees_one_chunk
