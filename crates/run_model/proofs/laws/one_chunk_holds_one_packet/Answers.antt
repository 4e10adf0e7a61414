use Rattle.run_model.proofs.WorkedLemmas.{one_chunk_holds_one_packet}
use Rattle.run_model.proofs.laws.one_chunk_holds_one_packet.Goals as goal

pub returns : goal.returns
returns c = one_chunk_holds_one_packet
