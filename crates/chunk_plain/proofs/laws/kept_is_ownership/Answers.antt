use Rattle.chunk_plain.proofs.OwnershipLemmas.{ownership}
use Rattle.chunk_plain.proofs.laws.kept_is_ownership.Goals as goal

pub returns : goal.returns
returns c = ownership
