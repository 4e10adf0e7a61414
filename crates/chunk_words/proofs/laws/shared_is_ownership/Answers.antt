use Rattle.chunk_words.proofs.Owners.{shared_ownership}
use Rattle.chunk_words.proofs.laws.shared_is_ownership.Goals as goal

pub returns : goal.returns
returns c = shared_ownership
