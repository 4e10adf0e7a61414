use Rattle.chunk_words.proofs.Telling.{told_taken}
use Rattle.chunk_words.proofs.laws.told_is_taken.Goals as goal

pub returns : goal.returns
returns c = told_taken
