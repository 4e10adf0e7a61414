use Rattle.buffer_clone.proofs.CloneLemmas.{every_clone_is_told}
use Rattle.buffer_clone.proofs.laws.every_clone_is_told.Goals as goal

pub returns : goal.returns
returns c = every_clone_is_told
