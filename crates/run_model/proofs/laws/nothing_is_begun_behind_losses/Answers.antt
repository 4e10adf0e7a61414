use Rattle.run_model.proofs.BehindLemmas.{nothing_is_begun_behind_losses}
use Rattle.run_model.proofs.laws.nothing_is_begun_behind_losses.Goals as goal

pub returns : goal.returns
returns c = nothing_is_begun_behind_losses
