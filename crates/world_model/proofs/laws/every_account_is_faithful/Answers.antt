use Rattle.world_model.proofs.FaithfulLemmas.{every_account_is_faithful}
use Rattle.world_model.proofs.laws.every_account_is_faithful.Goals as goal

pub returns : goal.returns
returns c = every_account_is_faithful
