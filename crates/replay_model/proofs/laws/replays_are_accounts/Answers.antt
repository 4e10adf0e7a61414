use Rattle.replay_model.proofs.PlayedLemmas.{replays_are_accounts}
use Rattle.replay_model.proofs.laws.replays_are_accounts.Goals as goal

pub returns : goal.returns
returns c = replays_are_accounts
