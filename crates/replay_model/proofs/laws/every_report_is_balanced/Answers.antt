use Rattle.replay_model.proofs.BalanceLemmas.{every_report_is_balanced}
use Rattle.replay_model.proofs.laws.every_report_is_balanced.Goals as goal

pub returns : goal.returns
returns c = every_report_is_balanced
