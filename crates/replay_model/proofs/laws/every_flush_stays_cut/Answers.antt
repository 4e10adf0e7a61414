use Rattle.replay_model.proofs.StaysLemmas.{every_flush_stays_cut}
use Rattle.replay_model.proofs.laws.every_flush_stays_cut.Goals as goal

pub returns : goal.returns
returns c = every_flush_stays_cut
