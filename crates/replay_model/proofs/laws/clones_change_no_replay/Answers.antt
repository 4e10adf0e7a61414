use Rattle.replay_model.proofs.CloneLemmas.{clones_change_no_replay}
use Rattle.replay_model.proofs.laws.clones_change_no_replay.Goals as goal

pub returns : goal.returns
returns c = clones_change_no_replay
