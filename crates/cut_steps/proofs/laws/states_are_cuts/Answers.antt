use Rattle.cut_steps.proofs.StateLaws.{states_are_cuts}
use Rattle.cut_steps.proofs.laws.states_are_cuts.Goals as goal

pub returns : goal.returns
returns c = states_are_cuts
