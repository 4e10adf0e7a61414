use Rattle.run_model.proofs.LineLemmas.{lines_take_at_most}
use Rattle.run_model.proofs.laws.lines_take_at_most.Goals as goal

pub returns : goal.returns
returns c = lines_take_at_most
