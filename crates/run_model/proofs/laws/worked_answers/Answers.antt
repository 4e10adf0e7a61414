use Rattle.run_model.proofs.WorkedAnswersLemmas.{worked_answers}
use Rattle.run_model.proofs.laws.worked_answers.Goals as goal

pub returns : goal.returns
returns c = worked_answers
