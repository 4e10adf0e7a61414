use Rattle.chunk_schedules.proofs.AnswerLemmas.{answers_are_given_in_turn}
use Rattle.chunk_schedules.proofs.laws.answers_are_given_in_turn.Goals as goal

pub returns : goal.returns
returns c = answers_are_given_in_turn
