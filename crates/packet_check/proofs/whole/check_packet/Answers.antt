use Rattle.std.proofs.Common.{sym, subst, ◌∙◌}
use Rattle.packet_check.specs.Answers.{IsAnswer}
use Rattle.packet_check.proofs.AnswerLemmas.{answers_are_of_the_grammar, packets_have_one_answer}
use Rattle.packet_check.proofs.whole.check_packet.Goals as goal

pub returns-clause-so : goal.returns-clause-so
returns-clause-so c = subst (IsAnswer c.args.bytes.now) (sym c.walk_whole.ensures) (answers_are_of_the_grammar c.args.bytes.now)

pub returns-clause-only : goal.returns-clause-only
returns-clause-only c answer is = packets_have_one_answer c.args.bytes.now answer is ∙ sym c.walk_whole.ensures
