-- The writer finishes its packet, and answers where a request is due.
use Rattle.std.proofs.Common.{◌∙◌, sym, arith}
use Rattle.std.proofs.lemmas.Bool.{ltb_from_iff}
use Rattle.replay_host.proofs.FinishLineLemmas.{finish_place, finish_open, finish_ready, finish_counted, finish_answer, finish_waits, finish_answers}
use Rattle.replay_host.proofs.lines.Host+W+W+Writer+W+Service.play_finish.Goals as goal

pub ask-requires-clause-host : goal.ask-requires-clause-host
ask-requires-clause-host g c = c.requires.next.2.at.going.kept.is_host

pub ask-requires-clause-place : goal.ask-requires-clause-place
ask-requires-clause-place g c = finish_place g.W.Words.means c.requires.next.0 c.args.place c.args.self.now c.requires.next.1 c.requires.next.2

pub ask-requires-clause-open : goal.ask-requires-clause-open
ask-requires-clause-open g c = finish_open g.W.Words.means c.requires.next.0 c.args.place c.args.self.now c.requires.next.1 c.requires.next.2

pub ask-requires-clause-ready : goal.ask-requires-clause-ready
ask-requires-clause-ready g c = finish_ready g.W.Words.means c.requires.next.0 c.args.place c.args.self.now c.requires.next.1 c.requires.next.2

pub is_due-requires : goal.is_due-requires
is_due-requires g c = finish_counted g.W.Words.means c.requires.next.0 c.args.place c.args.self.now c.requires.next.1 c.requires.next.2 c.ask.new.self c.in_ok-ask.ensures.asked

pub answer-requires : goal.answer-requires
answer-requires g c = record { may = finish_answer g.W.Words.means c.requires.next.0 c.args.place c.args.self.now c.ask.new.self c.requires.next.1 c.requires.next.2 c.in_ok-ask.ensures.host c.in_ok-ask.ensures.asked }

pub returns-then-is_due-clause-played : goal.returns-then-is_due-clause-played
returns-then-is_due-clause-played g c moment what next taken =
    finish_answers g.W.Words.means moment c.args.place c.args.self.now c.ask.new.self what next c.in_ok-ask.ensures.host c.in_ok-ask.ensures.asked
    c.answer.new.self c.answer.ensures.answered
    (sym (ltb_from_iff c.is_due.ensures) ∙ c.if-is_due.true) (let joined = c.ask.new.self.flushes.answered.ok.0 in
    let below = finish_counted g.W.Words.means moment c.args.place c.args.self.now what next c.ask.new.self c.in_ok-ask.ensures.asked in omega (arith, joined, below)) taken

pub returns-else-is_due-clause-played : goal.returns-else-is_due-clause-played
returns-else-is_due-clause-played g c moment what next taken =
    finish_waits g.W.Words.means moment c.args.place c.args.self.now c.ask.new.self what next c.in_ok-ask.ensures.host c.in_ok-ask.ensures.asked
    (sym (ltb_from_iff c.is_due.ensures) ∙ c.if-is_due.false) taken
