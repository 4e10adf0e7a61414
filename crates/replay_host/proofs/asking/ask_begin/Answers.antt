-- A packet may begin, and there are ids enough for it.
use Rattle.std.proofs.Common.{true, refl}
use Rattle.trace_model.specs.Calls.{Begun}
use Rattle.replay_host.proofs.CallLemmas.{asked_called, asked_stalled, ids_enough, none_refused}
use Rattle.replay_host.proofs.ReadyLemmas.{between_is}
use Rattle.replay_host.proofs.asking.ask_begin.Goals as goal

pub begin-requires-clause-none_begun : goal.begin-requires-clause-none_begun
begin-requires-clause-none_begun g c = between_is c.requires.ready.1.asked (g.W.Words.means.view c.args.table.now c.args.core.now.seat) c.requires.ready.1.loses c.requires.ready.1.accepted.0.1

pub begin-requires-clause-ids : goal.begin-requires-clause-ids
begin-requires-clause-ids g c =
    ids_enough (g.W.Words.means.setup c.args.table.now) (g.W.Words.means.place c.args.core.now.seat) (g.W.Words.means.view c.args.table.now c.args.core.now.seat) c.args.core.now.writer c.requires.ready.0 c.requires.agrees c.requires.ready.1

pub returns-in-Ok-clause-called : goal.returns-in-Ok-clause-called
returns-in-Ok-clause-called g c = λ _.
    let none = none_refused c.args.core.now refl c.requires.going in let made = c.in-Ok.ensures.call in
    asked_called (Begun true) tt made none (made.answers none)

pub returns-in-Err-clause-stalled : goal.returns-in-Err-clause-stalled
returns-in-Err-clause-stalled g c = λ _.
    let none = none_refused c.args.core.now refl c.requires.going in let made = c.in-Err.ensures.call in
    asked_stalled (Begun true) tt made none (made.answers none).1
