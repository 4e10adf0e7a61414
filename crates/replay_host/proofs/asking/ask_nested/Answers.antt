-- A nested message is accepted.
use Rattle.trace_model.specs.Calls.{Nested}
use Rattle.replay_host.proofs.CallLemmas.{asked_called, asked_stalled, none_refused}
use Rattle.replay_host.proofs.ReadyLemmas.{writing_is, nested_accepted}
use Rattle.replay_host.proofs.asking.ask_nested.Goals as goal

pub begin_nested-requires-clause-begun : goal.begin_nested-requires-clause-begun
begin_nested-requires-clause-begun g c = writing_is c.requires.ready.1.asked (g.W.Words.means.view c.args.table.now c.args.core.now.seat) c.requires.ready.1.loses c.requires.ready.1.accepted.0.0.begun

pub returns-in-Ok-clause-called : goal.returns-in-Ok-clause-called
returns-in-Ok-clause-called g c = λ _.
    let none = none_refused c.args.core.now (nested_accepted c.requires.ready.1.asked (g.W.Words.means.view c.args.table.now c.args.core.now.seat) c.requires.ready.1.loses c.args.field c.requires.ready.1.accepted.0.0 c.requires.ready.1.accepted.0.1) c.requires.going in
    let made = c.in-Ok.ensures.call.1 in
    asked_called (Nested c.args.field) tt made none (made.answers none)

pub returns-in-Err-clause-stalled : goal.returns-in-Err-clause-stalled
returns-in-Err-clause-stalled g c = λ _.
    let none = none_refused c.args.core.now (nested_accepted c.requires.ready.1.asked (g.W.Words.means.view c.args.table.now c.args.core.now.seat) c.requires.ready.1.loses c.args.field c.requires.ready.1.accepted.0.0 c.requires.ready.1.accepted.0.1) c.requires.going in
    let made = c.in-Err.ensures.call.1 in
    asked_stalled (Nested c.args.field) tt made none (made.answers none).1
