-- A text is accepted.
use Rattle.trace_model.specs.Calls.{Bytes}
use Rattle.trace_writer.specs.Core.{bytes_size}
use Rattle.replay_host.proofs.CallLemmas.{asked_called, asked_stalled, none_refused}
use Rattle.replay_host.proofs.ReadyLemmas.{writing_is, field_accepted}
use Rattle.replay_host.proofs.asking.ask_bytes.Goals as goal

pub bytes-requires-clause-begun : goal.bytes-requires-clause-begun
bytes-requires-clause-begun g c = writing_is c.requires.ready.1.asked (g.W.Words.means.view c.args.table.now c.args.core.now.seat) c.requires.ready.1.loses c.requires.ready.1.accepted.0.begun

pub returns-in-Ok-clause-called : goal.returns-in-Ok-clause-called
returns-in-Ok-clause-called g c = λ _.
    let none = none_refused c.args.core.now (field_accepted c.requires.ready.1.asked (g.W.Words.means.view c.args.table.now c.args.core.now.seat) c.requires.ready.1.loses c.args.field (bytes_size c.args.field c.args.times c.args.text.now) c.requires.ready.1.accepted.0) c.requires.going in
    let made = c.in-Ok.ensures.call.1 in
    asked_called (Bytes c.args.field c.args.text.now c.args.times) tt made none (made.answers none)

pub returns-in-Err-clause-stalled : goal.returns-in-Err-clause-stalled
returns-in-Err-clause-stalled g c = λ _.
    let none = none_refused c.args.core.now (field_accepted c.requires.ready.1.asked (g.W.Words.means.view c.args.table.now c.args.core.now.seat) c.requires.ready.1.loses c.args.field (bytes_size c.args.field c.args.times c.args.text.now) c.requires.ready.1.accepted.0) c.requires.going in
    let made = c.in-Err.ensures.call.1 in
    asked_stalled (Bytes c.args.field c.args.text.now c.args.times) tt made none (made.answers none).1
