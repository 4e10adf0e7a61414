use Rattle.std.proofs.Common.{◌∙◌, [], ◌∷◌, ◌++◌, sym, ap, refl}
use Rattle.trace_writer.specs.declared.state.State.{State}
use Rattle.trace_model.specs.Calls.{Flushed}
use Rattle.chunk_plain.specs.Steps.{notes_call}
use Rattle.chunk_plain.specs.Views.{WriterView}
use Rattle.trace_writer.specs.OwnSteps.{IsQuiet}
use Rattle.trace_writer.proofs.packets.Written.{none_noted, noted_then}
use Rattle.trace_writer.proofs.packets.Ending.{flush_held, flush_idle, behind_of, behind_fits, behind_head}
use Rattle.trace_writer.proofs.claims.QuietRows.{quiet_none, quiet_both, quiet_there}
use Rattle.trace_writer.proofs.claims.QuietSteps.{quiet_noted}
use Rattle.trace_writer.proofs.finish.flush.Goals.{in-Between, in-Idle}
use Rattle.trace_writer.proofs.finish.flush.Goals as goal
use Rattle.trace_writer.proofs.claims.RouteIds.{route_from}

pub complete-requires-clause-fit : goal.complete-requires-clause-fit
complete-requires-clause-fit g c =
    behind_fits _ _ (g.W.Words.means.view c.args.table.now c.args.seat.now) _ c.in-Between.chunk
    (behind_of (g.W.Words.means.setup c.args.table.now) (g.W.Words.means.place c.args.seat.now) (g.W.Words.means.view c.args.table.now c.args.seat.now) c.args.writer.now c.in-Between.chunk
    (sym c.take_state.ensures.taken ∙ c.in-Between.is) c.requires.at_work.agrees)

pub complete-requires-clause-head : goal.complete-requires-clause-head
complete-requires-clause-head g c =
    behind_head _ _ (g.W.Words.means.view c.args.table.now c.args.seat.now) _ c.in-Between.chunk
    (behind_of (g.W.Words.means.setup c.args.table.now) (g.W.Words.means.place c.args.seat.now) (g.W.Words.means.view c.args.table.now c.args.seat.now) c.args.writer.now c.in-Between.chunk
    (sym c.take_state.ensures.taken ∙ c.in-Between.is) c.requires.at_work.agrees)

pub complete-requires-clause-from : goal.complete-requires-clause-from
complete-requires-clause-from g c =
    route_from (g.W.Words.means.setup c.args.table.now) (g.W.Words.means.place c.args.seat.now) c.args.writer.now.route c.requires.at_work.agrees.route

pub returns-then-is_stalled-clause-notes : goal.returns-then-is_stalled-clause-notes
returns-then-is_stalled-clause-notes g c = none_noted c.requires.at_work (sym c.is_stalled.ensures ∙ c.if-is_stalled.true)

pub returns-clause-notes : goal.returns-clause-notes
returns-clause-notes g c =
    let setup = g.W.Words.means.setup c.args.table.now in let place = g.W.Words.means.place c.args.seat.now in
    let old = g.W.Words.means.view c.args.table.now c.args.seat.now in let new = g.W.Words.means.view c.note_call.new.self c.note_call.new.seat in
    let goes = sym c.is_stalled.ensures ∙ c.if-is_stalled.false in
    let quiet : IsQuiet g.W.Words.means c.args.table.now c.args.seat.now c.note_call.new.self c.note_call.new.seat =
    quiet_both g.W.Words.means
    c.args.table.now c.args.seat.now c.match-take_state.table c.match-take_state.seat c.note_call.new.self c.note_call.new.seat
    (elim c.match-take_state.branch [
      | in-Between w ↦ quiet_there g.W.Words.means
          c.args.table.now c.args.seat.now w.table-is w.seat-is w.complete.ensures.quiet
      | in-Idle w ↦ quiet_there g.W.Words.means
          c.args.table.now c.args.seat.now w.table-is w.seat-is
          (quiet_none g.W.Words.means
          c.args.table.now c.args.seat.now c.requires.at_work.seat_sits)
    ])
    (quiet_noted g.W.Words.means
    c.match-take_state.table c.match-take_state.seat c.note_call.new.self c.note_call.new.seat _ _ c.note_call.ensures.step c.note_call.ensures.view c.note_call.ensures.told) in
    elim c.match-take_state.branch [
      | in-Between w ↦
          let is = w.writer-is ∙ ap (λ (state : State). record c.args.writer.now { state = state; pending = w.complete.new.pending }) w.put_state.ensures in
          let noted = c.note_call.ensures.view ∙ ap (λ table. notes_call (g.W.Words.means.view table c.match-take_state.seat) Flushed) w.table-is
          ∙ ap (λ seat. notes_call (g.W.Words.means.view w.complete.new.table seat) Flushed) w.seat-is in
          let agrees = flush_held setup place old
          (g.W.Words.means.view w.complete.new.table w.complete.new.seat) new c.args.writer.now _ w.complete.new.pending w.in-Between.chunk _
          (sym c.take_state.ensures.taken ∙ w.in-Between.is) c.requires.none_begun w.in-Between.chunk.few refl
          w.complete.ensures.pending w.complete.ensures.view noted is c.requires.at_work.agrees in
          noted_then goes is refl refl agrees
          (ap (λ (v : WriterView). v.calls) noted ∙ ap (λ (v : WriterView). v.calls ++ Flushed ∷ []) w.complete.ensures.view)
          quiet
      | in-Idle w ↦
          let is = w.writer-is ∙ ap (λ (state : State). record c.args.writer.now { state = state }) w.put_state-in-Idle.ensures in
          let noted = c.note_call.ensures.view ∙ ap (λ table. notes_call (g.W.Words.means.view table c.match-take_state.seat) Flushed) w.table-is
          ∙ ap (λ seat. notes_call (g.W.Words.means.view c.args.table.now seat) Flushed) w.seat-is in
          let agrees = flush_idle setup place old new c.args.writer.now _ w.in-Idle.next_position
          (sym c.take_state.ensures.taken ∙ w.in-Idle.is) c.requires.none_begun noted is c.requires.at_work.agrees in
          noted_then goes is refl refl agrees (ap (λ (v : WriterView). v.calls) noted) quiet
    ]
