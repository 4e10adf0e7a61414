use Rattle.std.proofs.Common.{◌∙◌, false, true, None, refl, sym, ap}
use Rattle.chunk_plain.specs.declared.tokens.Held.{Held}
use Rattle.chunk_plain.specs.Views.{WriterView}
use Rattle.trace_writer.specs.declared.state.State.{State}
use Rattle.trace_writer.specs.declared.state.Writer.{Writer}
use Rattle.trace_writer.proofs.packets.Finishing.{finish_writing}
use Rattle.trace_writer.proofs.packets.Ending.{finish_lost}
use Rattle.trace_writer.proofs.packets.Written.{none_noted, noted_then}
use Rattle.trace_writer.proofs.claims.QuietSteps.{quiet_noted}
use Rattle.trace_writer.proofs.finish.finish.Goals.{in-Writing, in-Dropping}
use Rattle.trace_writer.proofs.finish.finish.Goals as goal

pub returns-then-is_stalled-clause-notes : goal.returns-then-is_stalled-clause-notes
returns-then-is_stalled-clause-notes g c = none_noted c.requires.at_work (sym c.is_stalled.ensures ∙ c.if-is_stalled.true)

pub returns-clause-notes : goal.returns-clause-notes
returns-clause-notes g c =
    let setup = g.W.Words.means.setup c.args.table.now in let place = g.W.Words.means.place c.args.seat.now in
    let old = g.W.Words.means.view c.args.table.now c.args.seat.now in let new = g.W.Words.means.view c.note_call.new.self c.note_call.new.seat in
    let goes = sym c.is_stalled.ensures ∙ c.if-is_stalled.false in
    let calls = ap (λ (v : WriterView). v.calls) c.note_call.ensures.view in
    let quiet = quiet_noted g.W.Words.means
    c.args.table.now c.args.seat.now c.note_call.new.self c.note_call.new.seat _ _ c.note_call.ensures.step c.note_call.ensures.view c.note_call.ensures.told in
    elim c.match-take_state.branch [
      | in-Writing w ↦
          let is = ap (λ (writer : Writer). record writer { packet = None }) w.writer-is
          ∙ ap (λ (state : State). record c.args.writer.now { state = state; packet = None; follows_loss = false }) w.put_state.ensures in
          let agrees = finish_writing setup place old new c.args.writer.now _ w.in-Writing.fragment w.end.result
          w.in-Writing.fragment.within w.in-Writing.fragment.few
          (sym c.take_state.ensures.taken ∙ w.in-Writing.is) c.requires.begun c.requires.depth c.note_call.ensures.view
          (record {
            chunk_is = ap (λ (held : Held). held.chunk) w.end.ensures.held;
            position = ap (λ (held : Held). held.position) w.end.ensures.held;
            bytes = w.end.ensures.bytes;
            len = w.end.ensures.len;
            sealed = w.end.ensures.sealed;
            at = w.end.ensures.at;
            count = w.end.ensures.count;
            continues = w.end.ensures.continues;
          })
          is c.requires.at_work.agrees in
          noted_then goes is refl refl agrees calls quiet
      | in-Dropping w ↦
          let is = ap (λ (writer : Writer). record writer { packet = None }) w.writer-is
          ∙ ap (λ (state : State). record c.args.writer.now { state = state; packet = None; follows_loss = true }) w.put_state-in-Dropping.ensures in
          let agrees = finish_lost setup place old new c.args.writer.now _ w.in-Dropping.next_position
          (sym c.take_state.ensures.taken ∙ w.in-Dropping.is) c.note_call.ensures.view is c.requires.at_work.agrees in
          noted_then goes is refl refl agrees calls quiet
    ]
