use Rattle.std.proofs.Common.{◌∙◌, refl, ap, Some, min, ◌+◌, ℕ}
use Rattle.chunk_plain.specs.Views.{WriterView}
use Rattle.trace_writer.specs.declared.state.State.{State}
use Rattle.trace_writer.specs.declared.state.State.TheVariants.{Dropping}
use Rattle.trace_writer.proofs.packets.Beginnings.{begin_nowhere}
use Rattle.trace_writer.proofs.claims.QuietSteps.{quiet_noted}
use Rattle.trace_writer.proofs.begin.begin_dropped.Goals as goal

pub returns-clause-notes : goal.returns-clause-notes
returns-clause-notes g c =
    let setup = g.W.Words.means.setup c.args.table.now in
    let place = g.W.Words.means.place c.args.seat.now in
    let view = g.W.Words.means.view c.args.table.now c.args.seat.now in
    let writer = c.args.writer.now in
    let open_one = c.new.result in
    let next_position = c.args.next_position in
    let begun = c.saturating_add-writer.result in
    let dropped = c.saturating_add-writer-2.result in
    record {
      agrees = begin_nowhere setup place view (g.W.Words.means.view c.note_call.new.self c.note_call.new.seat) writer _ next_position open_one
          c.new.ensures.len c.new.ensures.starts c.note_call.ensures.view
          (ap (λ (state : State). record writer { state = state; packet = Some open_one; begun = begun; dropped = dropped }) c.put_state.ensures
          ∙ ap (λ (n : ℕ). record writer { state = Dropping next_position; packet = Some open_one; begun = n; dropped = dropped }) c.saturating_add-writer.ensures
          ∙ ap (λ (n : ℕ). record writer { state = Dropping next_position; packet = Some open_one; begun = min (writer.begun + 1) 18446744073709551615; dropped = n }) c.saturating_add-writer-2.ensures)
          c.requires.next c.requires.idle c.requires.agrees;
      route_stays = refl;
      calls = ap (λ (v : WriterView). v.calls) c.note_call.ensures.view;
      quiet = quiet_noted g.W.Words.means
          c.args.table.now c.args.seat.now c.note_call.new.self c.note_call.new.seat _ _ c.note_call.ensures.step c.note_call.ensures.view c.note_call.ensures.told;
    }
