use Rattle.std.proofs.Common.{◌∙◌, true, [], ◌∷◌, ◌++◌, refl, ap, Some, ℕ}
use Rattle.trace_model.specs.Calls.{Begun}
use Rattle.chunk_plain.specs.Views.{WriterView}
use Rattle.trace_writer.specs.declared.state.State.{State}
use Rattle.trace_writer.specs.declared.state.State.TheVariants.{Writing}
use Rattle.trace_writer.proofs.packets.Beginnings.{begin_behind, IsFronted, fronted_put, fronted_not}
use Rattle.trace_writer.proofs.claims.QuietRows.{quiet_both}
use Rattle.trace_writer.proofs.claims.QuietSteps.{quiet_noted}
use Rattle.trace_writer.proofs.begin.begin_kept.Goals.{then-writer, else-writer}
use Rattle.trace_writer.proofs.begin.begin_kept.Goals as goal

pub returns-clause-notes : goal.returns-clause-notes
returns-clause-notes g c =
    let setup = g.W.Words.means.setup c.args.table.now in
    let place = g.W.Words.means.place c.args.seat.now in
    let view = g.W.Words.means.view c.args.table.now c.args.seat.now in
    let writer = c.args.writer.now in
    let chunk = c.args.chunk in
    let first = c.start_fragment-fragment.result in
    let s = c.start_fragment-fragment.ensures in
    let fronted : IsFronted writer.follows_loss first c.if-writer.fragment = elim c.if-writer.branch [
      | then-writer w ↦ fronted_put _ _ view _ chunk first w.put.new.self c.if-writer.fragment writer.follows_loss w.put.result w.if-writer.true s.started c.requires.roomy
          w.put.ensures.count w.put.ensures.bytes w.put.ensures.at w.fragment-is
      | else-writer w ↦ fronted_not first c.if-writer.fragment writer.follows_loss w.if-writer.false w.fragment-is
    ] in
    record {
      agrees = begin_behind setup place view (g.W.Words.means.view c.start_fragment-fragment.new.table c.start_fragment-fragment.new.seat) (g.W.Words.means.view c.note_call.new.self c.note_call.new.seat) writer _ chunk first c.if-writer.fragment c.new.result
          c.new.ensures.len c.new.ensures.starts s.started fronted
          s.view c.note_call.ensures.view
          (ap (λ (state : State). record writer { state = state; packet = Some c.new.result; begun = c.saturating_add-writer.result }) c.put_state.ensures
          ∙ ap (λ (n : ℕ). record writer { state = Writing c.if-writer.fragment; packet = Some c.new.result; begun = n }) c.saturating_add-writer.ensures)
          c.requires.roomy c.requires.agrees;
      route_stays = refl;
      calls = ap (λ (v : WriterView). v.calls) c.note_call.ensures.view ∙ ap (λ (v : WriterView). v.calls ++ Begun true ∷ []) s.view.view;
      quiet = quiet_both g.W.Words.means
          c.args.table.now c.args.seat.now c.start_fragment-fragment.new.table c.start_fragment-fragment.new.seat c.note_call.new.self c.note_call.new.seat
          s.quiet
          (quiet_noted g.W.Words.means
          c.start_fragment-fragment.new.table c.start_fragment-fragment.new.seat c.note_call.new.self c.note_call.new.seat _ _ c.note_call.ensures.step c.note_call.ensures.view c.note_call.ensures.told);
    }
