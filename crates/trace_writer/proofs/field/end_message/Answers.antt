use Rattle.std.proofs.Common.{◌<◌, ◌∙◌, Option, refl, sym, ap, subst}
use Rattle.trace_model.specs.Packets.{account_of}
use Rattle.chunk_plain.specs.Views.{WriterView}
use Rattle.trace_writer.specs.declared.packet.OpenPacket.{OpenPacket}
use Rattle.trace_writer.specs.declared.state.Writer.{Writer}
use Rattle.trace_writer.specs.Site.{site_of}
use Rattle.trace_writer.specs.Agreement.{Agrees, open_message_count}
use Rattle.trace_writer.proofs.packets.Closing.{Pops, pops_few, start_within, hole_within, agrees_ended, agrees_ended_dropping}
use Rattle.trace_writer.proofs.accounts.Agreeing.{writing_agrees}
use Rattle.trace_writer.proofs.packets.Written.{none_noted, noted_then}
use Rattle.trace_writer.proofs.claims.QuietSteps.{quiet_noted}
use Rattle.trace_writer.proofs.field.end_message.Goals as goal
use Rattle.trace_writer.proofs.field.end_message.Goals.{in-Writing, in-Dropping}

pub end_nested-length-requires-clause-within : goal.end_nested-length-requires-clause-within
end_nested-length-requires-clause-within g c =
    start_within (account_of (g.W.Words.means.view c.args.table.now c.args.seat.now).calls).packets c.args.writer.now.packet c.in-Some.packet c.in-Some.is c.requires.at_work.agrees.packet

pub close_hole-requires-clause-fits : goal.close_hole-requires-clause-fits
close_hole-requires-clause-fits g c =
    pops_few c.in-Some.packet c.end_nested-length.new.self c.end_nested-length.result
    (record {
      some = subst (λ (o : Option OpenPacket). 0 < open_message_count o) c.in-Some.is c.requires.depth;
      len = c.end_nested-length.ensures.len;
      starts = c.end_nested-length.ensures.starts;
    })

pub close_hole-requires-clause-here : goal.close_hole-requires-clause-here
close_hole-requires-clause-here g c = λ hole outer holes held.
    let view = g.W.Words.means.view c.args.table.now c.args.seat.now in
    let w = writing_agrees (g.W.Words.means.setup c.args.table.now) (g.W.Words.means.place c.args.seat.now) view c.args.writer.now c.in-Writing.fragment c.requires.at_work.agrees c.in-Writing.is in
    hole_within (site_of (g.W.Words.means.setup c.args.table.now) (g.W.Words.means.place c.args.seat.now) c.args.writer.now.route) w.packet w.older view c.args.writer.now.pending
    c.in-Writing.fragment hole outer holes held w.inside

pub returns-then-is_stalled-clause-notes : goal.returns-then-is_stalled-clause-notes
returns-then-is_stalled-clause-notes g c = none_noted c.requires.at_work (sym c.is_stalled.ensures ∙ c.if-is_stalled.true)

pub returns-clause-notes : goal.returns-clause-notes
returns-clause-notes g c =
    let setup = g.W.Words.means.setup c.args.table.now in let place = g.W.Words.means.place c.args.seat.now in
    let view = g.W.Words.means.view c.args.table.now c.args.seat.now in let new = g.W.Words.means.view c.note_call.new.self c.note_call.new.seat in
    let goes = sym c.is_stalled.ensures ∙ c.if-is_stalled.false in
    let calls = ap (λ (v : WriterView). v.calls) c.note_call.ensures.view in
    let quiet = quiet_noted g.W.Words.means
    c.args.table.now c.args.seat.now c.note_call.new.self c.note_call.new.seat _ _ c.note_call.ensures.step c.note_call.ensures.view c.note_call.ensures.told in
    let pops : Pops c.in-Some.packet c.end_nested-length.new.self c.end_nested-length.result = record {
      some = subst (λ (o : Option OpenPacket). 0 < open_message_count o) c.in-Some.is c.requires.depth;
      len = c.end_nested-length.ensures.len;
      starts = c.end_nested-length.ensures.starts;
    } in
    elim c.match-writer-2.branch [
      | in-Writing w ↦
          noted_then goes w.writer-is refl refl
          (subst (λ (one : Writer). Agrees setup place new one) (sym w.writer-is)
          (agrees_ended setup place view new c.args.writer.now _ w.in-Writing.fragment w.close_hole.new.self w.close_hole.new.pending
          c.in-Some.packet c.end_nested-length.new.self c.end_nested-length.result c.requires.at_work.agrees w.in-Writing.is refl c.in-Some.is pops
          w.close_hole.ensures c.note_call.ensures.view))
          calls quiet
      | in-Dropping w ↦
          noted_then goes w.writer-is refl goes
          (subst (λ (one : Writer). Agrees setup place new one) (sym w.writer-is)
          (agrees_ended_dropping setup place view new c.args.writer.now c.args.writer.now.state w.in-Dropping.next_position
          c.in-Some.packet c.end_nested-length.new.self c.end_nested-length.result c.requires.at_work.agrees w.in-Dropping.is w.in-Dropping.is c.in-Some.is pops
          c.note_call.ensures.view))
          calls quiet
    ]
