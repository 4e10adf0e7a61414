use Rattle.std.proofs.Common.{◌∙◌, ℕ, ◌+◌, ◌≤◌, refl, sym, ap, subst}
use Rattle.std.proofs.lemmas.Bool.{true≢false}
use Rattle.trace_model.specs.Calls.{Nested}
use Rattle.trace_model.specs.Encoding.{nested_tag}
use Rattle.trace_writer.specs.Agreement.{len_of}
use Rattle.trace_writer.specs.declared.state.Writer.{Writer}
use Rattle.trace_writer.specs.Empty.{is_empty, is_stalled}
use Rattle.trace_writer.proofs.packets.InPlace.{few_holes, agrees_opened, needs_empty}
use Rattle.trace_writer.proofs.packets.Written.{written_alone, ready_after_all, written_after_all}
use Rattle.trace_writer.proofs.field.write_nested.Goals as goal

pub write_nested_on-requires-clause-ready : goal.write_nested_on-requires-clause-ready
write_nested_on-requires-clause-ready g c =
    ready_after_all (c.put_nested_here.ensures.unchanged c.if-put_nested_here.false) c.requires.ready

pub put_nested_here-requires-clause-few : goal.put_nested_here-requires-clause-few
put_nested_here-requires-clause-few g c = λ fragment was.
    few_holes (g.W.Words.means.setup c.args.table.now) (g.W.Words.means.place c.args.seat.now) (g.W.Words.means.view c.args.table.now c.args.seat.now)
    c.args.writer.now c.args.writer.now.packet fragment refl c.requires.ready.at_work.agrees was c.requires.begun c.requires.depth

pub returns-then-put_nested_here-clause-written : goal.returns-then-put_nested_here-clause-written
returns-then-put_nested_here-clause-written g c =
    let setup = g.W.Words.means.setup c.args.table.now in let place = g.W.Words.means.place c.args.seat.now in
    let view = g.W.Words.means.view c.args.table.now c.args.seat.now in
    let puts = c.if-put_nested_here.ensures.puts refl in
    let call = Nested c.args.field in
    let agrees = agrees_opened setup place view (g.W.Words.means.view c.note_call.new.self c.note_call.new.seat) c.args.writer.now c.put_nested_here.new.writer
    c.args.field (nested_tag c.args.field) c.requires.ready.at_work.agrees puts
    (subst (λ (n : ℕ). len_of c.args.writer.now.packet + (n + 4) ≤ 1048576) c.requires.size c.requires.fits)
    (few_holes setup place view c.args.writer.now c.args.writer.now.packet puts.fragment refl c.requires.ready.at_work.agrees puts.was c.requires.begun c.requires.depth)
    refl c.note_call.ensures.view in
    written_alone g.W.Words.means g.H.HelperOn.needs g.H.HelperOn.helps call c.args.writer.now c.args.help.now c.args.table.now c.args.seat.now c.args.steps.now _
    c.put_nested_here.new.writer c.note_call.new.self c.note_call.new.seat _ c.requires.ready.at_work.seat_sits g.met.H.HelperOn.needs_stay c.requires.ready.needed agrees
    (ap (λ (writer : Writer). writer.route) puts.new_is) (ap is_stalled puts.was) (ap (λ (writer : Writer). is_stalled writer.state) puts.new_is)
    c.note_call.ensures.step c.note_call.ensures.view c.note_call.ensures.told

pub returns-in-Ok-clause-written : goal.returns-in-Ok-clause-written
returns-in-Ok-clause-written g c =
    written_after_all g.W.Words.means g.H.HelperOn.needs g.H.HelperOn.helps (c.put_nested_here.ensures.unchanged c.if-put_nested_here.false) c.in-Ok.ensures.written

pub returns-in-Err-clause-written : goal.returns-in-Err-clause-written
returns-in-Err-clause-written g c =
    written_after_all g.W.Words.means g.H.HelperOn.needs g.H.HelperOn.helps (c.put_nested_here.ensures.unchanged c.if-put_nested_here.false) c.in-Err.ensures.written

pub returns-in-Ok-clause-asked : goal.returns-in-Ok-clause-asked
returns-in-Ok-clause-asked g c = λ needs.
    c.in-Ok.ensures.asked
    (ap (λ (writer : Writer). is_empty writer.state) (c.put_nested_here.ensures.unchanged c.if-put_nested_here.false)
    ∙ needs_empty c.args.writer.now.state (c.args.size + 4) needs
    (λ fragment was fits. absurd (true≢false (sym (c.put_nested_here.ensures.fits fragment was fits) ∙ c.if-put_nested_here.false))))

pub returns-in-Err-clause-asked : goal.returns-in-Err-clause-asked
returns-in-Err-clause-asked g c = λ needs.
    c.in-Err.ensures.asked
    (ap (λ (writer : Writer). is_empty writer.state) (c.put_nested_here.ensures.unchanged c.if-put_nested_here.false)
    ∙ needs_empty c.args.writer.now.state (c.args.size + 4) needs
    (λ fragment was fits. absurd (true≢false (sym (c.put_nested_here.ensures.fits fragment was fits) ∙ c.if-put_nested_here.false))))
