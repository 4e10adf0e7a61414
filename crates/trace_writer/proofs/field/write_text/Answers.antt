use Rattle.std.proofs.Common.{◌∙◌, ℕ, ◌+◌, ◌*◌, ◌≤◌, ◌++◌, length, refl, sym, ap, subst}
use Rattle.std.specs.List.{repeat}
use Rattle.trace_model.specs.Calls.{Bytes}
use Rattle.trace_model.specs.Encoding.{bytes_head}
use Rattle.trace_writer.specs.Agreement.{len_of}
use Rattle.trace_writer.proofs.accounts.Calling.{field_long}
use Rattle.std.proofs.lemmas.Bool.{true≢false}
use Rattle.trace_writer.specs.declared.state.Writer.{Writer}
use Rattle.trace_writer.specs.Empty.{is_empty, is_stalled}
use Rattle.trace_writer.proofs.packets.InPlace.{agrees_put, needs_empty}
use Rattle.trace_writer.proofs.packets.Written.{written_alone, ready_after_all, written_after_all}
use Rattle.trace_writer.proofs.field.write_text.Goals as goal

pub write_text_on-requires-clause-ready : goal.write_text_on-requires-clause-ready
write_text_on-requires-clause-ready g c =
    ready_after_all (c.put_text_here.ensures.unchanged c.if-put_text_here.false) c.requires.ready

pub returns-then-put_text_here-clause-written : goal.returns-then-put_text_here-clause-written
returns-then-put_text_here-clause-written g c =
    let puts = c.if-put_text_here.ensures.puts refl in
    let call = Bytes c.args.field c.args.text.now c.args.times in
    let head = bytes_head c.args.field c.args.len in
    let agrees = agrees_put (g.W.Words.means.setup c.args.table.now) (g.W.Words.means.place c.args.seat.now) (g.W.Words.means.view c.args.table.now c.args.seat.now)
    (g.W.Words.means.view c.note_call.new.self c.note_call.new.seat) c.args.writer.now c.put_text_here.new.writer (head ++ repeat c.args.times c.args.text.now) call
    c.requires.ready.at_work.agrees puts
    (subst (λ (n : ℕ). len_of c.args.writer.now.packet + n ≤ 1048576) (sym (field_long head c.args.text.now c.args.times))
    (subst (λ (n : ℕ). len_of c.args.writer.now.packet + (n + c.args.times * length c.args.text.now) ≤ 1048576) c.requires.size c.requires.fits))
    c.requires.call c.note_call.ensures.view in
    written_alone g.W.Words.means g.H.HelperOn.needs g.H.HelperOn.helps call c.args.writer.now c.args.help.now c.args.table.now c.args.seat.now c.args.steps.now _
    c.put_text_here.new.writer c.note_call.new.self c.note_call.new.seat _ c.requires.ready.at_work.seat_sits g.met.H.HelperOn.needs_stay c.requires.ready.needed agrees
    (ap (λ (writer : Writer). writer.route) puts.new_is) (ap is_stalled puts.was) (ap (λ (writer : Writer). is_stalled writer.state) puts.new_is)
    c.note_call.ensures.step c.note_call.ensures.view c.note_call.ensures.told

pub returns-in-Ok-clause-written : goal.returns-in-Ok-clause-written
returns-in-Ok-clause-written g c =
    written_after_all g.W.Words.means g.H.HelperOn.needs g.H.HelperOn.helps (c.put_text_here.ensures.unchanged c.if-put_text_here.false) c.in-Ok.ensures.written

pub returns-in-Err-clause-written : goal.returns-in-Err-clause-written
returns-in-Err-clause-written g c =
    written_after_all g.W.Words.means g.H.HelperOn.needs g.H.HelperOn.helps (c.put_text_here.ensures.unchanged c.if-put_text_here.false) c.in-Err.ensures.written

pub returns-in-Ok-clause-asked : goal.returns-in-Ok-clause-asked
returns-in-Ok-clause-asked g c = λ needs.
    c.in-Ok.ensures.asked
    (ap (λ (writer : Writer). is_empty writer.state) (c.put_text_here.ensures.unchanged c.if-put_text_here.false)
    ∙ needs_empty c.args.writer.now.state (c.args.size + c.args.times * length c.args.text.now) needs
    (λ fragment was fits. absurd (true≢false (sym (c.put_text_here.ensures.fits fragment was fits) ∙ c.if-put_text_here.false))))

pub returns-in-Err-clause-asked : goal.returns-in-Err-clause-asked
returns-in-Err-clause-asked g c = λ needs.
    c.in-Err.ensures.asked
    (ap (λ (writer : Writer). is_empty writer.state) (c.put_text_here.ensures.unchanged c.if-put_text_here.false)
    ∙ needs_empty c.args.writer.now.state (c.args.size + c.args.times * length c.args.text.now) needs
    (λ fragment was fits. absurd (true≢false (sym (c.put_text_here.ensures.fits fragment was fits) ∙ c.if-put_text_here.false))))
