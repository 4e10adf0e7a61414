use Rattle.std.proofs.Common.{◌≡◌, ◌∙◌, ℕ, Some, None, Err, rules, refl, sym, ap, subst}
use Rattle.trace_model.specs.Encoding.{number_field}
use Rattle.trace_model.specs.Packets.{with_more}
use Rattle.trace_model.specs.Calls as call
use Rattle.trace_writer.specs.Agreement.{NeedsNoChunk, open_message_count, len_of}
use Rattle.trace_writer.specs.Core.{field_fault}
use Rattle.trace_writer.specs.Refusals.{field_refusal}
use Rattle.trace_writer.proofs.seat_calls.CoreCalls.{more_keeps}
use Rattle.trace_writer.proofs.seat_calls.CoreDone.{makes_none, makes_written, inside_written, deep_written}
use Rattle.trace_writer.proofs.seat_calls.CoreLemmas.{field_fault_is}
use Rattle.trace_writer.proofs.accounts.Possible.{more_keeps as more_fate}
use Rattle.trace_writer.proofs.writer.WriterCore.varint.Goals as goal

pub returns-in_err-check_field-clause-call : goal.returns-in_err-check_field-clause-call
returns-in_err-check_field-clause-call g c =
    let found = c.in_err-check_field.field-0.0 in let core = c.args.self.now in let view = g.W.Words.means.view c.args.table.now core.seat in
    let result_is : c.from_residual.result ≡ Err found = search rules in
    let is = field_fault_is (g.W.Words.means.setup c.args.table.now) (g.W.Words.means.place core.seat) view core.writer c.args.field c.from.result c.requires.may_call.agrees.writes c.requires.begun
    ∙ ap (λ (size : ℕ). field_fault view c.args.field size) (c.from.ensures ∙ c.number_size-size.ensures) in
    let refused : field_refusal (open_message_count core.writer.packet) (len_of core.writer.packet) c.args.field c.from.result ≡ Some found = c.in_err-check_field.ensures.refused in
    makes_none (call.Number c.args.field c.args.value) found c.requires.may_call (sym is ∙ refused) result_is

pub returns-clause-call : goal.returns-clause-call
returns-clause-call g c =
    let core = c.args.self.now in let view = g.W.Words.means.view c.args.table.now core.seat in
    let is = field_fault_is (g.W.Words.means.setup c.args.table.now) (g.W.Words.means.place core.seat) view core.writer c.args.field c.from.result c.requires.may_call.agrees.writes c.requires.begun
    ∙ ap (λ (size : ℕ). field_fault view c.args.field size) (c.from.ensures ∙ c.number_size-size.ensures) in
    let accepted : field_refusal (open_message_count core.writer.packet) (len_of core.writer.packet) c.args.field c.from.result ≡ None = c.in_ok-check_field.ensures.accepted in
    makes_written g.W.Words.means g.H.HelperOn.needs g.H.HelperOn.helps (call.Number c.args.field c.args.value) (with_more (number_field c.args.field c.args.value))
    c.requires.may_call c.requires.begun refl (λ account. refl) (more_fate (number_field c.args.field c.args.value)) c.requires.begun (sym is ∙ accepted) c.write_number.ensures.written

pub returns-clause-in_packet : goal.returns-clause-in_packet
returns-clause-in_packet g c =
    inside_written g.W.Words.means g.H.HelperOn.needs g.H.HelperOn.helps (call.Number c.args.field c.args.value) (with_more (number_field c.args.field c.args.value))
    c.requires.begun (λ account. refl) (more_fate (number_field c.args.field c.args.value)) c.write_number.ensures.written

pub returns-clause-depth : goal.returns-clause-depth
returns-clause-depth g c =
    deep_written g.W.Words.means g.H.HelperOn.needs g.H.HelperOn.helps (call.Number c.args.field c.args.value) (with_more (number_field c.args.field c.args.value))
    (λ account. refl) (more_keeps (number_field c.args.field c.args.value)) c.write_number.ensures.written

pub returns-clause-asked : goal.returns-clause-asked
returns-clause-asked g c = λ needs.
    c.write_number.ensures.asked (subst (λ (n : ℕ). NeedsNoChunk c.args.self.now.writer.state n) (sym c.number_size-size.ensures) needs)
