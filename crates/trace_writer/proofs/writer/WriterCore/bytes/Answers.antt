use Rattle.std.proofs.Common.{◌≡◌, ◌∙◌, ℕ, ◌+◌, ◌*◌, min, Some, None, Err, List, length, rules, refl, sym, ap, subst}
use Rattle.trace_base.specs.declared.limits.TheConstants.{MAX_PACKET_LEN}
use Rattle.trace_model.specs.Encoding.{bytes_head, bytes_field}
use Rattle.trace_model.specs.Packets.{with_more}
use Rattle.trace_model.specs.Calls as call
use Rattle.trace_writer.specs.Agreement.{NeedsNoChunk, open_message_count, len_of}
use Rattle.trace_writer.specs.Refusals.{field_refusal}
use Rattle.trace_writer.proofs.seat_calls.CoreCalls.{more_keeps}
use Rattle.trace_writer.proofs.seat_calls.CoreDone.{makes_none, makes_written, inside_written, deep_written}
use Rattle.trace_writer.proofs.seat_calls.CoreLemmas.{field_fault_is, bytes_fault, accepted_head, bytes_call}
use Rattle.trace_writer.proofs.accounts.Possible.{more_keeps as more_fate}
use Rattle.trace_writer.proofs.writer.WriterCore.bytes.Goals as goal

pub returns-in_err-check_field-clause-call : goal.returns-in_err-check_field-clause-call
returns-in_err-check_field-clause-call g c =
    let found = c.in_err-check_field.field-0.0 in let core = c.args.self.now in let view = g.W.Words.means.view c.args.table.now core.seat in
    let result_is : c.from_residual.result ≡ Err found = search rules in
    let total : ℕ = c.args.times * length c.args.value.now in
    let counted : c.min-counted.result ≡ min total MAX_PACKET_LEN = search rules in
    let head = bytes_head c.args.field c.min-counted.result in
    let long : length head + total ≡ c.from-3.result + c.from.result * length c.args.value.now =
    ap (λ (n : ℕ). n + total) (sym (c.from-3.ensures ∙ c.bytes_head_size-size.ensures.is))
    ∙ ap (λ (n : ℕ). c.from-3.result + n * length c.args.value.now) (sym c.from.ensures) in
    let is = bytes_fault (open_message_count core.writer.packet) (len_of core.writer.packet) c.args.field total c.min-counted.result head refl counted
    ∙ field_fault_is (g.W.Words.means.setup c.args.table.now) (g.W.Words.means.place core.seat) view core.writer c.args.field (length (bytes_head c.args.field total) + total) c.requires.may_call.agrees.writes c.requires.begun in
    let refused : field_refusal (open_message_count core.writer.packet) (len_of core.writer.packet) c.args.field (length head + total) ≡ Some found =
    ap (λ (n : ℕ). field_refusal (open_message_count core.writer.packet) (len_of core.writer.packet) c.args.field n) long ∙ c.in_err-check_field.ensures.refused in
    makes_none (call.Bytes c.args.field c.args.value.now c.args.times) found c.requires.may_call (sym is ∙ refused) result_is

pub returns-clause-call : goal.returns-clause-call
returns-clause-call g c =
    let core = c.args.self.now in let view = g.W.Words.means.view c.args.table.now core.seat in
    let bytes = bytes_field c.args.field c.args.value.now c.args.times in
    let total : ℕ = c.args.times * length c.args.value.now in
    let counted : c.min-counted.result ≡ min total MAX_PACKET_LEN = search rules in
    let head = bytes_head c.args.field c.min-counted.result in
    let long : length head + total ≡ c.from-3.result + c.from.result * length c.args.value.now =
    ap (λ (n : ℕ). n + total) (sym (c.from-3.ensures ∙ c.bytes_head_size-size.ensures.is))
    ∙ ap (λ (n : ℕ). c.from-3.result + n * length c.args.value.now) (sym c.from.ensures) in
    let is = bytes_fault (open_message_count core.writer.packet) (len_of core.writer.packet) c.args.field total c.min-counted.result head refl counted
    ∙ field_fault_is (g.W.Words.means.setup c.args.table.now) (g.W.Words.means.place core.seat) view core.writer c.args.field (length (bytes_head c.args.field total) + total) c.requires.may_call.agrees.writes c.requires.begun in
    let accepted : field_refusal (open_message_count core.writer.packet) (len_of core.writer.packet) c.args.field (length head + total) ≡ None =
    ap (λ (n : ℕ). field_refusal (open_message_count core.writer.packet) (len_of core.writer.packet) c.args.field n) long ∙ c.in_ok-check_field.ensures.accepted in
    makes_written g.W.Words.means g.H.HelperOn.needs g.H.HelperOn.helps (call.Bytes c.args.field c.args.value.now c.args.times) (with_more bytes)
    c.requires.may_call c.requires.begun refl (λ account. refl) (more_fate bytes) c.requires.begun (sym is ∙ accepted) c.write_text.ensures.written

pub returns-clause-in_packet : goal.returns-clause-in_packet
returns-clause-in_packet g c =
    let bytes = bytes_field c.args.field c.args.value.now c.args.times in
    inside_written g.W.Words.means g.H.HelperOn.needs g.H.HelperOn.helps (call.Bytes c.args.field c.args.value.now c.args.times) (with_more bytes)
    c.requires.begun (λ account. refl) (more_fate bytes) c.write_text.ensures.written

pub returns-clause-depth : goal.returns-clause-depth
returns-clause-depth g c =
    let bytes = bytes_field c.args.field c.args.value.now c.args.times in
    deep_written g.W.Words.means g.H.HelperOn.needs g.H.HelperOn.helps (call.Bytes c.args.field c.args.value.now c.args.times) (with_more bytes)
    (λ account. refl) (more_keeps bytes) c.write_text.ensures.written

pub write_text-requires-clause-call : goal.write_text-requires-clause-call
write_text-requires-clause-call g c = λ account.
    let total : ℕ = c.args.times * length c.args.value.now in
    let counted : c.min-counted.result ≡ min total MAX_PACKET_LEN = search rules in
    let head = bytes_head c.args.field c.min-counted.result in
    let long : length head + total ≡ c.from-3.result + c.from.result * length c.args.value.now =
    ap (λ (n : ℕ). n + total) (sym (c.from-3.ensures ∙ c.bytes_head_size-size.ensures.is))
    ∙ ap (λ (n : ℕ). c.from-3.result + n * length c.args.value.now) (sym c.from.ensures) in
    bytes_call c.args.field c.args.times c.args.value.now head account
    (accepted_head (open_message_count c.args.self.now.writer.packet) (len_of c.args.self.now.writer.packet) c.args.field total c.min-counted.result head refl counted
    (ap (λ (n : ℕ). field_refusal (open_message_count c.args.self.now.writer.packet) (len_of c.args.self.now.writer.packet) c.args.field n) long ∙ c.in_ok-check_field.ensures.accepted))

pub returns-clause-asked : goal.returns-clause-asked
returns-clause-asked g c = λ needs.
    let total : ℕ = c.args.times * length c.args.value.now in
    let counted : c.min-counted.result ≡ min total MAX_PACKET_LEN = search rules in
    let head = bytes_head c.args.field c.min-counted.result in
    let long : length head + total ≡ c.from-3.result + c.from.result * length c.args.value.now =
    ap (λ (n : ℕ). n + total) (sym (c.from-3.ensures ∙ c.bytes_head_size-size.ensures.is))
    ∙ ap (λ (n : ℕ). c.from-3.result + n * length c.args.value.now) (sym c.from.ensures) in
    c.write_text.ensures.asked (subst (λ (n : ℕ). NeedsNoChunk c.args.self.now.writer.state n)
    (ap (λ (bytes : List ℕ). length bytes + total) (sym (accepted_head (open_message_count c.args.self.now.writer.packet) (len_of c.args.self.now.writer.packet) c.args.field total c.min-counted.result head refl counted
    (ap (λ (n : ℕ). field_refusal (open_message_count c.args.self.now.writer.packet) (len_of c.args.self.now.writer.packet) c.args.field n) long ∙ c.in_ok-check_field.ensures.accepted)))
    ∙ ap (λ (n : ℕ). n + total) (sym c.bytes_head_size-size.ensures.is)) needs)
