use Rattle.std.proofs.Common.{◌≡◌, ◌∙◌, ℕ, ◌+◌, Some, None, Err, length, rules, refl, sym, ap, subst}
use Rattle.trace_model.specs.Encoding.{nested_tag}
use Rattle.trace_model.specs.Packets.{with_nested}
use Rattle.trace_model.specs.Calls as call
use Rattle.trace_writer.specs.Agreement.{NeedsNoChunk, open_message_count, len_of}
use Rattle.trace_writer.specs.Refusals.{nested_refusal}
use Rattle.trace_writer.proofs.seat_calls.CoreDone.{makes_none, makes_written, inside_written}
use Rattle.trace_writer.proofs.seat_calls.CoreLemmas.{nested_fault_is}
use Rattle.trace_writer.proofs.accounts.Possible.{nested_keeps}
use Rattle.trace_writer.proofs.writer.WriterCore.begin_nested.Goals as goal

pub returns-in_err-check_nested-clause-call : goal.returns-in_err-check_nested-clause-call
returns-in_err-check_nested-clause-call g c =
    let found = c.in_err-check_nested.field-0.0 in let core = c.args.self.now in
    let result_is : c.from_residual.result ≡ Err found = search rules in
    let is = nested_fault_is (g.W.Words.means.setup c.args.table.now) (g.W.Words.means.place core.seat) (g.W.Words.means.view c.args.table.now core.seat) core.writer c.args.field (nested_tag c.args.field) c.requires.may_call.agrees.writes c.requires.begun refl in
    let refused : nested_refusal (open_message_count core.writer.packet) (len_of core.writer.packet) c.args.field (length (nested_tag c.args.field)) ≡ Some found =
    ap (λ (n : ℕ). nested_refusal (open_message_count core.writer.packet) (len_of core.writer.packet) c.args.field n) (sym c.nested_tag_size-size.ensures.is) ∙ c.in_err-check_nested.ensures.refused in
    makes_none (call.Nested c.args.field) found c.requires.may_call (sym is ∙ refused) result_is

pub returns-clause-call : goal.returns-clause-call
returns-clause-call g c =
    let core = c.args.self.now in
    let is = nested_fault_is (g.W.Words.means.setup c.args.table.now) (g.W.Words.means.place core.seat) (g.W.Words.means.view c.args.table.now core.seat) core.writer c.args.field (nested_tag c.args.field) c.requires.may_call.agrees.writes c.requires.begun refl in
    let accepted : nested_refusal (open_message_count core.writer.packet) (len_of core.writer.packet) c.args.field (length (nested_tag c.args.field)) ≡ None =
    ap (λ (n : ℕ). nested_refusal (open_message_count core.writer.packet) (len_of core.writer.packet) c.args.field n) (sym c.nested_tag_size-size.ensures.is) ∙ c.in_ok-check_nested.ensures.accepted in
    makes_written g.W.Words.means g.H.HelperOn.needs g.H.HelperOn.helps (call.Nested c.args.field) (with_nested c.args.field)
    c.requires.may_call c.requires.begun refl (λ account. refl) (nested_keeps c.args.field) c.requires.begun (sym is ∙ accepted) c.write_nested.ensures.written

pub returns-clause-in_packet : goal.returns-clause-in_packet
returns-clause-in_packet g c =
    inside_written g.W.Words.means g.H.HelperOn.needs g.H.HelperOn.helps (call.Nested c.args.field) (with_nested c.args.field)
    c.requires.begun (λ account. refl) (nested_keeps c.args.field) c.write_nested.ensures.written

pub returns-clause-asked : goal.returns-clause-asked
returns-clause-asked g c = λ needs.
    c.write_nested.ensures.asked (subst (λ (n : ℕ). NeedsNoChunk c.args.self.now.writer.state n)
    (ap (λ (n : ℕ). n + 4) (sym c.nested_tag_size-size.ensures.is)) needs)
