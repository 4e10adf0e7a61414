use Rattle.std.proofs.Common.{◌≡◌, ℕ, Bool, true, false, not, ◌&&◌, ◌||◌, Option, Some, None, IfNone, is_some, refl, sym, ap, ap₂, ◌∙◌, true≢false}
use Rattle.trace_model.specs.Buffers.{Buffer, BufferRecord, live_at}
use Rattle.trace_model.specs.Sequences.{Sequence, sequence_in, has_arrived, is_among}
use Rattle.trace_buffer.specs.Calls.{is_lost}
use Rattle.trace_buffer.proofs.RowLemmas.{row_of}
use Rattle.trace_buffer.proofs.buffer.TraceBuffer.lost.Goals as goal

none_told : {X : Type 0} (o : Option X) (P : Type 0) (b : Bool) → IfNone o P → is_some o ≡ not b → b ≡ true → P
none_told None P b is some none = is
none_told (Some x) P b is some none = absurd (true≢false (some ∙ ap not none))

answer : (v : Buffer) (sequence chunk_id : ℕ) (row : Sequence) (arrived final : Bool) → live_at v sequence chunk_id ≡ None → row ≡ sequence_in v.sequences sequence → arrived ≡ has_arrived row chunk_id → final ≡ is_among chunk_id row.final → (arrived || final) ≡ is_lost v sequence chunk_id
answer v sequence chunk_id row arrived final none row_is arrived_is final_is =
    ap₂ (λ x y. x || y) arrived_is final_is
    ∙ ap (λ (s : Sequence). has_arrived s chunk_id || is_among chunk_id s.final) row_is
    ∙ ap (λ (o : Option BufferRecord). not (is_some o) && (has_arrived (sequence_in v.sequences sequence) chunk_id || is_among chunk_id (sequence_in v.sequences sequence).final)) (sym none)

or_true : (x y : Bool) → x ≡ true → x ≡ (x || y)
or_true x y is = is ∙ sym (ap (λ b. b || y) is)

or_false : (x y : Bool) → x ≡ false → y ≡ (x || y)
or_false x y is = sym (ap (λ b. b || y) is)

pub returns-then-has_arrived : goal.returns-then-has_arrived
returns-then-has_arrived c =
    let row = row_of c.self.inside.rows.items c.deref.result.now c.find_row.result c.args.sequence _ _ c.index-row.result.now c.self.invariant.parts.once
    c.deref.ensures.value c.find_row.ensures.within c.find_row.ensures.number c.index-row.ensures
    ∙ ap (λ (b : Buffer). sequence_in b.sequences c.args.sequence) c.self.view_is in
    or_true c.has_arrived.result (is_among c.args.chunk_id c.index-row.result.now.final) c.if-has_arrived.true
    ∙ answer c.args.self.now c.args.sequence c.args.chunk_id c.index-row.result.now c.has_arrived.result (is_among c.args.chunk_id c.index-row.result.now.final)
    (none_told c.image_of.result (live_at c.args.self.now c.args.sequence c.args.chunk_id ≡ None) c.is_none.result c.image_of.ensures.none c.is_none.ensures c.if-is_none.true)
    row c.has_arrived.ensures refl

pub returns-else-has_arrived : goal.returns-else-has_arrived
returns-else-has_arrived c =
    let row = row_of c.self.inside.rows.items c.deref.result.now c.find_row.result c.args.sequence _ _ c.index-row.result.now c.self.invariant.parts.once
    c.deref.ensures.value c.find_row.ensures.within c.find_row.ensures.number c.index-row.ensures
    ∙ ap (λ (b : Buffer). sequence_in b.sequences c.args.sequence) c.self.view_is in
    or_false c.has_arrived.result c.is_final.result c.if-has_arrived.false
    ∙ answer c.args.self.now c.args.sequence c.args.chunk_id c.index-row.result.now c.has_arrived.result c.is_final.result
    (none_told c.image_of.result (live_at c.args.self.now c.args.sequence c.args.chunk_id ≡ None) c.is_none.result c.image_of.ensures.none c.is_none.ensures c.if-is_none.true)
    row c.has_arrived.ensures c.is_final.ensures
