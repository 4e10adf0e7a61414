use Rattle.std.proofs.Common.{◌≡◌, ◌<◌, ◌==◌, ◌&&◌, cond, List, length, map, get_or, count_by, sym, ap, ◌∙◌, subst, arith}
use Rattle.trace_model.specs.Buffers.{Buffer, BufferRecord}
use Rattle.trace_model.specs.Counts.{raised}
use Rattle.trace_model.specs.Patches.{closed_sequence, closed_buffer}
use Rattle.trace_model.specs.Sequences.{Sequence, fresh, is_known, sequence_in}
use Rattle.trace_buffer.specs.BufferFields.{buffer_view}
use Rattle.trace_buffer.specs.Closing.{PartsAreNear}
use Rattle.trace_buffer.specs.Records.{record_of}
use Rattle.trace_buffer.specs.Unfinished.{UnfinishedValue, awaiting_in}
use Rattle.trace_buffer.proofs.ClosingLemmas.{parts_near, keeps_closed, closed_is}
use Rattle.trace_buffer.proofs.CountLemmas.{count_at, counted_at}
use Rattle.trace_buffer.proofs.PartLemmas.{parts_at, sizes}
use Rattle.trace_buffer.proofs.RowLemmas.{row_of, changed_is}
use Rattle.trace_buffer.proofs.UnfinishedLemmas.{awaiting_records, counted_length}
use Rattle.trace_buffer.proofs.buffer.TraceBuffer.close_sequence.Goals as goal
use Rattle.trace_model.proofs.SequenceLemmas.{number_of}

pub close-requires : goal.close-requires
close-requires c =
    let row = row_of c.self.inside.rows.items c.deref.result.now c.find_row-i.result c.args.sequence _ _ c.index_mut-row.result.now c.self.invariant.parts.once
    c.deref.ensures.value c.find_row-i.ensures.within c.find_row-i.ensures.number c.index_mut-row.ensures.value in
    ap (λ (s : Sequence). s.closed) row ∙ ap (λ (b : Buffer). (sequence_in b.sequences c.args.sequence).closed) c.self.view_is ∙ c.requires.open

pub mark_parts-requires-clause-near : goal.mark_parts-requires-clause-near
mark_parts-requires-clause-near c =
    let row = row_of c.self.inside.rows.items c.deref.result.now c.find_row-i.result c.args.sequence _ _ c.index_mut-row.result.now c.self.invariant.parts.once
    c.deref.ensures.value c.find_row-i.ensures.within c.find_row-i.ensures.number c.index_mut-row.ensures.value in
    subst (λ (s : Sequence). PartsAreNear s c.self.inside.ring.live) (sym c.close.ensures.after)
    (parts_near c.self.inside.rows.items c.index_mut-row.result.now c.args.sequence c.self.inside.ring.live row (ap (λ (s : Sequence). s.number) row ∙ number_of c.self.inside.rows.items c.args.sequence (ap (λ (b : Buffer). is_known b.sequences c.args.sequence) c.self.view_is ∙ c.requires.known)) c.self.invariant.parts.kept)

pub mark_parts-requires-clause-counted : goal.mark_parts-requires-clause-counted
mark_parts-requires-clause-counted c = c.parts.ensures ∙ ap (λ (v : UnfinishedValue). v.parts) c.self.invariant.counted

pub awaiting_at-awaiting-requires : goal.awaiting_at-awaiting-requires
awaiting_at-awaiting-requires c =
    let long = counted_length c.self.inside.rows.items c.self.inside.ring.live c.self.inside.unfinished c.self.invariant.counted in
    let rows = ap length c.deref.ensures.value in
    omega (arith, long, rows, c.find_row-i.ensures.within)

pub invariant_of-self : goal.invariant_of-self
invariant_of-self c =
    let row = row_of c.self.inside.rows.items c.deref.result.now c.find_row-i.result c.args.sequence _ _ c.index_mut-row.result.now c.self.invariant.parts.once
    c.deref.ensures.value c.find_row-i.ensures.within c.find_row-i.ensures.number c.index_mut-row.ensures.value in
    let live : List BufferRecord = map record_of c.self.inside.ring.live in
    let rows = changed_is c.self.inside.rows.items c.find_row-i.result c.args.sequence _ _ (closed_sequence live) c.mark_parts.new.row c.self.invariant.parts.once
    (subst (λ (ss : List Sequence). c.find_row-i.result < length ss) c.deref.ensures.value c.find_row-i.ensures.within)
    (ap (λ (ss : List Sequence). (get_or ss c.find_row-i.result (fresh 0 0 0)).number) (sym c.deref.ensures.value) ∙ c.find_row-i.ensures.number)
    (closed_is live c.index_mut-row.result.now c.close.new.self c.mark_parts.new.row c.close.ensures.after c.mark_parts.ensures ∙ ap (closed_sequence live) c.index_mut-row.ensures.value) in
    record {
      parts = parts_at c.self.inside.ring c.self.inside.index c.self.inside.rows.items _ c.args.sequence (closed_sequence live) (keeps_closed live) c.self.invariant.parts rows;
      counted = counted_at c.self.inside.rows.items _ c.args.sequence (closed_sequence live) c.self.inside.ring.live c.self.inside.unfinished (sizes (keeps_closed live)) c.self.invariant.counted rows;
    }

pub returns : goal.returns
returns c =
    let row = row_of c.self.inside.rows.items c.deref.result.now c.find_row-i.result c.args.sequence _ _ c.index_mut-row.result.now c.self.invariant.parts.once
    c.deref.ensures.value c.find_row-i.ensures.within c.find_row-i.ensures.number c.index_mut-row.ensures.value in
    let live : List BufferRecord = map record_of c.self.inside.ring.live in
    let rows = changed_is c.self.inside.rows.items c.find_row-i.result c.args.sequence _ _ (closed_sequence live) c.mark_parts.new.row c.self.invariant.parts.once
    (subst (λ (ss : List Sequence). c.find_row-i.result < length ss) c.deref.ensures.value c.find_row-i.ensures.within)
    (ap (λ (ss : List Sequence). (get_or ss c.find_row-i.result (fresh 0 0 0)).number) (sym c.deref.ensures.value) ∙ c.find_row-i.ensures.number)
    (closed_is live c.index_mut-row.result.now c.close.new.self c.mark_parts.new.row c.close.ensures.after c.mark_parts.ensures ∙ ap (closed_sequence live) c.index_mut-row.ensures.value) in
    let awaiting : c.awaiting_at-awaiting.result ≡ count_by (λ (r : BufferRecord). (r.sequence == c.args.sequence) && r.chunk.awaits) live =
    c.awaiting_at-awaiting.ensures
    ∙ ap (λ (v : UnfinishedValue). get_or v.awaiting c.find_row-i.result 0) c.self.invariant.counted
    ∙ count_at c.self.inside.rows.items (awaiting_in c.self.inside.ring.live) c.find_row-i.result c.args.sequence 0 (fresh 0 0 0)
    (subst (λ (ss : List Sequence). c.find_row-i.result < length ss) c.deref.ensures.value c.find_row-i.ensures.within)
    (ap (λ (ss : List Sequence). (get_or ss c.find_row-i.result (fresh 0 0 0)).number) (sym c.deref.ensures.value) ∙ c.find_row-i.ensures.number)
    ∙ sym (awaiting_records c.args.sequence c.self.inside.ring.live) in
    let count : c.saturating_add-self-inside.result ≡ raised c.self.inside.unpatched (count_by (λ (r : BufferRecord). (r.sequence == c.args.sequence) && r.chunk.awaits) live) =
    omega (arith, awaiting, c.from.ensures, c.saturating_add-self-inside.ensures) in
    (λ j. record (buffer_view c.self.inside) { unpatched = count j; sequences = rows j })
    ∙ ap (λ (b : Buffer). closed_buffer b c.args.sequence) c.self.view_is
    ∙ sym (ap (λ b. cond b c.args.self.now (closed_buffer c.args.self.now c.args.sequence)) c.requires.open)
