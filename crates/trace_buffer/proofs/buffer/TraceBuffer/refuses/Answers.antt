use Rattle.std.proofs.Common.{◌≤◌, ◌&&◌, ◌||◌, List, map, sym, ap, ap₂, ◌∙◌, subst}
use Rattle.std.specs.List.{list_any}
use Rattle.trace_model.specs.Arrivals.{is_refused}
use Rattle.trace_model.specs.Buffers.{Buffer, BufferRecord, discards, is_unread}
use Rattle.trace_model.specs.Sequences.{Sequence, is_known, sequence_in}
use Rattle.trace_buffer.specs.Records.{record_of, meets_record}
use Rattle.trace_buffer.proofs.RowLemmas.{row_of, size_fits}
use Rattle.trace_buffer.proofs.buffer.TraceBuffer.refuses.Goals as goal

pub meets_unread-requires-clause-len : goal.meets_unread-requires-clause-len
meets_unread-requires-clause-len c =
    let row = row_of c.self.inside.rows.items c.deref.result.now c.find_row.result c.args.sequence _ _ c.index.result.now c.self.invariant.parts.once
    c.deref.ensures.value c.find_row.ensures.within c.find_row.ensures.number c.index.ensures in
    subst (λ n. n ≤ c.self.inside.ring.room) (sym (c.size-size.ensures ∙ ap (λ (s : Sequence). s.size) row))
    (size_fits c.self.inside.ring.room c.self.inside.index.capacity c.args.sequence c.self.inside.rows.items c.self.invariant.parts.fit
    (ap (λ (b : Buffer). is_known b.sequences c.args.sequence) c.self.view_is ∙ c.requires))

pub returns-else-self : goal.returns-else-self
returns-else-self c =
    let row = row_of c.self.inside.rows.items c.deref.result.now c.find_row.result c.args.sequence _ _ c.index.result.now c.self.invariant.parts.once
    c.deref.ensures.value c.find_row.ensures.within c.find_row.ensures.number c.index.ensures in
    c.meets_unread.ensures
    ∙ ap₂ (λ (rows : List Sequence) n. list_any (λ (r : BufferRecord). meets_record c.self.inside.ring n r && is_unread rows r) (map record_of c.self.inside.ring.live))
    c.deref-else-self.ensures.value (c.size-size.ensures ∙ ap (λ (s : Sequence). s.size) row)
    ∙ sym
    (ap₂ (λ p b. discards p && (b || list_any (λ (r : BufferRecord). meets_record c.self.inside.ring (sequence_in c.self.inside.rows.items c.args.sequence).size r && is_unread c.self.inside.rows.items r) (map record_of c.self.inside.ring.live))) c.in-Discard.is c.if-self.false)
    ∙ ap (λ (b : Buffer). is_refused b (sequence_in b.sequences c.args.sequence).size) c.self.view_is
