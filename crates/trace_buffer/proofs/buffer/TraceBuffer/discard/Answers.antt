use Rattle.std.proofs.Common.{◌≡◌, Bool, true, false, not, cond, refl, sym, ap, ◌∙◌, arith, true≢false}
use Rattle.std.specs.Vec.{with_items}
use Rattle.ring_bytes.specs.declared.key.RecordKey.{RecordKey}
use Rattle.trace_model.specs.Arrivals.{with_discarded, discarded_buffer}
use Rattle.trace_model.specs.Buffers.{Buffer}
use Rattle.trace_model.specs.Counts.{raised}
use Rattle.trace_model.specs.Sequences.{changed_at}
use Rattle.trace_buffer.specs.BufferFields.{buffer_view}
use Rattle.trace_buffer.specs.Records.{chunk_of}
use Rattle.trace_buffer.proofs.LossLemmas.{discarded_is}
use Rattle.trace_buffer.specs.Keys.{discarded_by}
use Rattle.trace_buffer.proofs.CountLemmas.{counted_after}
use Rattle.trace_buffer.proofs.PartLemmas.{rows_after, parts_after, keeps_discarded, sizes}
use Rattle.trace_buffer.proofs.buffer.TraceBuffer.discard.Goals as goal

pub invariant_of-self : goal.invariant_of-self
invariant_of-self c =
    record {
      parts = parts_after c.self.inside.ring c.self.inside.index c.self.inside.rows c.deref_mut.result.now c.note_discarded.new.rows c.args.key.sequence
          (discarded_by c.args.key) (keeps_discarded c.args.key) c.self.invariant.parts c.deref_mut.ensures.value c.note_discarded.ensures;
      counted = counted_after c.self.inside.rows c.deref_mut.result.now c.note_discarded.new.rows c.args.key.sequence (discarded_by c.args.key) c.self.inside.ring.live c.self.inside.unfinished
          (sizes (keeps_discarded c.args.key)) c.self.invariant.counted c.deref_mut.ensures.value c.note_discarded.ensures;
    }

no_part : (b : Bool) → not b ≡ true → b ≡ false
no_part true is = absurd (true≢false (sym is))
no_part false is = refl

pub returns-then-not-key : goal.returns-then-not-key
returns-then-not-key c payload reads =
    let key : RecordKey = c.args.key in
    let rows : (with_items c.self.inside.rows c.note_discarded.new.rows).items ≡ changed_at key.sequence (with_discarded key.chunk_id (chunk_of key payload)) c.self.inside.rows.items =
    rows_after c.self.inside.rows c.deref_mut.result.now c.note_discarded.new.rows key.sequence (discarded_by key) c.deref_mut.ensures.value c.note_discarded.ensures
    ∙ (λ i. changed_at key.sequence (λ s. discarded_is s key payload reads i) c.self.inside.rows.items) in
    let count : c.saturating_add-self-inside.result ≡ raised c.self.inside.discarded 1 = omega (arith, c.saturating_add-self-inside.ensures) in
    (λ i. record (buffer_view c.self.inside) { shut = true; discarded = count i; sequences = rows i })
    ∙ ap (λ (b : Buffer). discarded_buffer b key.sequence key.chunk_id (chunk_of key payload)) c.self.view_is
    ∙ ap (λ p. cond p (record c.args.self.now { shut = true }) (discarded_buffer c.args.self.now key.sequence key.chunk_id (chunk_of key payload))) (sym (no_part key.partial c.if-not-key.true))
