use Rattle.std.proofs.Common.{◌≡◌, ℕ, ◌+◌, ◌*◌, ◌<◌, ◌≤◌, true, false, List, ◌++◌, [], ◌∷◌, length, sum_by, sym, ap, ◌∙◌, subst, arith, length-append}
use Rattle.std.specs.List.{find}
use Rattle.page_geometry.specs.Sizes.{record_size}
use Rattle.ring_bytes.specs.Value.{Stored, RingValue, placed, size_of}
use Rattle.ring_bytes.specs.declared.key.RecordKey.{RecordKey}
use Rattle.trace_model.specs.Arrivals.{is_too_far}
use Rattle.trace_model.specs.Buffers.{Buffer, meets, live_at, is_of}
use Rattle.trace_model.specs.Sequences.{Sequence, is_known, sequence_in, has_arrived}
use Rattle.trace_buffer.specs.BufferFields.{IsKept}
use Rattle.trace_buffer.specs.Records.{meets_record}
use Rattle.trace_buffer.specs.Unfinished.{unfinished_of, HaveOneMore}
use Rattle.trace_buffer.proofs.FindLemmas.{find_no_record}
use Rattle.trace_buffer.proofs.KeptLemmas.{parts_more}
use Rattle.trace_buffer.proofs.KeepLemmas.{free_is, absent_is, roomy, roomy_kept, roomy_with, few_entries}
use Rattle.trace_buffer.proofs.UnfinishedLemmas.{placed_counted, few_unfinished}
use Rattle.trace_buffer.proofs.buffer.TraceBuffer.keep.Goals as goal

pub write-at-requires-clause-free : goal.write-at-requires-clause-free
write-at-requires-clause-free c =
    free_is c.self.inside.ring (record_size (length c.args.payload.now))
    (ap (λ (b : Buffer). find (meets b (record_size (length c.args.payload.now))) b.live) c.self.view_is ∙ c.requires.free)

pub add-requires-clause-absent : goal.add-requires-clause-absent
add-requires-clause-absent c =
    c.self.invariant.parts.indexed.found c.args.key.sequence c.args.key.chunk_id (omega arith) (omega arith)
    ∙ absent_is c.self.inside.ring c.args.key.sequence c.args.key.chunk_id
    (ap (λ (b : Buffer). live_at b c.args.key.sequence c.args.key.chunk_id) c.self.view_is ∙ c.requires.none)

pub add-requires-clause-room : goal.add-requires-clause-room
add-requires-clause-room c =
    let ring : RingValue = c.self.inside.ring in
    let new : Stored = placed ring c.args.key c.args.payload.now in
    let known : is_known c.self.inside.rows.items c.args.key.sequence ≡ true =
    ap (λ (b : Buffer). is_known b.sequences c.args.key.sequence) c.self.view_is ∙ c.requires.known in
    let size : record_size (length c.args.payload.now) ≡ (sequence_in c.self.inside.rows.items c.args.key.sequence).size =
    c.requires.size ∙ sym (ap (λ (b : Buffer). (sequence_in b.sequences c.args.key.sequence).size) c.self.view_is) in
    let one : ring.room < size_of new * (c.self.inside.index.capacity + 1) =
    subst (λ n. ring.room < n * (c.self.inside.index.capacity + 1)) (sym size)
    (roomy ring.room c.self.inside.index.capacity c.args.key.sequence c.self.inside.rows.items c.self.invariant.parts.fit known) in
    let few : sum_by size_of (ring.live ++ new ∷ []) ≤ ring.room =
    subst (λ (r : RingValue). sum_by size_of r.live ≤ r.room) c.write-at.ensures.after c.write-at.ensures.few in
    let most = few_entries ring.room c.self.inside.index.capacity (ring.live ++ new ∷ [])
    (roomy_with ring.room c.self.inside.index.capacity ring.live new (roomy_kept ring.room c.self.inside.index.capacity c.self.inside.rows.items ring.live c.self.invariant.parts.fit c.self.invariant.parts.kept) one)
    few in
    omega (arith, most, length-append ring.live (new ∷ []), c.self.invariant.parts.indexed.few)

pub add-requires-2-clause-few : goal.add-requires-2-clause-few
add-requires-2-clause-few c =
    let view : c.self.inside.ring.room ≡ c.args.self.now.room = ap (λ (b : Buffer). b.room) c.self.view_is in
    few_unfinished c.self.inside.ring.room c.self.inside.rows.items c.self.inside.ring.live c.self.inside.unfinished c.place_next-padding.ensures.few (omega (arith, view, c.requires.small)) c.self.invariant.counted

pub invariant_of-self : goal.invariant_of-self
invariant_of-self c =
    let ring : RingValue = c.self.inside.ring in
    let key : RecordKey = c.args.key in
    let payload : List ℕ = c.args.payload.now in
    let view = c.self.view_is in
    let kept : IsKept c.self.inside.rows.items (placed ring key payload) = record {
      known = ap (λ (b : Buffer). is_known b.sequences key.sequence) view ∙ c.requires.known;
      size = c.requires.size ∙ sym (ap (λ (b : Buffer). (sequence_in b.sequences key.sequence).size) view);
      reads = c.requires.reads;
      number = omega arith;
      id = omega arith;
      part = λ partial. subst (λ (b : Buffer). (has_arrived (sequence_in b.sequences key.sequence) key.chunk_id ≡ false) × (is_too_far (sequence_in b.sequences key.sequence) key.chunk_id ≡ false)) (sym view) (c.requires.part partial);
    } in
    record {
      parts = parts_more ring c.write-at.new.self c.self.inside.index c.add.new.self c.self.inside.rows.items key payload c.write-at.result
          c.self.invariant.parts c.write-at.ensures.after c.write-at.ensures.at c.add.ensures
          (find_no_record (is_of key.sequence key.chunk_id) ring.live (ap (λ (b : Buffer). live_at b key.sequence key.chunk_id) view ∙ c.requires.none))
          (find_no_record (meets_record ring (record_size (length payload))) ring.live (ap (λ (b : Buffer). find (meets b (record_size (length payload))) b.live) view ∙ c.requires.free))
          kept;
      counted = placed_counted c.self.inside.rows.items ring.live (placed ring key payload) c.self.inside.unfinished c.add-2.new.self c.self.invariant.counted
          (subst (λ (ss : List Sequence). HaveOneMore ss key c.self.inside.unfinished c.add-2.new.self) c.deref.ensures.value c.add-2.ensures)
          ∙ ap (λ (r : RingValue). unfinished_of c.self.inside.rows.items r.live) (sym c.write-at.ensures.after);
    }
