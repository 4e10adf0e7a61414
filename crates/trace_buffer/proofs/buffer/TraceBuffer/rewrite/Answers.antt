use Rattle.std.proofs.Common.{◌≡◌, List, length, Some, refl, sym, ap, ap₂, ◌∙◌, subst, arith, false, None, is_some, true≢false}
use Rattle.std.specs.Option.{option_map}
use Rattle.ring_bytes.specs.declared.key.RecordKey.{RecordKey}
use Rattle.ring_bytes.specs.Value.{Stored, RingValue, size_of, without_stored, with_contents}
use Rattle.trace_model.specs.Arrivals.{is_too_far, with_rewritten}
use Rattle.trace_model.specs.Buffers.{Buffer, live_at}
use Rattle.trace_model.specs.Counts.{raised}
use Rattle.trace_model.specs.Sequences.{Sequence, is_known, sequence_in, has_arrived}
use Rattle.trace_buffer.specs.BufferFields.{buffer_view}
use Rattle.trace_buffer.specs.Records.{record_of, chunk_of, is_at_key}
use Rattle.trace_buffer.specs.Unfinished.{unfinished_of, HaveOneMore, HaveOneLess, HaveOne}
use Rattle.trace_buffer.proofs.ChangeLemmas.{parts_rewritten, records_rewritten}
use Rattle.trace_buffer.proofs.FindLemmas.{is_found, kept_found, mapped, place_had, its_sequence, none_is, live_is}
use Rattle.trace_buffer.proofs.UnfinishedLemmas.{there_counted, dropped_counted, changed_counted, counted_length, few_without, only_of}
use Rattle.trace_buffer.proofs.buffer.TraceBuffer.rewrite.Goals as goal

pub rewrite-requires-clause-there : goal.rewrite-requires-clause-there
rewrite-requires-clause-there c =
    let f = is_found c.self.inside.ring c.args.key.sequence c.args.key.chunk_id c.in-Some.place c.find_place.result c.in-Some.is c.find_place.ensures.place c.find_place.ensures.there in
    let kept = kept_found (is_at_key c.args.key.sequence c.args.key.chunk_id) c.self.inside.rows.items c.self.inside.ring.live f.stored c.self.invariant.parts.kept f.found in
    ap (option_map size_of) f.there
    ∙ ap (λ n. Some n)
    (kept.size
    ∙ ap (λ n. (sequence_in c.self.inside.rows.items n).size) (its_sequence c.args.key.sequence c.args.key.chunk_id c.self.inside.ring.live f.stored f.found)
    ∙ ap (λ (b : Buffer). (sequence_in b.sequences c.args.key.sequence).size) c.self.view_is
    ∙ sym c.requires.size)

pub take-requires-clause-known : goal.take-requires-clause-known
take-requires-clause-known c =
    let f = is_found c.self.inside.ring c.args.key.sequence c.args.key.chunk_id c.in-Some.place c.find_place.result c.in-Some.is c.find_place.ensures.place c.find_place.ensures.there in
    let kept = kept_found (is_at_key c.args.key.sequence c.args.key.chunk_id) c.self.inside.rows.items c.self.inside.ring.live f.stored c.self.invariant.parts.kept f.found in
    let before : c.key_at-before.result ≡ f.stored.key = mapped (λ (t : Stored). t.key) _ f.stored c.key_at-before.result f.there c.key_at-before.ensures in
    ap₂ (λ (ss : List Sequence) (k : RecordKey). is_known ss k.sequence) c.deref-2.ensures.value before ∙ kept.known

pub take-requires-clause-there : goal.take-requires-clause-there
take-requires-clause-there c =
    let f = is_found c.self.inside.ring c.args.key.sequence c.args.key.chunk_id c.in-Some.place c.find_place.result c.in-Some.is c.find_place.ensures.place c.find_place.ensures.there in
    let before : c.key_at-before.result ≡ f.stored.key = mapped (λ (t : Stored). t.key) _ f.stored c.key_at-before.result f.there c.key_at-before.ensures in
    let only = only_of c.in-Some.place c.self.inside.ring.live f.stored c.self.invariant.parts.indexed.places_once f.there in
    subst (λ (ss : List Sequence). HaveOne ss c.key_at-before.result c.self.inside.unfinished) (sym c.deref-2.ensures.value)
    (there_counted c.self.inside.rows.items c.in-Some.place c.self.inside.ring.live f.stored c.key_at-before.result c.self.inside.unfinished only before c.self.invariant.counted)

pub add-requires-clause-length : goal.add-requires-clause-length
add-requires-clause-length c =
    let f = is_found c.self.inside.ring c.args.key.sequence c.args.key.chunk_id c.in-Some.place c.find_place.result c.in-Some.is c.find_place.ensures.place c.find_place.ensures.there in
    let before : c.key_at-before.result ≡ f.stored.key = mapped (λ (t : Stored). t.key) _ f.stored c.key_at-before.result f.there c.key_at-before.ensures in
    let only = only_of c.in-Some.place c.self.inside.ring.live f.stored c.self.invariant.parts.indexed.places_once f.there in
    let less : c.take.new.self ≡ unfinished_of c.self.inside.rows.items (without_stored c.in-Some.place c.self.inside.ring.live) =
    dropped_counted c.self.inside.rows.items c.in-Some.place c.self.inside.ring.live f.stored c.key_at-before.result c.self.inside.unfinished c.take.new.self only before c.self.invariant.counted
    (subst (λ (ss : List Sequence). HaveOneLess ss c.key_at-before.result c.self.inside.unfinished c.take.new.self) c.deref-2.ensures.value c.take.ensures) in
    counted_length c.self.inside.rows.items (without_stored c.in-Some.place c.self.inside.ring.live) c.take.new.self less ∙ ap length (sym c.deref-3.ensures.value)

pub add-requires-clause-few : goal.add-requires-clause-few
add-requires-clause-few c =
    let f = is_found c.self.inside.ring c.args.key.sequence c.args.key.chunk_id c.in-Some.place c.find_place.result c.in-Some.is c.find_place.ensures.place c.find_place.ensures.there in
    let before : c.key_at-before.result ≡ f.stored.key = mapped (λ (t : Stored). t.key) _ f.stored c.key_at-before.result f.there c.key_at-before.ensures in
    let only = only_of c.in-Some.place c.self.inside.ring.live f.stored c.self.invariant.parts.indexed.places_once f.there in
    let less : c.take.new.self ≡ unfinished_of c.self.inside.rows.items (without_stored c.in-Some.place c.self.inside.ring.live) =
    dropped_counted c.self.inside.rows.items c.in-Some.place c.self.inside.ring.live f.stored c.key_at-before.result c.self.inside.unfinished c.take.new.self only before c.self.invariant.counted
    (subst (λ (ss : List Sequence). HaveOneLess ss c.key_at-before.result c.self.inside.unfinished c.take.new.self) c.deref-2.ensures.value c.take.ensures) in
    few_without c.self.inside.ring.room c.in-Some.place c.self.inside.rows.items c.self.inside.ring.live f.stored c.take.new.self only c.place_next-few.ensures.few c.size-room.ensures.most less

pub invariant_of-self : goal.invariant_of-self
invariant_of-self c =
    let f = is_found c.self.inside.ring c.args.key.sequence c.args.key.chunk_id c.in-Some.place c.find_place.result c.in-Some.is c.find_place.ensures.place c.find_place.ensures.there in
    let key : RecordKey = c.args.key in
    let view = c.self.view_is in
    let before : c.key_at-before.result ≡ f.stored.key = mapped (λ (t : Stored). t.key) _ f.stored c.key_at-before.result f.there c.key_at-before.ensures in
    let only = only_of c.in-Some.place c.self.inside.ring.live f.stored c.self.invariant.parts.indexed.places_once f.there in
    let less : c.take.new.self ≡ unfinished_of c.self.inside.rows.items (without_stored c.in-Some.place c.self.inside.ring.live) =
    dropped_counted c.self.inside.rows.items c.in-Some.place c.self.inside.ring.live f.stored c.key_at-before.result c.self.inside.unfinished c.take.new.self only before c.self.invariant.counted
    (subst (λ (ss : List Sequence). HaveOneLess ss c.key_at-before.result c.self.inside.unfinished c.take.new.self) c.deref-2.ensures.value c.take.ensures) in
    record {
      parts = parts_rewritten c.self.inside.ring c.rewrite.new.self c.self.inside.index c.self.inside.rows.items key c.args.payload.now f.stored c.in-Some.place c.self.invariant.parts f.found
          (place_had c.self.inside.ring key.sequence key.chunk_id c.in-Some.place c.find_place.result f.stored c.in-Some.is c.find_place.ensures.place f.found)
          (λ t. record {
            known = ap (λ (b : Buffer). is_known b.sequences key.sequence) view ∙ c.requires.known;
            size = c.requires.size ∙ sym (ap (λ (b : Buffer). (sequence_in b.sequences key.sequence).size) view);
            reads = c.requires.reads;
            number = omega arith;
            id = omega arith;
            part = λ partial. subst (λ (b : Buffer). (has_arrived (sequence_in b.sequences key.sequence) key.chunk_id ≡ false) × (is_too_far (sequence_in b.sequences key.sequence) key.chunk_id ≡ false)) (sym view) (c.requires.part partial);
          })
          c.rewrite.ensures;
      counted = changed_counted c.self.inside.rows.items c.in-Some.place (with_contents key c.args.payload.now) c.self.inside.ring.live f.stored key c.take.new.self c.add.new.self only refl less
          (subst (λ (ss : List Sequence). HaveOneMore ss key c.take.new.self c.add.new.self) c.deref-3.ensures.value c.add.ensures)
          ∙ ap (λ (r : RingValue). unfinished_of c.self.inside.rows.items r.live) (sym c.rewrite.ensures);
    }

pub returns : goal.returns
returns c =
    let f = is_found c.self.inside.ring c.args.key.sequence c.args.key.chunk_id c.in-Some.place c.find_place.result c.in-Some.is c.find_place.ensures.place c.find_place.ensures.there in
    let key : RecordKey = c.args.key in
    let live = records_rewritten c.self.inside.ring c.rewrite.new.self c.self.inside.index c.self.inside.rows.items key c.args.payload.now f.stored c.in-Some.place c.self.invariant.parts f.found
    (place_had c.self.inside.ring key.sequence key.chunk_id c.in-Some.place c.find_place.result f.stored c.in-Some.is c.find_place.ensures.place f.found)
    (c.requires.size ∙ sym (ap (λ (b : Buffer). (sequence_in b.sequences key.sequence).size) c.self.view_is))
    c.rewrite.ensures in
    let room_is : c.rewrite.new.self.room ≡ c.self.inside.ring.room = ap (λ (r : RingValue). r.room) c.rewrite.ensures in
    let next_is : c.rewrite.new.self.next ≡ c.self.inside.ring.next = ap (λ (r : RingValue). r.next) c.rewrite.ensures in
    let count : c.saturating_add-self-inside.result ≡ raised c.self.inside.rewritten 1 = omega (arith, c.saturating_add-self-inside.ensures) in
    (λ i. record (buffer_view c.self.inside) { room = room_is i; next = next_is i; live = live i; rewritten = count i })
    ∙ ap (λ (b : Buffer). with_rewritten b key.sequence key.chunk_id (chunk_of key c.args.payload.now)) c.self.view_is

pub returns-in_default : goal.returns-in_default
returns-in_default c =
    let none : live_at c.args.self.now c.args.key.sequence c.args.key.chunk_id ≡ None =
    live_is c.self.inside.ring c.args.self.now.live c.args.key.sequence c.args.key.chunk_id (ap (λ (b : Buffer). b.live) c.self.view_is)
    ∙ ap (option_map record_of) (none_is c.self.inside.ring c.args.key.sequence c.args.key.chunk_id c.find_place.result c.in_default.is c.find_place.ensures.place) in
    absurd (true≢false (sym c.requires.there ∙ ap is_some none))
