use Rattle.std.proofs.Common.{◌≡◌, ℕ, ◌+◌, ◌≤◌, ◌&&◌, Bool, true, false, not, cond, List, length, Some, None, refl, sym, ap, ap₂, ◌∙◌, subst, arith, true≢false}
use Rattle.std.specs.List.{find}
use Rattle.std.specs.Option.{IsSomeAnd}
use Rattle.page_geometry.specs.Sizes.{record_size}
use Rattle.ring_bytes.specs.declared.key.RecordKey.{RecordKey}
use Rattle.ring_bytes.specs.Value.{Stored, RingValue, change_at, without_stored}
use Rattle.ring_bytes.proofs.RowLemmas.{size_least}
use Rattle.commit_body.specs.Patches.{patch_value}
use Rattle.trace_model.specs.Buffers.{Buffer, BufferRecord, is_of}
use Rattle.trace_model.specs.Images.{Patch, last_holds}
use Rattle.trace_model.specs.Patches.{BadOffset, Applied, awaits_at, answer_to, with_patch}
use Rattle.trace_model.specs.Reading.{reading_of, fragments_of}
use Rattle.trace_model.specs.Sequences.{Sequence, is_known, sequence_in}
use Rattle.trace_buffer.specs.BufferFields.{buffer_view}
use Rattle.trace_buffer.specs.Patching.{last_has}
use Rattle.trace_buffer.specs.Records.{record_of, is_at_key}
use Rattle.trace_buffer.specs.Unfinished.{unfinished_of, HaveOneMore, HaveOneLess, HaveOne}
use Rattle.trace_buffer.proofs.FindLemmas.{is_found, none_is, kept_found, mapped, place_had, its_sequence, readable_is}
use Rattle.trace_buffer.proofs.PatchedLemmas.{none_with, one_with, none_changes, both_changes, patched_stored, still_there, taken}
use Rattle.trace_buffer.proofs.PutLemmas.{payload_patched}
use Rattle.trace_buffer.proofs.UnfinishedLemmas.{there_counted, dropped_counted, changed_counted, counted_length, few_without, only_of}
use Rattle.trace_buffer.proofs.buffer.TraceBuffer.patch_placed.Goals as goal

-- the same records, where none takes the patch
unchanged_buffer : (v : Buffer) (q : ℕ) (patch : Patch) (live : List BufferRecord) → live ≡ v.live → find (λ (r : BufferRecord). is_of q patch.chunk_id r && (r.chunk.awaits && last_holds r.chunk.fragments patch)) live ≡ None → v ≡ with_patch v q patch
unchanged_buffer v q patch live view none =
    let same = none_changes q patch v.live (ap (find (λ (r : BufferRecord). is_of q patch.chunk_id r && (r.chunk.awaits && last_holds r.chunk.fragments patch))) (sym view) ∙ none) in
    λ j. record v { live = same j }

no : (b : Bool) → not b ≡ true → b ≡ false
no true is = absurd (true≢false (sym is))
no false is = refl

does : (b : Bool) → not b ≡ false → b ≡ true
does true is = refl
does false is = absurd (true≢false is)

pub returns-in_default-clause-answer : goal.returns-in_default-clause-answer
returns-in_default-clause-answer c =
    let none = none_is c.self.inside.ring c.args.sequence c.args.patch.now.chunk_id c.find_place.result c.in_default.is c.find_place.ensures.place in
    sym
    (ap (λ live. answer_to (patch_value c.args.patch.now) (find (awaits_at c.args.sequence c.args.patch.now.chunk_id) live)) (sym (ap (λ (b : Buffer). b.live) c.self.view_is))
    ∙ ap (answer_to (patch_value c.args.patch.now)) (none_with c.args.sequence c.args.patch.now.chunk_id (λ (r : BufferRecord). r.chunk.awaits) c.self.inside.ring.live none))

pub returns-in_default-clause-after : goal.returns-in_default-clause-after
returns-in_default-clause-after c =
    let none = none_is c.self.inside.ring c.args.sequence c.args.patch.now.chunk_id c.find_place.result c.in_default.is c.find_place.ensures.place in
    unchanged_buffer c.args.self.now c.args.sequence (patch_value c.args.patch.now) _ (ap (λ (b : Buffer). b.live) c.self.view_is)
    (none_with c.args.sequence c.args.patch.now.chunk_id (λ (r : BufferRecord). r.chunk.awaits && last_holds r.chunk.fragments (patch_value c.args.patch.now)) c.self.inside.ring.live none)

pub returns-then-not-key-clause-answer : goal.returns-then-not-key-clause-answer
returns-then-not-key-clause-answer c =
    let f = is_found c.self.inside.ring c.args.sequence c.args.patch.now.chunk_id c.in-Some.place c.find_place.result c.in-Some.is c.find_place.ensures.place c.find_place.ensures.there in
    let kept = kept_found (is_at_key c.args.sequence c.args.patch.now.chunk_id) c.self.inside.rows.items c.self.inside.ring.live f.stored c.self.invariant.parts.kept f.found in
    let key : c.key_at-key.result ≡ f.stored.key = mapped (λ (s : Stored). s.key) _ f.stored c.key_at-key.result f.there c.key_at-key.ensures in
    let awaits : f.stored.key.awaits ≡ false = sym (ap (λ (k : RecordKey). k.awaits) key) ∙ no c.key_at-key.result.awaits c.if-not-key.true in
    sym
    (ap (λ live. answer_to (patch_value c.args.patch.now) (find (awaits_at c.args.sequence c.args.patch.now.chunk_id) live)) (sym (ap (λ (b : Buffer). b.live) c.self.view_is))
    ∙ ap (answer_to (patch_value c.args.patch.now))
    (one_with c.args.sequence c.args.patch.now.chunk_id (λ (r : BufferRecord). r.chunk.awaits) c.self.inside.ring.live f.stored c.self.invariant.parts.indexed.keys f.found
    ∙ ap (λ b. cond b (Some (record_of f.stored)) None) awaits))

pub returns-then-not-key-clause-after : goal.returns-then-not-key-clause-after
returns-then-not-key-clause-after c =
    let f = is_found c.self.inside.ring c.args.sequence c.args.patch.now.chunk_id c.in-Some.place c.find_place.result c.in-Some.is c.find_place.ensures.place c.find_place.ensures.there in
    let kept = kept_found (is_at_key c.args.sequence c.args.patch.now.chunk_id) c.self.inside.rows.items c.self.inside.ring.live f.stored c.self.invariant.parts.kept f.found in
    let key : c.key_at-key.result ≡ f.stored.key = mapped (λ (s : Stored). s.key) _ f.stored c.key_at-key.result f.there c.key_at-key.ensures in
    let awaits : f.stored.key.awaits ≡ false = sym (ap (λ (k : RecordKey). k.awaits) key) ∙ no c.key_at-key.result.awaits c.if-not-key.true in
    unchanged_buffer c.args.self.now c.args.sequence (patch_value c.args.patch.now) _ (ap (λ (b : Buffer). b.live) c.self.view_is)
    (one_with c.args.sequence c.args.patch.now.chunk_id (λ (r : BufferRecord). r.chunk.awaits && last_holds r.chunk.fragments (patch_value c.args.patch.now)) c.self.inside.ring.live f.stored c.self.invariant.parts.indexed.keys f.found
    ∙ ap (λ b. cond (b && last_holds (record_of f.stored).chunk.fragments (patch_value c.args.patch.now)) (Some (record_of f.stored)) None) awaits)

pub last_holds-requires : goal.last_holds-requires
last_holds-requires c =
    let f = is_found c.self.inside.ring c.args.sequence c.args.patch.now.chunk_id c.in-Some.place c.find_place.result c.in-Some.is c.find_place.ensures.place c.find_place.ensures.there in
    let kept = kept_found (is_at_key c.args.sequence c.args.patch.now.chunk_id) c.self.inside.rows.items c.self.inside.ring.live f.stored c.self.invariant.parts.kept f.found in
    let key : c.key_at-key.result ≡ f.stored.key = mapped (λ (s : Stored). s.key) _ f.stored c.key_at-key.result f.there c.key_at-key.ensures in
    let payload : c.payload_at.result.now ≡ f.stored.payload = mapped (λ (s : Stored). s.payload) _ f.stored c.payload_at.result.now f.there c.payload_at.ensures in
    let size : record_size (length f.stored.payload) ≡ (sequence_in c.args.self.now.sequences c.args.sequence).size =
    kept.size ∙ ap (λ n. (sequence_in c.self.inside.rows.items n).size) (its_sequence c.args.sequence c.args.patch.now.chunk_id c.self.inside.ring.live f.stored f.found)
    ∙ ap (λ (b : Buffer). (sequence_in b.sequences c.args.sequence).size) c.self.view_is in
    subst (λ (p : List ℕ). length p ≤ 67108864) (sym payload)
    (omega (arith, size, size_least (length f.stored.payload), c.check_size.ensures.fits, c.check_size.ensures.small))

pub returns-then-not-last_holds-clause-answer : goal.returns-then-not-last_holds-clause-answer
returns-then-not-last_holds-clause-answer c =
    let f = is_found c.self.inside.ring c.args.sequence c.args.patch.now.chunk_id c.in-Some.place c.find_place.result c.in-Some.is c.find_place.ensures.place c.find_place.ensures.there in
    let kept = kept_found (is_at_key c.args.sequence c.args.patch.now.chunk_id) c.self.inside.rows.items c.self.inside.ring.live f.stored c.self.invariant.parts.kept f.found in
    let key : c.key_at-key.result ≡ f.stored.key = mapped (λ (s : Stored). s.key) _ f.stored c.key_at-key.result f.there c.key_at-key.ensures in
    let payload : c.payload_at.result.now ≡ f.stored.payload = mapped (λ (s : Stored). s.payload) _ f.stored c.payload_at.result.now f.there c.payload_at.ensures in
    let awaits : f.stored.key.awaits ≡ true = sym (ap (λ (k : RecordKey). k.awaits) key) ∙ does c.key_at-key.result.awaits c.if-not-key.false in
    let held = sym (c.last_holds.ensures ∙ ap₂ (λ (k : RecordKey) p. last_has k.count p (patch_value c.args.patch.now)) key payload) ∙ c.if-not-last_holds.true in
    sym
    (ap (λ live. answer_to (patch_value c.args.patch.now) (find (awaits_at c.args.sequence c.args.patch.now.chunk_id) live)) (sym (ap (λ (b : Buffer). b.live) c.self.view_is))
    ∙ ap (answer_to (patch_value c.args.patch.now))
    (one_with c.args.sequence c.args.patch.now.chunk_id (λ (r : BufferRecord). r.chunk.awaits) c.self.inside.ring.live f.stored c.self.invariant.parts.indexed.keys f.found
    ∙ ap (λ b. cond b (Some (record_of f.stored)) None) awaits)
    ∙ ap (λ b. cond b Applied BadOffset) held)

pub returns-then-not-last_holds-clause-after : goal.returns-then-not-last_holds-clause-after
returns-then-not-last_holds-clause-after c =
    let f = is_found c.self.inside.ring c.args.sequence c.args.patch.now.chunk_id c.in-Some.place c.find_place.result c.in-Some.is c.find_place.ensures.place c.find_place.ensures.there in
    let kept = kept_found (is_at_key c.args.sequence c.args.patch.now.chunk_id) c.self.inside.rows.items c.self.inside.ring.live f.stored c.self.invariant.parts.kept f.found in
    let key : c.key_at-key.result ≡ f.stored.key = mapped (λ (s : Stored). s.key) _ f.stored c.key_at-key.result f.there c.key_at-key.ensures in
    let payload : c.payload_at.result.now ≡ f.stored.payload = mapped (λ (s : Stored). s.payload) _ f.stored c.payload_at.result.now f.there c.payload_at.ensures in
    let awaits : f.stored.key.awaits ≡ true = sym (ap (λ (k : RecordKey). k.awaits) key) ∙ does c.key_at-key.result.awaits c.if-not-key.false in
    let held = sym (c.last_holds.ensures ∙ ap₂ (λ (k : RecordKey) p. last_has k.count p (patch_value c.args.patch.now)) key payload) ∙ c.if-not-last_holds.true in
    unchanged_buffer c.args.self.now c.args.sequence (patch_value c.args.patch.now) _ (ap (λ (b : Buffer). b.live) c.self.view_is)
    (one_with c.args.sequence c.args.patch.now.chunk_id (λ (r : BufferRecord). r.chunk.awaits && last_holds r.chunk.fragments (patch_value c.args.patch.now)) c.self.inside.ring.live f.stored c.self.invariant.parts.indexed.keys f.found
    ∙ ap (λ b. cond b (Some (record_of f.stored)) None) (ap₂ (λ x y. x && y) awaits held))

pub patch_at-requires : goal.patch_at-requires
patch_at-requires c =
    let f = is_found c.self.inside.ring c.args.sequence c.args.patch.now.chunk_id c.in-Some.place c.find_place.result c.in-Some.is c.find_place.ensures.place c.find_place.ensures.there in
    let kept = kept_found (is_at_key c.args.sequence c.args.patch.now.chunk_id) c.self.inside.rows.items c.self.inside.ring.live f.stored c.self.invariant.parts.kept f.found in
    let key : c.key_at-key.result ≡ f.stored.key = mapped (λ (s : Stored). s.key) _ f.stored c.key_at-key.result f.there c.key_at-key.ensures in
    let payload : c.payload_at.result.now ≡ f.stored.payload = mapped (λ (s : Stored). s.payload) _ f.stored c.payload_at.result.now f.there c.payload_at.ensures in
    let awaits : f.stored.key.awaits ≡ true = sym (ap (λ (k : RecordKey). k.awaits) key) ∙ does c.key_at-key.result.awaits c.if-not-key.false in
    let held = sym (c.last_holds.ensures ∙ ap₂ (λ (k : RecordKey) p. last_has k.count p (patch_value c.args.patch.now)) key payload) ∙ c.if-not-last_holds.false in
    let law = payload_patched f.stored.key.count f.stored.payload (fragments_of (reading_of f.stored.key.count f.stored.payload)) (patch_value c.args.patch.now) (omega arith) (readable_is (reading_of f.stored.key.count f.stored.payload) kept.reads) held in
    subst (λ o. IsSomeAnd o (λ (s : Stored). c.args.patch.now.offset + 4 ≤ length s.payload)) (sym f.there) law.inside

pub set_awaits-requires : goal.set_awaits-requires
set_awaits-requires c =
    let f = is_found c.self.inside.ring c.args.sequence c.args.patch.now.chunk_id c.in-Some.place c.find_place.result c.in-Some.is c.find_place.ensures.place c.find_place.ensures.there in
    still_there c.self.inside.ring c.patch_at.new.self c.in-Some.place (patch_value c.args.patch.now) f.stored c.patch_at.ensures f.there

pub take-requires-clause-known : goal.take-requires-clause-known
take-requires-clause-known c =
    let f = is_found c.self.inside.ring c.args.sequence c.args.patch.now.chunk_id c.in-Some.place c.find_place.result c.in-Some.is c.find_place.ensures.place c.find_place.ensures.there in
    let kept = kept_found (is_at_key c.args.sequence c.args.patch.now.chunk_id) c.self.inside.rows.items c.self.inside.ring.live f.stored c.self.invariant.parts.kept f.found in
    let key : c.key_at-key.result ≡ f.stored.key = mapped (λ (s : Stored). s.key) _ f.stored c.key_at-key.result f.there c.key_at-key.ensures in
    ap₂ (λ (ss : List Sequence) (k : RecordKey). is_known ss k.sequence) c.deref-2.ensures.value key ∙ kept.known

pub take-requires-clause-there : goal.take-requires-clause-there
take-requires-clause-there c =
    let f = is_found c.self.inside.ring c.args.sequence c.args.patch.now.chunk_id c.in-Some.place c.find_place.result c.in-Some.is c.find_place.ensures.place c.find_place.ensures.there in
    let key : c.key_at-key.result ≡ f.stored.key = mapped (λ (s : Stored). s.key) _ f.stored c.key_at-key.result f.there c.key_at-key.ensures in
    let only = only_of c.in-Some.place c.self.inside.ring.live f.stored c.self.invariant.parts.indexed.places_once f.there in
    subst (λ (ss : List Sequence). HaveOne ss c.key_at-key.result c.self.inside.unfinished) (sym c.deref-2.ensures.value)
    (there_counted c.self.inside.rows.items c.in-Some.place c.self.inside.ring.live f.stored c.key_at-key.result c.self.inside.unfinished only key c.self.invariant.counted)

pub add-requires-clause-known : goal.add-requires-clause-known
add-requires-clause-known c =
    let f = is_found c.self.inside.ring c.args.sequence c.args.patch.now.chunk_id c.in-Some.place c.find_place.result c.in-Some.is c.find_place.ensures.place c.find_place.ensures.there in
    let kept = kept_found (is_at_key c.args.sequence c.args.patch.now.chunk_id) c.self.inside.rows.items c.self.inside.ring.live f.stored c.self.invariant.parts.kept f.found in
    let key : c.key_at-key.result ≡ f.stored.key = mapped (λ (s : Stored). s.key) _ f.stored c.key_at-key.result f.there c.key_at-key.ensures in
    ap₂ (λ (ss : List Sequence) (k : RecordKey). is_known ss k.sequence) c.deref-3.ensures.value key ∙ kept.known

pub add-requires-clause-length : goal.add-requires-clause-length
add-requires-clause-length c =
    let f = is_found c.self.inside.ring c.args.sequence c.args.patch.now.chunk_id c.in-Some.place c.find_place.result c.in-Some.is c.find_place.ensures.place c.find_place.ensures.there in
    let key : c.key_at-key.result ≡ f.stored.key = mapped (λ (s : Stored). s.key) _ f.stored c.key_at-key.result f.there c.key_at-key.ensures in
    let only = only_of c.in-Some.place c.self.inside.ring.live f.stored c.self.invariant.parts.indexed.places_once f.there in
    let less : c.take.new.self ≡ unfinished_of c.self.inside.rows.items (without_stored c.in-Some.place c.self.inside.ring.live) =
    dropped_counted c.self.inside.rows.items c.in-Some.place c.self.inside.ring.live f.stored c.key_at-key.result c.self.inside.unfinished c.take.new.self only key c.self.invariant.counted
    (subst (λ (ss : List Sequence). HaveOneLess ss c.key_at-key.result c.self.inside.unfinished c.take.new.self) c.deref-2.ensures.value c.take.ensures) in
    counted_length c.self.inside.rows.items (without_stored c.in-Some.place c.self.inside.ring.live) c.take.new.self less ∙ ap length (sym c.deref-3.ensures.value)

pub add-requires-clause-few : goal.add-requires-clause-few
add-requires-clause-few c =
    let f = is_found c.self.inside.ring c.args.sequence c.args.patch.now.chunk_id c.in-Some.place c.find_place.result c.in-Some.is c.find_place.ensures.place c.find_place.ensures.there in
    let key : c.key_at-key.result ≡ f.stored.key = mapped (λ (s : Stored). s.key) _ f.stored c.key_at-key.result f.there c.key_at-key.ensures in
    let only = only_of c.in-Some.place c.self.inside.ring.live f.stored c.self.invariant.parts.indexed.places_once f.there in
    let less : c.take.new.self ≡ unfinished_of c.self.inside.rows.items (without_stored c.in-Some.place c.self.inside.ring.live) =
    dropped_counted c.self.inside.rows.items c.in-Some.place c.self.inside.ring.live f.stored c.key_at-key.result c.self.inside.unfinished c.take.new.self only key c.self.invariant.counted
    (subst (λ (ss : List Sequence). HaveOneLess ss c.key_at-key.result c.self.inside.unfinished c.take.new.self) c.deref-2.ensures.value c.take.ensures) in
    let room : c.self.inside.ring.room ≡ c.args.self.now.room = ap (λ (b : Buffer). b.room) c.self.view_is in
    few_without c.self.inside.ring.room c.in-Some.place c.self.inside.rows.items c.self.inside.ring.live f.stored c.take.new.self only c.place_next-few.ensures.few (omega (arith, room, c.check_size.ensures.small)) less

pub invariant_of-self : goal.invariant_of-self
invariant_of-self c =
    let f = is_found c.self.inside.ring c.args.sequence c.args.patch.now.chunk_id c.in-Some.place c.find_place.result c.in-Some.is c.find_place.ensures.place c.find_place.ensures.there in
    let kept = kept_found (is_at_key c.args.sequence c.args.patch.now.chunk_id) c.self.inside.rows.items c.self.inside.ring.live f.stored c.self.invariant.parts.kept f.found in
    let key : c.key_at-key.result ≡ f.stored.key = mapped (λ (s : Stored). s.key) _ f.stored c.key_at-key.result f.there c.key_at-key.ensures in
    let payload : c.payload_at.result.now ≡ f.stored.payload = mapped (λ (s : Stored). s.payload) _ f.stored c.payload_at.result.now f.there c.payload_at.ensures in
    let awaits : f.stored.key.awaits ≡ true = sym (ap (λ (k : RecordKey). k.awaits) key) ∙ does c.key_at-key.result.awaits c.if-not-key.false in
    let held = sym (c.last_holds.ensures ∙ ap₂ (λ (k : RecordKey) p. last_has k.count p (patch_value c.args.patch.now)) key payload) ∙ c.if-not-last_holds.false in
    let only = only_of c.in-Some.place c.self.inside.ring.live f.stored c.self.invariant.parts.indexed.places_once f.there in
    let less : c.take.new.self ≡ unfinished_of c.self.inside.rows.items (without_stored c.in-Some.place c.self.inside.ring.live) =
    dropped_counted c.self.inside.rows.items c.in-Some.place c.self.inside.ring.live f.stored c.key_at-key.result c.self.inside.unfinished c.take.new.self only key c.self.invariant.counted
    (subst (λ (ss : List Sequence). HaveOneLess ss c.key_at-key.result c.self.inside.unfinished c.take.new.self) c.deref-2.ensures.value c.take.ensures) in
    let more : c.add.new.self ≡ unfinished_of c.self.inside.rows.items (change_at c.in-Some.place (patched_stored (patch_value c.args.patch.now)) c.self.inside.ring.live) =
    changed_counted c.self.inside.rows.items c.in-Some.place (patched_stored (patch_value c.args.patch.now)) c.self.inside.ring.live f.stored (record c.key_at-key.result { awaits = not c.args.patch.now.last }) c.take.new.self c.add.new.self only
    (ap (λ (k : RecordKey). record k { awaits = not c.args.patch.now.last }) key) less
    (subst (λ (ss : List Sequence). HaveOneMore ss (record c.key_at-key.result { awaits = not c.args.patch.now.last }) c.take.new.self c.add.new.self) c.deref-3.ensures.value c.add.ensures) in
    let done = taken c.self.inside.ring c.set_awaits.new.self c.self.inside.index c.self.inside.rows.items c.args.sequence c.in-Some.place (patch_value c.args.patch.now) f.stored c.self.invariant.parts f.found
    (place_had c.self.inside.ring c.args.sequence c.args.patch.now.chunk_id c.in-Some.place c.find_place.result f.stored c.in-Some.is c.find_place.ensures.place f.found)
    (both_changes c.self.inside.ring c.patch_at.new.self c.set_awaits.new.self c.in-Some.place (patch_value c.args.patch.now) c.patch_at.ensures c.set_awaits.ensures)
    (omega arith) kept awaits held in
    record {
      parts = done.parts;
      counted = more
          ∙ ap (λ (r : RingValue). unfinished_of c.self.inside.rows.items r.live) (sym (both_changes c.self.inside.ring c.patch_at.new.self c.set_awaits.new.self c.in-Some.place (patch_value c.args.patch.now) c.patch_at.ensures c.set_awaits.ensures));
    }

pub returns-clause-answer : goal.returns-clause-answer
returns-clause-answer c =
    let f = is_found c.self.inside.ring c.args.sequence c.args.patch.now.chunk_id c.in-Some.place c.find_place.result c.in-Some.is c.find_place.ensures.place c.find_place.ensures.there in
    let kept = kept_found (is_at_key c.args.sequence c.args.patch.now.chunk_id) c.self.inside.rows.items c.self.inside.ring.live f.stored c.self.invariant.parts.kept f.found in
    let key : c.key_at-key.result ≡ f.stored.key = mapped (λ (s : Stored). s.key) _ f.stored c.key_at-key.result f.there c.key_at-key.ensures in
    let payload : c.payload_at.result.now ≡ f.stored.payload = mapped (λ (s : Stored). s.payload) _ f.stored c.payload_at.result.now f.there c.payload_at.ensures in
    let awaits : f.stored.key.awaits ≡ true = sym (ap (λ (k : RecordKey). k.awaits) key) ∙ does c.key_at-key.result.awaits c.if-not-key.false in
    let held = sym (c.last_holds.ensures ∙ ap₂ (λ (k : RecordKey) p. last_has k.count p (patch_value c.args.patch.now)) key payload) ∙ c.if-not-last_holds.false in
    sym
    (ap (λ live. answer_to (patch_value c.args.patch.now) (find (awaits_at c.args.sequence c.args.patch.now.chunk_id) live)) (sym (ap (λ (b : Buffer). b.live) c.self.view_is))
    ∙ ap (answer_to (patch_value c.args.patch.now))
    (one_with c.args.sequence c.args.patch.now.chunk_id (λ (r : BufferRecord). r.chunk.awaits) c.self.inside.ring.live f.stored c.self.invariant.parts.indexed.keys f.found
    ∙ ap (λ b. cond b (Some (record_of f.stored)) None) awaits)
    ∙ ap (λ b. cond b Applied BadOffset) held)

pub returns-clause-after : goal.returns-clause-after
returns-clause-after c =
    let f = is_found c.self.inside.ring c.args.sequence c.args.patch.now.chunk_id c.in-Some.place c.find_place.result c.in-Some.is c.find_place.ensures.place c.find_place.ensures.there in
    let kept = kept_found (is_at_key c.args.sequence c.args.patch.now.chunk_id) c.self.inside.rows.items c.self.inside.ring.live f.stored c.self.invariant.parts.kept f.found in
    let key : c.key_at-key.result ≡ f.stored.key = mapped (λ (s : Stored). s.key) _ f.stored c.key_at-key.result f.there c.key_at-key.ensures in
    let payload : c.payload_at.result.now ≡ f.stored.payload = mapped (λ (s : Stored). s.payload) _ f.stored c.payload_at.result.now f.there c.payload_at.ensures in
    let awaits : f.stored.key.awaits ≡ true = sym (ap (λ (k : RecordKey). k.awaits) key) ∙ does c.key_at-key.result.awaits c.if-not-key.false in
    let held = sym (c.last_holds.ensures ∙ ap₂ (λ (k : RecordKey) p. last_has k.count p (patch_value c.args.patch.now)) key payload) ∙ c.if-not-last_holds.false in
    let done = taken c.self.inside.ring c.set_awaits.new.self c.self.inside.index c.self.inside.rows.items c.args.sequence c.in-Some.place (patch_value c.args.patch.now) f.stored c.self.invariant.parts f.found
    (place_had c.self.inside.ring c.args.sequence c.args.patch.now.chunk_id c.in-Some.place c.find_place.result f.stored c.in-Some.is c.find_place.ensures.place f.found)
    (both_changes c.self.inside.ring c.patch_at.new.self c.set_awaits.new.self c.in-Some.place (patch_value c.args.patch.now) c.patch_at.ensures c.set_awaits.ensures)
    (omega arith) kept awaits held in
    (λ j. record (buffer_view c.self.inside) { room = done.room j; next = done.next j; live = done.records j })
    ∙ ap (λ (b : Buffer). with_patch b c.args.sequence (patch_value c.args.patch.now)) c.self.view_is
