-- The record of a chunk, and the one at its place.
use Rattle.std.proofs.Common.{◌≡◌, ◌≢◌, ℕ, ◌<◌, ◌≤◌, arith, ◌^◌, ◌==◌, ◌&&◌, Bool, true, false, cond, List, [], ◌∷◌, map, Option, Some, None, IfSome, is_some, refl, sym, ap, ap₂, ◌∙◌, subst, eq-eqb, eqb-true, ne_eqb, true≢false}
use Rattle.std.specs.List.{find}
use Rattle.std.specs.Option.{option_map}
use Rattle.page_geometry.specs.Sizes.{record_size}
use Rattle.ring_bytes.specs.Value.{Stored, RingValue, is_at, stored_at, NoneAt}
use Rattle.ring_bytes.specs.declared.key.RecordKey.{RecordKey}
use Rattle.trace_model.specs.Buffers.{BufferRecord, is_of}
use Rattle.trace_model.specs.Reading.{Reading, Fragments, Unreadable, reading_of, is_readable, fragments_of}
use Rattle.trace_model.specs.Sequences.{Sequence}
use Rattle.ring_bytes.proofs.ListLemmas.{find_true}
use Rattle.trace_buffer.specs.Calls.{TellsRecord, place_in}
use Rattle.trace_buffer.specs.BufferFields.{PlacesOnce, AllKept, IsKept}
use Rattle.trace_buffer.specs.Records.{record_of, chunk_of, is_at_key}

-- a record that is found is another one than that which has this place alone
pub none_found : (P : Stored → Bool) (place : ℕ) (ss : List Stored) (s : Stored) → NoneAt place ss → find P ss ≡ Some s → is_at place s ≡ false
none_found P place [] s none found = absurd (cc)
none_found P place (t ∷ ss) s none found = of (P t) (none_found P place ss s none.1) found
  where
    of : (b : Bool) → (find P ss ≡ Some s → is_at place s ≡ false) → cond b (Some t) (find P ss) ≡ Some s → is_at place s ≡ false
    of true later is = let here : t ≡ s = cc in ap (is_at place) (sym here) ∙ none.0
    of false later is = later is

pub place_found : (P : Stored → Bool) (ss : List Stored) (s : Stored) → PlacesOnce ss → find P ss ≡ Some s → find (is_at s.at) ss ≡ Some s
place_found P [] s once found = absurd (cc)
place_found P (t ∷ ss) s once found = of (P t) refl (place_found P ss s once.1) found
  where
    of : (b : Bool) → P t ≡ b → (find P ss ≡ Some s → find (is_at s.at) ss ≡ Some s) → cond b (Some t) (find P ss) ≡ Some s → cond (is_at s.at t) (Some t) (find (is_at s.at) ss) ≡ Some s
    of true holds later is =
        let here : t ≡ s = cc in
        ap (λ b. cond b (Some t) (find (is_at s.at) ss)) (eq-eqb t.at s.at (ap (λ (u : Stored). u.at) here)) ∙ ap (λ (u : Stored). Some u) here
    of false holds later is =
        let apart : t.at ≢ s.at = λ same. true≢false (sym (eq-eqb s.at t.at (sym same)) ∙ none_found P t.at ss s once.0 is) in
        ap (λ b. cond b (Some t) (find (is_at s.at) ss)) (ne_eqb t.at s.at apart) ∙ later is

pub at_place : (P : Stored → Bool) (ring : RingValue) (result : Option ℕ) → PlacesOnce ring.live → result ≡ option_map (λ (s : Stored). s.at) (find P ring.live) → IfSome result (λ place. stored_at ring place ≡ find P ring.live)
at_place P ring result once is =
    subst (λ o. IfSome o (λ place. stored_at ring place ≡ find P ring.live)) (sym is) (of (find P ring.live) refl)
  where
    of : (o : Option Stored) → find P ring.live ≡ o → IfSome (option_map (λ (s : Stored). s.at) o) (λ place. stored_at ring place ≡ find P ring.live)
    of None found = tt
    of (Some s) found = place_found P ring.live s once found ∙ sym found

-- the same of a buffer's records
pub find_records : (P : BufferRecord → Bool) (ss : List Stored) → find P (map record_of ss) ≡ option_map record_of (find (λ (s : Stored). P (record_of s)) ss)
find_records P [] = refl
find_records P (s ∷ ss) = of (P (record_of s)) (find_records P ss)
  where
    of : (b : Bool) → find P (map record_of ss) ≡ option_map record_of (find (λ (t : Stored). P (record_of t)) ss) → cond b (Some (record_of s)) (find P (map record_of ss)) ≡ option_map record_of (cond b (Some s) (find (λ (t : Stored). P (record_of t)) ss))
    of true later = refl
    of false later = later

pub find_no_record : (P : BufferRecord → Bool) (ss : List Stored) → find P (map record_of ss) ≡ None → find (λ (s : Stored). P (record_of s)) ss ≡ None
find_no_record P ss none = of (find (λ (s : Stored). P (record_of s)) ss) (sym (find_records P ss) ∙ none)
  where
    of : (o : Option Stored) → option_map record_of o ≡ None → o ≡ None
    of None is = refl
    of (Some s) is = absurd (cc)

-- What the calls find

pub record IsFound (ring : RingValue) (sequence chunk_id place : ℕ) : Type 0 where
  pub stored : Stored
  pub found : find (is_at_key sequence chunk_id) ring.live ≡ Some stored
  pub there : stored_at ring place ≡ Some stored

pub is_found : (ring : RingValue) (sequence chunk_id place : ℕ) (result : Option ℕ) → result ≡ Some place → result ≡ option_map (λ (s : Stored). s.at) (find (is_at_key sequence chunk_id) ring.live) → IfSome result (λ p. stored_at ring p ≡ find (is_at_key sequence chunk_id) ring.live) → IsFound ring sequence chunk_id place
is_found ring sequence chunk_id place result some is there = of (find (is_at_key sequence chunk_id) ring.live) refl
  where
    here : stored_at ring place ≡ find (is_at_key sequence chunk_id) ring.live
    here = subst (λ o. IfSome o (λ p. stored_at ring p ≡ find (is_at_key sequence chunk_id) ring.live)) some there

    of : (o : Option Stored) → find (is_at_key sequence chunk_id) ring.live ≡ o → IsFound ring sequence chunk_id place
    of None none = absurd (true≢false (ap is_some (sym some) ∙ ap is_some is ∙ ap (λ o. is_some (option_map (λ (s : Stored). s.at) o)) none))
    of (Some s) found = record { stored = s; found = found; there = here ∙ found }

pub live_is : (ring : RingValue) (live : List BufferRecord) (sequence chunk_id : ℕ) → map record_of ring.live ≡ live → find (is_of sequence chunk_id) live ≡ option_map record_of (find (is_at_key sequence chunk_id) ring.live)
live_is ring live sequence chunk_id view = ap (find (is_of sequence chunk_id)) (sym view) ∙ find_records (is_of sequence chunk_id) ring.live

-- its place
pub place_told : (o : Option Stored) → option_map (λ (s : Stored). s.at) o ≡ place_in (option_map record_of o)
place_told None = refl
place_told (Some s) = refl

pub no_place : (o : Option BufferRecord) → place_in o ≡ None → o ≡ None
no_place None is = refl
no_place (Some r) is = absurd (cc)

-- a record of which the place is known
pub found_there : (ring : RingValue) (live : List BufferRecord) (sequence chunk_id place : ℕ) → map record_of ring.live ≡ live → PlacesOnce ring.live
    → place_in (find (is_of sequence chunk_id) live) ≡ Some place → IsFound ring sequence chunk_id place
found_there ring live sequence chunk_id place view once is =
    let told : Some place ≡ option_map (λ (s : Stored). s.at) (find (is_at_key sequence chunk_id) ring.live) =
    sym is ∙ ap place_in (live_is ring live sequence chunk_id view) ∙ sym (place_told (find (is_at_key sequence chunk_id) ring.live)) in
    is_found ring sequence chunk_id place (Some place) refl told (at_place (is_at_key sequence chunk_id) ring (Some place) once told)

pub none_is : (ring : RingValue) (sequence chunk_id : ℕ) (result : Option ℕ) → result ≡ None → result ≡ option_map (λ (s : Stored). s.at) (find (is_at_key sequence chunk_id) ring.live) → find (is_at_key sequence chunk_id) ring.live ≡ None
none_is ring sequence chunk_id result none is = of (find (is_at_key sequence chunk_id) ring.live) (sym is ∙ none)
  where
    of : (o : Option Stored) → option_map (λ (s : Stored). s.at) o ≡ None → o ≡ None
    of None h = refl
    of (Some s) h = absurd (cc)

pub kept_found : (P : Stored → Bool) (rows : List Sequence) (ss : List Stored) (s : Stored) → AllKept rows ss → find P ss ≡ Some s → IsKept rows s
kept_found P rows [] s kept found = absurd (cc)
kept_found P rows (t ∷ ss) s kept found = of (P t) (kept_found P rows ss s kept.1) found
  where
    of : (b : Bool) → (find P ss ≡ Some s → IsKept rows s) → cond b (Some t) (find P ss) ≡ Some s → IsKept rows s
    of true later is = let here : t ≡ s = cc in subst (IsKept rows) here kept.0
    of false later is = later is

pub far_none : (rows : List Sequence) (ss : List Stored) (sequence chunk_id : ℕ) → AllKept rows ss → (chunk_id < 2 ^ 32 → ⊥) → find (is_at_key sequence chunk_id) ss ≡ None
far_none rows [] sequence chunk_id kept far = refl
far_none rows (s ∷ ss) sequence chunk_id kept far =
    let other : s.key.chunk_id ≢ chunk_id = λ same. far (subst (λ n. n < 2 ^ 32) same kept.0.id) in
    ap (λ b. cond b (Some s) (find (is_at_key sequence chunk_id) ss))
    (ap (λ b. (s.key.sequence == sequence) && b) (ne_eqb s.key.chunk_id chunk_id other) ∙ no_one (s.key.sequence == sequence))
    ∙ far_none rows ss sequence chunk_id kept.1 far
  where
    no_one : (b : Bool) → (b && false) ≡ false
    no_one true = refl
    no_one false = refl

pub mapped : {X : Type 0} (f : Stored → X) (o : Option Stored) (s : Stored) (x : X) → o ≡ Some s → option_map f o ≡ Some x → x ≡ f s
mapped f o s x is told = let both : Some (f s) ≡ Some x = ap (option_map f) (sym is) ∙ told in cc

pub place_had : (ring : RingValue) (sequence chunk_id place : ℕ) (result : Option ℕ) (s : Stored) → result ≡ Some place → result ≡ option_map (λ (t : Stored). t.at) (find (is_at_key sequence chunk_id) ring.live) → find (is_at_key sequence chunk_id) ring.live ≡ Some s → place ≡ s.at
place_had ring sequence chunk_id place result s some is found =
    mapped (λ (t : Stored). t.at) (find (is_at_key sequence chunk_id) ring.live) s place found (sym is ∙ some)

pub its_sequence : (sequence chunk_id : ℕ) (ss : List Stored) (s : Stored) → find (is_at_key sequence chunk_id) ss ≡ Some s → s.key.sequence ≡ sequence
its_sequence sequence chunk_id ss s found =
    of (s.key.sequence == sequence) (s.key.chunk_id == chunk_id) refl (find_true (is_at_key sequence chunk_id) ss s found)
  where
    of : (b d : Bool) → (s.key.sequence == sequence) ≡ b → (b && d) ≡ true → s.key.sequence ≡ sequence
    of true d is holds = eqb-true s.key.sequence sequence is
    of false d is holds = absurd (true≢false (sym holds))

pub readable_is : (r : Reading) → is_readable r ≡ true → r ≡ Fragments (fragments_of r)
readable_is (Fragments fs) reads = refl
readable_is (Unreadable n) reads = absurd (true≢false (sym reads))

pub tells_record : (stored : Stored) (key : RecordKey) (payload : List ℕ) → is_readable (reading_of stored.key.count stored.payload) ≡ true → key ≡ stored.key → payload ≡ stored.payload → TellsRecord key payload (record_of stored)
tells_record stored key payload reads key_is payload_is = record {
  sequence = ap (λ (k : RecordKey). k.sequence) key_is;
  chunk_id = ap (λ (k : RecordKey). k.chunk_id) key_is;
  chunk = ap₂ chunk_of key_is payload_is;
  reads = ap₂ (λ (k : RecordKey) p. reading_of k.count p) key_is payload_is ∙ readable_is (reading_of stored.key.count stored.payload) reads;
}

-- a payload takes less than its record
pub payload_small : (len size room : ℕ) → record_size len ≡ size → size ≤ room → room ≤ 67108864 → len ≤ 67108864
payload_small len size room is fits most = omega (arith, is, fits, most)
