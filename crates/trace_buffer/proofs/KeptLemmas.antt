-- One record more.
use Rattle.std.proofs.Common.{◌≡◌, ◌≢◌, ℕ, ◌<◌, ◌^◌, Bool, true, false, cond, ◌==◌, ◌&&◌, List, [], ◌∷◌, ◌++◌, length, Some, None, refl, sym, ap, ap₂, ◌∙◌, subst, arith, length-append, eqb-true, ne_eqb, true≢false}
use Rattle.std.proofs.lemmas.Bool.Decides.{nat_tests}
use Rattle.std.specs.FinMap.{FinMap, get, insert}
use Rattle.std.specs.List.{find}
use Rattle.std.specs.Option.{option_map}
use Rattle.std.specs.Ordering.{nat_cmp}
use Rattle.std.proofs.lemmas.Bool.{and_parts}
use Rattle.page_geometry.specs.Sizes.{record_size}
use Rattle.chunk_index.specs.Value.{IndexValue, key_of, with_place}
use Rattle.chunk_index.proofs.FoundLemmas.{get_with}
use Rattle.chunk_index.proofs.MapLemmas.{len_with}
use Rattle.ring_bytes.specs.declared.key.RecordKey.{RecordKey}
use Rattle.ring_bytes.specs.Value.{Stored, RingValue, NoneAt, is_at, size_of, meets_stored, placed, written}
use Rattle.ring_bytes.proofs.RowLemmas.{size_least}
use Rattle.trace_model.specs.Places.{is_met, place_after}
use Rattle.trace_model.specs.Sequences.{Sequence}
use Rattle.trace_buffer.specs.BufferFields.{AreParts, AllKept, IsKept, IsIndexed, NoneOf, KeysOnce, PlacesOnce}
use Rattle.trace_buffer.specs.Records.{is_at_key}

find_none_all : (P : Stored → Bool) (t : Stored) (ss : List Stored) → find P (t ∷ ss) ≡ None → (P t ≡ false) × (find P ss ≡ None)
find_none_all P t ss none = of (P t) none
  where
    of : (b : Bool) → cond b (Some t) (find P ss) ≡ None → (b ≡ false) × (find P ss ≡ None)
    of true is = absurd (cc)
    of false is = (refl, is)

-- Keys

pub flip_key : (s t : Stored) → is_at_key s.key.sequence s.key.chunk_id t ≡ false → is_at_key t.key.sequence t.key.chunk_id s ≡ false
flip_key s t is = grind (arith, nat_tests)

none_of_more : (q i : ℕ) (ss : List Stored) (s : Stored) → NoneOf q i ss → is_at_key q i s ≡ false → NoneOf q i (ss ++ s ∷ [])
none_of_more q i [] s none is = (is, tt)
none_of_more q i (t ∷ ss) s none is = (none.0, none_of_more q i ss s none.1 is)

keys_more : (ss : List Stored) (s : Stored) → KeysOnce ss → find (is_at_key s.key.sequence s.key.chunk_id) ss ≡ None → KeysOnce (ss ++ s ∷ [])
keys_more [] s once none = (tt, tt)
keys_more (t ∷ ss) s once none =
    let all = find_none_all (is_at_key s.key.sequence s.key.chunk_id) t ss none in
    (none_of_more t.key.sequence t.key.chunk_id ss s once.0 (flip_key s t all.0), keys_more ss s once.1 all.1)

-- Places

none_at_more : (place : ℕ) (ss : List Stored) (s : Stored) → NoneAt place ss → is_at place s ≡ false → NoneAt place (ss ++ s ∷ [])
none_at_more place [] s none is = (is, tt)
none_at_more place (t ∷ ss) s none is = (none.0, none_at_more place ss s none.1 is)

-- a record at the place of the new one is met
met_here : (room next n m : ℕ) → 0 < n → 0 < m → is_met room next n (place_after room next n) m ≡ true
met_here room next n m one two = grind (arith, nat_tests)

places_more : (room next n : ℕ) (ss : List Stored) (s : Stored) → 0 < n → s.at ≡ place_after room next n → PlacesOnce ss → find (λ (t : Stored). is_met room next n t.at (size_of t)) ss ≡ None → PlacesOnce (ss ++ s ∷ [])
places_more room next n [] s some here once none = (tt, tt)
places_more room next n (t ∷ ss) s some here once none =
    let all = find_none_all (λ (u : Stored). is_met room next n u.at (size_of u)) t ss none in
    let apart : s.at ≢ t.at = λ same.
    true≢false
    (sym (met_here room next n (size_of t) some (let least = size_least (length t.payload) in omega arith))
    ∙ ap (λ a. is_met room next n a (size_of t)) (sym here ∙ same) ∙ all.0) in
    (none_at_more t.at ss s once.0 (ne_eqb s.at t.at apart), places_more room next n ss s some here once.1 all.1)

-- Entries

pub key_test : (q i p j : ℕ) → i < 2 ^ 32 → j < 2 ^ 32 → (key_of p j == key_of q i) ≡ ((q == p) && (i == j))
key_test q i p j low below = grind (arith, nat_tests)

find_more : (P : Stored → Bool) (ss : List Stored) (s : Stored) → find P ss ≡ None → find P (ss ++ s ∷ []) ≡ cond (P s) (Some s) None
find_more P [] s none = refl
find_more P (t ∷ ss) s none =
    let all = find_none_all P t ss none in
    ap (λ b. cond b (Some t) (find P (ss ++ s ∷ []))) all.0 ∙ find_more P ss s all.1

find_other : (P : Stored → Bool) (ss : List Stored) (s : Stored) → P s ≡ false → find P (ss ++ s ∷ []) ≡ find P ss
find_other P [] s other = ap (λ b. cond b (Some s) None) other
find_other P (t ∷ ss) s other = ap (λ o. cond (P t) (Some t) o) (find_other P ss s other)

found_more : (places : FinMap nat_cmp ℕ) (ss : List Stored) (s : Stored) (q i p j : ℕ) → q ≡ s.key.sequence → i ≡ s.key.chunk_id → i < 2 ^ 32 → j < 2 ^ 32 → find (is_at_key q i) ss ≡ None → get places (key_of p j) ≡ option_map (λ (t : Stored). t.at) (find (is_at_key p j) ss) → get (insert places (key_of q i) s.at) (key_of p j) ≡ option_map (λ (t : Stored). t.at) (find (is_at_key p j) (ss ++ s ∷ []))
found_more places ss s q i p j q_is i_is low below none found =
    get_with places (key_of q i) s.at (key_of p j)
    ∙ ap (λ b. cond b (Some s.at) (get places (key_of p j))) (key_test q i p j low below ∙ ap₂ (λ x y. (x == p) && (y == j)) q_is i_is)
    ∙ of (is_at_key p j s) refl
  where
    of : (b : Bool) → is_at_key p j s ≡ b → cond b (Some s.at) (get places (key_of p j)) ≡ option_map (λ (t : Stored). t.at) (find (is_at_key p j) (ss ++ s ∷ []))
    of true is =
        let two = and_parts (s.key.sequence == p) (s.key.chunk_id == j) is in
        let q_same : q ≡ p = q_is ∙ eqb-true s.key.sequence p two.0 in
        let i_same : i ≡ j = i_is ∙ eqb-true s.key.chunk_id j two.1 in
        sym
        (ap (option_map (λ (t : Stored). t.at))
        (find_more (is_at_key p j) ss s (ap₂ (λ x y. find (is_at_key x y) ss) (sym q_same) (sym i_same) ∙ none)
        ∙ ap (λ b. cond b (Some s) None) is))
    of false is = found ∙ sym (ap (option_map (λ (t : Stored). t.at)) (find_other (is_at_key p j) ss s is))

pub indexed_more : (places : FinMap nat_cmp ℕ) (room next n : ℕ) (ss : List Stored) (s : Stored) → IsIndexed places ss → s.key.chunk_id < 2 ^ 32 → s.key.sequence < 2 ^ 32 → 0 < n → s.at ≡ place_after room next n → find (is_at_key s.key.sequence s.key.chunk_id) ss ≡ None → find (λ (t : Stored). is_met room next n t.at (size_of t)) ss ≡ None → IsIndexed (insert places (key_of s.key.sequence s.key.chunk_id) s.at) (ss ++ s ∷ [])
indexed_more places room next n ss s is low below some here none free = record {
  found = λ p j p_low j_low.
      found_more places ss s s.key.sequence s.key.chunk_id p j refl refl low j_low none (is.found p j p_low j_low);
  few = len_with places (key_of s.key.sequence s.key.chunk_id) s.at
      (is.found s.key.sequence s.key.chunk_id below low ∙ ap (option_map (λ (t : Stored). t.at)) none)
      ∙ omega (arith, is.few, length-append ss (s ∷ []));
  keys = keys_more ss s is.keys none;
  places_once = places_more room next n ss s some here is.places_once free;
}

pub kept_more : (rows : List Sequence) (ss : List Stored) (s : Stored) → AllKept rows ss → IsKept rows s → AllKept rows (ss ++ s ∷ [])
kept_more rows [] s kept one = (one, tt)
kept_more rows (t ∷ ss) s kept one = (kept.0, kept_more rows ss s kept.1 one)

pub parts_more : (ring new : RingValue) (index after : IndexValue) (rows : List Sequence) (key : RecordKey) (payload : List ℕ) (at : ℕ) → AreParts ring index rows → new ≡ written ring key payload → at ≡ place_after ring.room ring.next (record_size (length payload)) → after ≡ with_place index key.sequence key.chunk_id at → find (is_at_key key.sequence key.chunk_id) ring.live ≡ None → find (meets_stored ring (record_size (length payload))) ring.live ≡ None → IsKept rows (placed ring key payload) → AreParts new after rows
parts_more ring new index after rows key payload at parts new_is at_is after_is none free kept =
    subst (λ (r : RingValue). AreParts r after rows) (sym new_is)
    (subst (λ (x : IndexValue). AreParts (written ring key payload) x rows) (sym (after_is ∙ ap (with_place index key.sequence key.chunk_id) at_is)) made)
  where
    made : AreParts (written ring key payload) (with_place index key.sequence key.chunk_id (place_after ring.room ring.next (record_size (length payload)))) rows
    made = record {
      indexed = indexed_more index.places ring.room ring.next (record_size (length payload)) ring.live (placed ring key payload) parts.indexed
          kept.id kept.number (let least = size_least (length payload) in omega arith) refl none free;
      kept = kept_more rows ring.live (placed ring key payload) parts.kept kept;
      once = parts.once;
      fit = parts.fit;
    }
