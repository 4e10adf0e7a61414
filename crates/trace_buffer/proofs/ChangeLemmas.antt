-- A record of a ring that is changed in its place.
use Rattle.std.proofs.Common.{◌≡◌, ◌≢◌, ℕ, ◌==◌, ◌&&◌, Bool, true, false, cond, List, [], ◌∷◌, length, map, Some, refl, sym, ap, ap₂, ◌∙◌, subst, arith, eq-eqb, eqb-true, ne_eqb, true≢false}
use Rattle.std.specs.FinMap.{FinMap}
use Rattle.std.specs.List.{find}
use Rattle.std.specs.Option.{option_map}
use Rattle.std.specs.Ordering.{nat_cmp}
use Rattle.std.proofs.lemmas.Bool.{and_parts}
use Rattle.page_geometry.specs.Sizes.{record_size}
use Rattle.chunk_index.specs.Value.{IndexValue}
use Rattle.ring_bytes.specs.declared.key.RecordKey.{RecordKey}
use Rattle.ring_bytes.specs.Value.{Stored, RingValue, NoneAt, change_at, changed_at, with_contents}
use Rattle.ring_bytes.proofs.ListLemmas.{change_none}
use Rattle.trace_model.specs.Buffers.{BufferRecord, is_of}
use Rattle.trace_model.specs.Sequences.{Sequence, sequence_in}
use Rattle.trace_buffer.specs.BufferFields.{AreParts, AllKept, IsKept, IsIndexed, NoneOf, KeysOnce, PlacesOnce}
use Rattle.trace_buffer.specs.Records.{record_of, chunk_of, is_at_key}
use Rattle.trace_buffer.proofs.FindLemmas.{none_found}

-- The same places and chunks

pub record IsAlike (s t : Stored) : Type 0 where
  pub at : t.at ≡ s.at
  pub sequence : t.key.sequence ≡ s.key.sequence
  pub chunk_id : t.key.chunk_id ≡ s.key.chunk_id

none_alike : (f : Stored → Stored) (q i : ℕ) (ss : List Stored) → ((s : Stored) → IsAlike s (f s)) → NoneOf q i ss → NoneOf q i (map f ss)
none_alike f q i [] alike none = tt
none_alike f q i (s ∷ ss) alike none =
    (ap₂ (λ m n. (m == q) && (n == i)) (alike s).sequence (alike s).chunk_id ∙ none.0, none_alike f q i ss alike none.1)

at_alike : (f : Stored → Stored) (place : ℕ) (ss : List Stored) → ((s : Stored) → IsAlike s (f s)) → NoneAt place ss → NoneAt place (map f ss)
at_alike f place [] alike none = tt
at_alike f place (s ∷ ss) alike none = (ap (λ m. m == place) (alike s).at ∙ none.0, at_alike f place ss alike none.1)

keys_alike : (f : Stored → Stored) (ss : List Stored) → ((s : Stored) → IsAlike s (f s)) → KeysOnce ss → KeysOnce (map f ss)
keys_alike f [] alike once = tt
keys_alike f (s ∷ ss) alike once = (
  none_alike f (f s).key.sequence (f s).key.chunk_id ss alike
      (subst (λ n. NoneOf n (f s).key.chunk_id ss) (sym (alike s).sequence) (subst (λ n. NoneOf s.key.sequence n ss) (sym (alike s).chunk_id) once.0)),
  keys_alike f ss alike once.1,
)

places_alike : (f : Stored → Stored) (ss : List Stored) → ((s : Stored) → IsAlike s (f s)) → PlacesOnce ss → PlacesOnce (map f ss)
places_alike f [] alike once = tt
places_alike f (s ∷ ss) alike once =
    (at_alike f (f s).at ss alike (subst (λ n. NoneAt n ss) (sym (alike s).at) once.0), places_alike f ss alike once.1)

length_alike : (f : Stored → Stored) (ss : List Stored) → length (map f ss) ≡ length ss
length_alike f [] = refl
length_alike f (s ∷ ss) = let rest = length_alike f ss in omega arith

find_alike : (f : Stored → Stored) (q i : ℕ) (ss : List Stored) → ((s : Stored) → IsAlike s (f s)) → option_map (λ (t : Stored). t.at) (find (is_at_key q i) (map f ss)) ≡ option_map (λ (t : Stored). t.at) (find (is_at_key q i) ss)
find_alike f q i [] alike = refl
find_alike f q i (s ∷ ss) alike =
    ap (λ b. option_map (λ (t : Stored). t.at) (cond b (Some (f s)) (find (is_at_key q i) (map f ss))))
    (ap₂ (λ m n. (m == q) && (n == i)) (alike s).sequence (alike s).chunk_id)
    ∙ of (is_at_key q i s) (find_alike f q i ss alike)
  where
    of : (b : Bool) → option_map (λ (t : Stored). t.at) (find (is_at_key q i) (map f ss)) ≡ option_map (λ (t : Stored). t.at) (find (is_at_key q i) ss) → option_map (λ (t : Stored). t.at) (cond b (Some (f s)) (find (is_at_key q i) (map f ss))) ≡ option_map (λ (t : Stored). t.at) (cond b (Some s) (find (is_at_key q i) ss))
    of true rest = ap (λ n. Some n) (alike s).at
    of false rest = rest

pub indexed_alike : (places : FinMap nat_cmp ℕ) (f : Stored → Stored) (ss : List Stored) → ((s : Stored) → IsAlike s (f s)) → IsIndexed places ss → IsIndexed places (map f ss)
indexed_alike places f ss alike is = record {
  found = λ q i low below. is.found q i low below ∙ sym (find_alike f q i ss alike);
  few = is.few ∙ sym (length_alike f ss);
  keys = keys_alike f ss alike is.keys;
  places_once = places_alike f ss alike is.places_once;
}

-- The record at a place is the one of a chunk

-- the records of a chunk are changed
abbrev pub at_key : ℕ → ℕ → (Stored → Stored) → Stored → Stored
at_key q i f s = cond (is_at_key q i s) (f s) s

pub no_change_of : (q i : ℕ) (f : Stored → Stored) (ss : List Stored) → NoneOf q i ss → map (at_key q i f) ss ≡ ss
no_change_of q i f [] none = refl
no_change_of q i f (s ∷ ss) none =
    ap₂ (λ t ts. t ∷ ts) (ap (λ b. cond b (f s) s) none.0) (no_change_of q i f ss none.1)

pub same_change : (q i place : ℕ) (f : Stored → Stored) (ss : List Stored) (s : Stored) → KeysOnce ss → PlacesOnce ss → find (is_at_key q i) ss ≡ Some s → place ≡ s.at → change_at place f ss ≡ map (at_key q i f) ss
same_change q i place f [] s keys once found here = absurd (cc)
same_change q i place f (t ∷ ss) s keys once found here = of (is_at_key q i t) refl (same_change q i place f ss s keys.1 once.1) found
  where
    of : (b : Bool) → is_at_key q i t ≡ b → (find (is_at_key q i) ss ≡ Some s → place ≡ s.at → change_at place f ss ≡ map (at_key q i f) ss) → cond b (Some t) (find (is_at_key q i) ss) ≡ Some s → change_at place f (t ∷ ss) ≡ map (at_key q i f) (t ∷ ss)
    of true is rest some =
        let same : t ≡ s = cc in
        let at_t : t.at ≡ place = ap (λ (u : Stored). u.at) same ∙ sym here in
        let two = and_parts (t.key.sequence == q) (t.key.chunk_id == i) is in
        ap₂ (λ u us. u ∷ us)
        (ap (λ b. cond b (f t) t) (eq-eqb t.at place at_t) ∙ sym (ap (λ b. cond b (f t) t) is))
        (change_none place f ss (subst (λ n. NoneAt n ss) at_t once.0)
        ∙ sym
        (no_change_of q i f ss
        (subst (λ n. NoneOf n i ss) (eqb-true t.key.sequence q two.0) (subst (λ n. NoneOf t.key.sequence n ss) (eqb-true t.key.chunk_id i two.1) keys.0))))
    of false is rest some =
        let apart : t.at ≢ place = λ same.
        true≢false (sym (eq-eqb s.at t.at (sym here ∙ sym same)) ∙ none_found (is_at_key q i) t.at ss s once.0 some) in
        ap₂ (λ u us. u ∷ us)
        (ap (λ b. cond b (f t) t) (ne_eqb t.at place apart) ∙ sym (ap (λ b. cond b (f t) t) is))
        (rest some here)

-- Other contents

contents_alike : (key : RecordKey) (payload : List ℕ) (s : Stored) → IsAlike s (at_key key.sequence key.chunk_id (with_contents key payload) s)
contents_alike key payload s = of (is_at_key key.sequence key.chunk_id s) refl
  where
    of : (b : Bool) → is_at_key key.sequence key.chunk_id s ≡ b → IsAlike s (cond b (with_contents key payload s) s)
    of true is =
        let two = and_parts (s.key.sequence == key.sequence) (s.key.chunk_id == key.chunk_id) is in
        record {
          at = refl;
          sequence = sym (eqb-true s.key.sequence key.sequence two.0);
          chunk_id = sym (eqb-true s.key.chunk_id key.chunk_id two.1);
        }
    of false is = record { at = refl; sequence = refl; chunk_id = refl }

kept_contents : (rows : List Sequence) (key : RecordKey) (payload : List ℕ) (ss : List Stored) → ((s : Stored) → IsKept rows (with_contents key payload s)) → AllKept rows ss → AllKept rows (map (at_key key.sequence key.chunk_id (with_contents key payload)) ss)
kept_contents rows key payload [] new kept = tt
kept_contents rows key payload (s ∷ ss) new kept =
    (of (is_at_key key.sequence key.chunk_id s), kept_contents rows key payload ss new kept.1)
  where
    of : (b : Bool) → IsKept rows (cond b (with_contents key payload s) s)
    of true = new s
    of false = kept.0

-- the records as the definitions have them
contents_records : (rows : List Sequence) (key : RecordKey) (payload : List ℕ) (ss : List Stored) → record_size (length payload) ≡ (sequence_in rows key.sequence).size → AllKept rows ss → map record_of (map (at_key key.sequence key.chunk_id (with_contents key payload)) ss) ≡ map (λ (r : BufferRecord). cond (is_of key.sequence key.chunk_id r) (record r { chunk = chunk_of key payload }) r) (map record_of ss)
contents_records rows key payload [] size kept = refl
contents_records rows key payload (s ∷ ss) size kept =
    ap₂ (λ r rs. r ∷ rs) (of (is_at_key key.sequence key.chunk_id s) refl) (contents_records rows key payload ss size kept.1)
  where
    of : (b : Bool) → is_at_key key.sequence key.chunk_id s ≡ b → record_of (cond b (with_contents key payload s) s) ≡ cond b (record (record_of s) { chunk = chunk_of key payload }) (record_of s)
    of true is =
        let two = and_parts (s.key.sequence == key.sequence) (s.key.chunk_id == key.chunk_id) is in
        let q : key.sequence ≡ s.key.sequence = sym (eqb-true s.key.sequence key.sequence two.0) in
        let i : key.chunk_id ≡ s.key.chunk_id = sym (eqb-true s.key.chunk_id key.chunk_id two.1) in
        let n : record_size (length payload) ≡ record_size (length s.payload) =
        size ∙ ap (λ m. (sequence_in rows m).size) q ∙ sym kept.0.size in
        λ j. record { sequence = q j; chunk_id = i j; at = s.at; size = n j; chunk = chunk_of key payload }
    of false is = refl

contents_is : (ring : RingValue) (places : FinMap nat_cmp ℕ) (key : RecordKey) (payload : List ℕ) (s : Stored) (place : ℕ) → IsIndexed places ring.live → find (is_at_key key.sequence key.chunk_id) ring.live ≡ Some s → place ≡ s.at → change_at place (with_contents key payload) ring.live ≡ map (at_key key.sequence key.chunk_id (with_contents key payload)) ring.live
contents_is ring places key payload s place is found here =
    same_change key.sequence key.chunk_id place (with_contents key payload) ring.live s is.keys is.places_once found here

pub parts_rewritten : (ring new : RingValue) (index : IndexValue) (rows : List Sequence) (key : RecordKey) (payload : List ℕ) (s : Stored) (place : ℕ) → AreParts ring index rows → find (is_at_key key.sequence key.chunk_id) ring.live ≡ Some s → place ≡ s.at → ((t : Stored) → IsKept rows (with_contents key payload t)) → new ≡ changed_at ring place (with_contents key payload) → AreParts new index rows
parts_rewritten ring new index rows key payload s place parts found here kept is =
    subst (λ (r : RingValue). AreParts r index rows) (sym is) made
  where
    f : Stored → Stored
    f = at_key key.sequence key.chunk_id (with_contents key payload)

    live : change_at place (with_contents key payload) ring.live ≡ map f ring.live
    live = contents_is ring index.places key payload s place parts.indexed found here

    made : AreParts (changed_at ring place (with_contents key payload)) index rows
    made = record {
      indexed = subst (IsIndexed index.places) (sym live)
          (indexed_alike index.places f ring.live (contents_alike key payload) parts.indexed);
      kept = subst (AllKept rows) (sym live) (kept_contents rows key payload ring.live kept parts.kept);
      once = parts.once;
      fit = parts.fit;
    }

pub records_rewritten : (ring new : RingValue) (index : IndexValue) (rows : List Sequence) (key : RecordKey) (payload : List ℕ) (s : Stored) (place : ℕ) → AreParts ring index rows → find (is_at_key key.sequence key.chunk_id) ring.live ≡ Some s → place ≡ s.at → record_size (length payload) ≡ (sequence_in rows key.sequence).size → new ≡ changed_at ring place (with_contents key payload) → map record_of new.live ≡ map (λ (r : BufferRecord). cond (is_of key.sequence key.chunk_id r) (record r { chunk = chunk_of key payload }) r) (map record_of ring.live)
records_rewritten ring new index rows key payload s place parts found here size is =
    ap (λ (r : RingValue). map record_of r.live) is
    ∙ ap (map record_of) (contents_is ring index.places key payload s place parts.indexed found here)
    ∙ contents_records rows key payload ring.live size parts.kept
