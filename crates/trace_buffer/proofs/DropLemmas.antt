-- One record less.
use Rattle.std.proofs.Common.{◌≡◌, ℕ, ◌<◌, ◌^◌, Bool, true, false, cond, ◌==◌, ◌&&◌, List, [], ◌∷◌, ◌++◌, Some, None, refl, sym, ap, ap₂, ◌∙◌, subst, arith, length-append, eq-eqb, eqb-true}
use Rattle.std.specs.FinMap.{FinMap, get, remove}
use Rattle.std.specs.List.{find}
use Rattle.std.specs.Option.{option_map}
use Rattle.std.specs.Ordering.{nat_cmp}
use Rattle.std.proofs.lemmas.Bool.{and_parts}
use Rattle.chunk_index.specs.Value.{IndexValue, key_of, without_place}
use Rattle.chunk_index.proofs.FoundLemmas.{get_without}
use Rattle.chunk_index.proofs.MapLemmas.{len_without}
use Rattle.ring_bytes.specs.Value.{Stored, RingValue, NoneAt, IsMetAt, dropped_at, without_stored}
use Rattle.ring_bytes.proofs.ListLemmas.{without_only}
use Rattle.trace_model.specs.Sequences.{Sequence}
use Rattle.trace_buffer.specs.BufferFields.{AreParts, AllKept, IsKept, IsIndexed, NoneOf, KeysOnce, PlacesOnce}
use Rattle.trace_buffer.specs.Records.{is_at_key}
use Rattle.trace_buffer.proofs.KeptLemmas.{flip_key, key_test}

none_out : (q i : ℕ) (xs ys : List Stored) (s : Stored) → NoneOf q i (xs ++ s ∷ ys) → NoneOf q i (xs ++ ys)
none_out q i [] ys s none = none.1
none_out q i (x ∷ xs) ys s none = (none.0, none_out q i xs ys s none.1)

none_middle : (q i : ℕ) (xs ys : List Stored) (s : Stored) → NoneOf q i (xs ++ s ∷ ys) → is_at_key q i s ≡ false
none_middle q i [] ys s none = none.0
none_middle q i (x ∷ xs) ys s none = none_middle q i xs ys s none.1

keys_out : (xs ys : List Stored) (s : Stored) → KeysOnce (xs ++ s ∷ ys) → KeysOnce (xs ++ ys)
keys_out [] ys s once = once.1
keys_out (x ∷ xs) ys s once = (none_out x.key.sequence x.key.chunk_id xs ys s once.0, keys_out xs ys s once.1)

keys_here : (xs ys : List Stored) (s : Stored) → KeysOnce (xs ++ s ∷ ys) → NoneOf s.key.sequence s.key.chunk_id (xs ++ ys)
keys_here [] ys s once = once.0
keys_here (x ∷ xs) ys s once =
    (flip_key x s (none_middle x.key.sequence x.key.chunk_id xs ys s once.0), keys_here xs ys s once.1)

pub none_find : (q i : ℕ) (ss : List Stored) → NoneOf q i ss → find (is_at_key q i) ss ≡ None
none_find q i [] none = refl
none_find q i (s ∷ ss) none = ap (λ b. cond b (Some s) (find (is_at_key q i) ss)) none.0 ∙ none_find q i ss none.1

find_middle : (q i : ℕ) (xs ys : List Stored) (s : Stored) → NoneOf q i (xs ++ ys) → is_at_key q i s ≡ true → find (is_at_key q i) (xs ++ s ∷ ys) ≡ Some s
find_middle q i [] ys s none is = ap (λ b. cond b (Some s) (find (is_at_key q i) ys)) is
find_middle q i (x ∷ xs) ys s none is =
    ap (λ b. cond b (Some x) (find (is_at_key q i) (xs ++ s ∷ ys))) none.0 ∙ find_middle q i xs ys s none.1 is

find_out : (P : Stored → Bool) (xs ys : List Stored) (s : Stored) → P s ≡ false → find P (xs ++ s ∷ ys) ≡ find P (xs ++ ys)
find_out P [] ys s is = ap (λ b. cond b (Some s) (find P ys)) is
find_out P (x ∷ xs) ys s is = ap (λ o. cond (P x) (Some x) o) (find_out P xs ys s is)

at_out : (place : ℕ) (xs ys : List Stored) (s : Stored) → NoneAt place (xs ++ s ∷ ys) → NoneAt place (xs ++ ys)
at_out place [] ys s none = none.1
at_out place (x ∷ xs) ys s none = (none.0, at_out place xs ys s none.1)

places_out : (xs ys : List Stored) (s : Stored) → PlacesOnce (xs ++ s ∷ ys) → PlacesOnce (xs ++ ys)
places_out [] ys s once = once.1
places_out (x ∷ xs) ys s once = (at_out x.at xs ys s once.0, places_out xs ys s once.1)

kept_out : (rows : List Sequence) (xs ys : List Stored) (s : Stored) → AllKept rows (xs ++ s ∷ ys) → AllKept rows (xs ++ ys)
kept_out rows [] ys s kept = kept.1
kept_out rows (x ∷ xs) ys s kept = (kept.0, kept_out rows xs ys s kept.1)

pub kept_middle : (rows : List Sequence) (xs ys : List Stored) (s : Stored) → AllKept rows (xs ++ s ∷ ys) → IsKept rows s
kept_middle rows [] ys s kept = kept.0
kept_middle rows (x ∷ xs) ys s kept = kept_middle rows xs ys s kept.1

its_key : (s : Stored) → is_at_key s.key.sequence s.key.chunk_id s ≡ true
its_key s = ap₂ (λ x y. x && y) (eq-eqb s.key.sequence s.key.sequence refl) (eq-eqb s.key.chunk_id s.key.chunk_id refl)

found_less : (places : FinMap nat_cmp ℕ) (xs ys : List Stored) (s : Stored) (p j : ℕ) → s.key.chunk_id < 2 ^ 32 → j < 2 ^ 32 → KeysOnce (xs ++ s ∷ ys) → get places (key_of p j) ≡ option_map (λ (t : Stored). t.at) (find (is_at_key p j) (xs ++ s ∷ ys)) → get (remove places (key_of s.key.sequence s.key.chunk_id)) (key_of p j) ≡ option_map (λ (t : Stored). t.at) (find (is_at_key p j) (xs ++ ys))
found_less places xs ys s p j low below once found =
    get_without places (key_of s.key.sequence s.key.chunk_id) (key_of p j)
    ∙ ap (λ b. cond b None (get places (key_of p j))) (key_test s.key.sequence s.key.chunk_id p j low below)
    ∙ of (is_at_key p j s) refl
  where
    of : (b : Bool) → is_at_key p j s ≡ b → cond b None (get places (key_of p j)) ≡ option_map (λ (t : Stored). t.at) (find (is_at_key p j) (xs ++ ys))
    of true is =
        let two = and_parts (s.key.sequence == p) (s.key.chunk_id == j) is in
        sym
        (ap (option_map (λ (t : Stored). t.at))
        (ap₂ (λ x y. find (is_at_key x y) (xs ++ ys)) (sym (eqb-true s.key.sequence p two.0)) (sym (eqb-true s.key.chunk_id j two.1))
        ∙ none_find s.key.sequence s.key.chunk_id (xs ++ ys) (keys_here xs ys s once)))
    of false is = found ∙ ap (option_map (λ (t : Stored). t.at)) (find_out (is_at_key p j) xs ys s is)

-- the record's place is in the index
pub place_is : (places : FinMap nat_cmp ℕ) (xs ys : List Stored) (s : Stored) → IsIndexed places (xs ++ s ∷ ys) → s.key.sequence < 2 ^ 32 → s.key.chunk_id < 2 ^ 32 → get places (key_of s.key.sequence s.key.chunk_id) ≡ Some s.at
place_is places xs ys s is low below =
    is.found s.key.sequence s.key.chunk_id low below
    ∙ ap (option_map (λ (t : Stored). t.at))
    (find_middle s.key.sequence s.key.chunk_id xs ys s (keys_here xs ys s is.keys) (its_key s))

indexed_less : (places : FinMap nat_cmp ℕ) (xs ys : List Stored) (s : Stored) → IsIndexed places (xs ++ s ∷ ys) → s.key.sequence < 2 ^ 32 → s.key.chunk_id < 2 ^ 32 → IsIndexed (remove places (key_of s.key.sequence s.key.chunk_id)) (xs ++ ys)
indexed_less places xs ys s is low below = record {
  found = λ p j p_low j_low. found_less places xs ys s p j below j_low is.keys (is.found p j p_low j_low);
  few = omega (arith, len_without places (key_of s.key.sequence s.key.chunk_id) s.at (place_is places xs ys s is low below), is.few, length-append xs (s ∷ ys), length-append xs ys);
  keys = keys_out xs ys s is.keys;
  places_once = places_out xs ys s is.places_once;
}

pub parts_less : (ring : RingValue) (index : IndexValue) (rows : List Sequence) (n place : ℕ) (met : IsMetAt ring n place) → AreParts ring index rows → AreParts (dropped_at ring place) (without_place index met.stored.key.sequence met.stored.key.chunk_id) rows
parts_less ring index rows n place met parts =
    let s : Stored = met.stored in
    let xs : List Stored = met.alone.before in
    let ys : List Stored = met.alone.behind in
    let live : without_stored place ring.live ≡ xs ++ ys = without_only place ring.live s met.alone in
    let kept : AllKept rows (xs ++ s ∷ ys) = subst (AllKept rows) met.alone.split parts.kept in
    let one = kept_middle rows xs ys s kept in
    record {
      indexed = subst (IsIndexed (remove index.places (key_of s.key.sequence s.key.chunk_id))) (sym live)
          (indexed_less index.places xs ys s (subst (IsIndexed index.places) met.alone.split parts.indexed) one.number one.id);
      kept = subst (AllKept rows) (sym live) (kept_out rows xs ys s kept);
      once = parts.once;
      fit = parts.fit;
    }
