-- The least key of a range.
use Rattle.std.proofs.Common.{◌≡◌, ◌≢◌, ℕ, suc, ◌+◌, ◌-◌, ◌^◌, ◌<◌, ◌≤◌, ⊎_elim, false, List, length, Option, Some, None, sym, ap, ◌∙◌, subst, arith}
use Rattle.std.proofs.lemmas.Bool.{cases_eq, cases_lt}
use Rattle.std.specs.FinMap.{get}
use Rattle.chunk_index.specs.declared.slot.Entry.{Entry}
use Rattle.chunk_index.specs.Least.{NoneBetween, HasPlace, IsLeast}
use Rattle.chunk_index.specs.Slots.{slot, has_key, entry_key, map_of}
use Rattle.chunk_index.specs.Value.{IndexValue, key_of, IsFirstFrom, HasNoneFrom}
use Rattle.chunk_index.proofs.SlotLemmas.{slot_beyond}
use Rattle.chunk_index.proofs.FoundLemmas.{found_none, get_is}
use Rattle.chunk_index.proofs.MapLemmas.{Once, found_here}

one_more : (slots : List (Option Entry)) (count low limit : ℕ) → NoneBetween slots count low limit → ((key : ℕ) → low ≤ key → key < limit → has_key key (slot slots count) ≡ false) → NoneBetween slots (count + 1) low limit
one_more slots count low limit before here at key below above under =
    ⊎_elim
    (λ (same : at ≡ count). subst (λ a. has_key key (slot slots a) ≡ false) (sym same) (here key above under))
    (λ (apart : at ≢ count). before at key (omega arith) above under)
    (cases_eq at count)

none_in : (slots : List (Option Entry)) (count low limit : ℕ) → slot slots count ≡ None → (key : ℕ) → low ≤ key → key < limit → has_key key (slot slots count) ≡ false
none_in slots count low limit is key above under = ap (has_key key) is

-- at the end

none_there : (slots : List (Option Entry)) (low limit key : ℕ) → NoneBetween slots (length slots) low limit → low ≤ key → key < limit → get (map_of slots) key ≡ None
none_there slots low limit key none above under =
    get_is slots key
    ∙ found_none slots key
    (λ at.
    ⊎_elim
    (λ (inside : at < length slots). none at key inside above under)
    (λ (over : length slots ≤ at). ap (has_key key) (slot_beyond slots at over))
    (cases_lt at (length slots)))

some_there : (slots : List (Option Entry)) (key place : ℕ) → Once slots → HasPlace slots key place → get (map_of slots) key ≡ Some place
some_there slots key place once has =
    ap (get (map_of slots)) has.key_is
    ∙ get_is slots (entry_key has.entry)
    ∙ found_here slots has.at has.entry has.there once
    ∙ ap (λ p. Some p) has.place_is

pub none_from : (index : IndexValue) (slots : List (Option Entry)) (sequence from : ℕ) → map_of slots ≡ index.places → IsLeast slots (length slots) (key_of sequence from) (key_of sequence (2 ^ 32 - 1)) None → HasNoneFrom index sequence from
none_from index slots sequence from same least other above under =
    sym (ap (λ m. get m (key_of sequence other)) same)
    ∙ none_there slots (key_of sequence from) (suc (key_of sequence (2 ^ 32 - 1))) (key_of sequence other) least (omega arith) (omega arith)

pub first_is : (index : IndexValue) (slots : List (Option Entry)) (sequence from : ℕ) (best : ℕ × ℕ) → map_of slots ≡ index.places → Once slots → IsLeast slots (length slots) (key_of sequence from) (key_of sequence (2 ^ 32 - 1)) (Some best) → IsFirstFrom index sequence from (best.0 - key_of sequence 0) best.1
first_is index slots sequence from best same once least =
    let key : key_of sequence (best.0 - key_of sequence 0) ≡ best.0 = omega (arith, least.0) in
    record {
      order = omega (arith, least.0);
      there =
          sym (ap (λ m. get m (key_of sequence (best.0 - key_of sequence 0))) same)
          ∙ ap (get (map_of slots)) key
          ∙ some_there slots best.0 best.1 once least.2;
      none_before = λ other above below.
          sym (ap (λ m. get m (key_of sequence other)) same)
          ∙ none_there slots (key_of sequence from) best.0 (key_of sequence other) least.3 (omega arith) (omega arith);
    }

-- the pass has gone over all slots
pub least_of_all : (seen slots : List (Option Entry)) (count low high from limit : ℕ) (best is : Option (ℕ × ℕ)) → seen ≡ slots → count ≡ length seen → low ≡ from → high ≡ limit → best ≡ is → IsLeast seen count low high best → IsLeast slots (length slots) from limit is
least_of_all seen slots count low high from limit best is same all low_is high_is best_is least =
    let one = subst (λ n. IsLeast seen n low high best) all least in
    let two = subst (λ s. IsLeast s (length s) low high best) same one in
    let three = subst (λ n. IsLeast slots (length slots) n high best) low_is two in
    let four = subst (λ n. IsLeast slots (length slots) from n best) high_is three in
    subst (λ o. IsLeast slots (length slots) from limit o) best_is four
