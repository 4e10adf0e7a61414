-- Slots whose entries are put into others, one after the other.
use Rattle.std.proofs.Common.{◌≡◌, ℕ, zero, suc, ◌+◌, ◌<◌, ◌≤◌, ◌==◌, ⊎_elim, true, false, cond, List, [], ◌∷◌, ◌++◌, length, take, Option, Some, None, refl, sym, ap, ◌∙◌, arith}
use Rattle.std.proofs.lemmas.Bool.{cases_lt, cases_Bool}
use Rattle.std.proofs.lemmas.List.{get_or-take, take_more}
use Rattle.std.specs.FinMap.{get}
use Rattle.chunk_index.specs.declared.slot.Entry.{Entry}
use Rattle.chunk_index.specs.Slots.{slot, has_key, entry_key, entries_of, map_of, with_slot}
use Rattle.chunk_index.proofs.SlotLemmas.{slot_beyond}
use Rattle.chunk_index.proofs.FoundLemmas.{found_none, found_entry_more, found_nothing_more, get_is, get_with, same_places}

entries_more : (slots : List (Option Entry)) (there : Option Entry) → length (entries_of (slots ++ there ∷ [])) ≡ length (entries_of slots) + length (entries_of (there ∷ []))
entries_more [] there = omega arith
entries_more (None ∷ slots) there = entries_more slots there
entries_more (Some first ∷ slots) there = let rest = entries_more slots there in omega arith

-- the entries of so many slots and of the next one
pub entries_next : (slots : List (Option Entry)) (at : ℕ) → at < length slots → length (entries_of (take (at + 1) slots)) ≡ length (entries_of (take at slots)) + length (entries_of (slot slots at ∷ []))
entries_next slots at inside = ap (λ s. length (entries_of s)) (take_more slots at None inside) ∙ entries_more (take at slots) (slot slots at)

-- they are no more than all
pub entries_within : (slots : List (Option Entry)) (at : ℕ) → length (entries_of (take at slots)) ≤ length (entries_of slots)
entries_within [] zero = omega arith
entries_within [] (suc at) = omega arith
entries_within (first ∷ slots) zero = omega arith
entries_within (None ∷ slots) (suc at) = entries_within slots at
entries_within (Some first ∷ slots) (suc at) = let rest = entries_within slots at in omega arith

-- the key of a slot stands in none before it
pub none_before : (slots : List (Option Entry)) (at : ℕ) (entry : Entry)
    → ((here other key : ℕ) → has_key key (slot slots here) ≡ true → has_key key (slot slots other) ≡ true → here ≡ other)
    → slot slots at ≡ Some entry → get (map_of (take at slots)) (entry_key entry) ≡ None
none_before slots at entry once is =
    get_is (take at slots) (entry_key entry)
    ∙ found_none (take at slots) (entry_key entry)
    (λ other. ⊎_elim
    (λ (below : other < at). ap (has_key (entry_key entry)) (get_or-take at slots other None below)
    ∙ ⊎_elim
    (λ (has : has_key (entry_key entry) (slot slots other) ≡ true).
    let here : has_key (entry_key entry) (slot slots at) ≡ true = ap (has_key (entry_key entry)) is ∙ same_key (entry_key entry) in
    let same = once other at (entry_key entry) has here in absurd (omega arith))
    (λ (not : has_key (entry_key entry) (slot slots other) ≡ false). not)
    (cases_Bool (has_key (entry_key entry) (slot slots other))))
    (λ (behind : at ≤ other). ap (has_key (entry_key entry)) (slot_beyond (take at slots) other (let few = taken at slots in omega arith)))
    (cases_lt other at))
  where
    same_key : (key : ℕ) → (key == key) ≡ true
    same_key key = grind arith

    taken : (n : ℕ) (xs : List (Option Entry)) → length (take n xs) ≤ n
    taken zero xs = omega arith
    taken (suc n) [] = omega arith
    taken (suc n) (x ∷ xs) = let rest = taken n xs in omega arith

-- the map of so many slots and of the next one
pub map_next : (slots : List (Option Entry)) (at : ℕ) → at < length slots
    → ((here other key : ℕ) → has_key key (slot slots here) ≡ true → has_key key (slot slots other) ≡ true → here ≡ other)
    → map_of (take (at + 1) slots) ≡ with_slot (slot slots at) (map_of (take at slots))
map_next slots at inside once =
    ap map_of (take_more slots at None inside) ∙ by (slot slots at) refl
  where
    by : (there : Option Entry) → slot slots at ≡ there → map_of (take at slots ++ there ∷ []) ≡ with_slot there (map_of (take at slots))
    by None is = same_places _ _ (λ key. get_is (take at slots ++ None ∷ []) key ∙ found_nothing_more (take at slots) key ∙ sym (get_is (take at slots) key))
    by (Some entry) is =
        let none = none_before slots at entry once is in
        same_places _ _ (λ key. get_is (take at slots ++ Some entry ∷ []) key
        ∙ found_entry_more (take at slots) entry key (sym (get_is (take at slots) (entry_key entry)) ∙ none)
        ∙ ap (λ o. cond (key == entry_key entry) (Some entry.place) o) (sym (get_is (take at slots) key))
        ∙ sym (get_with (map_of (take at slots)) (entry_key entry) entry.place key))
