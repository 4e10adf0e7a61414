-- Searches end at the key's entry, and where there is none, at the slot that a new one goes to.
use Rattle.std.proofs.Common.{◌≡◌, ◌≢◌, ℕ, ◌+◌, ◌*◌, ◌<◌, ◌≤◌, ◌==◌, ◌||◌, ◌⊎◌, ⊎_elim, not, Bool, true, false, cond, List, length, Option, Some, None, inl, inr, refl, sym, ap, ◌∙◌, subst, true≢false, arith}
use Rattle.std.proofs.lemmas.Bool.{cases_eq, cases_lt, cases_Bool}
use Rattle.std.specs.Option.{option_map}
use Rattle.std.specs.FinMap.{get}
use Rattle.chunk_index.specs.declared.slot.Entry.{Entry}
use Rattle.chunk_index.specs.Slots.{home, slot, is_used, has_key, entry_key, entries_of, map_of, place_in}
use Rattle.chunk_index.specs.Table.{EndsAt, IsTable}
use Rattle.chunk_index.proofs.SlotLemmas.{used_inside, used_of_key, full_from}
use Rattle.chunk_index.proofs.FoundLemmas.{found, found_none, found_first, get_is}

pub home_below : (capacity key : ℕ) → home capacity key ≤ 2 * capacity
unfolding home
home_below capacity key = omega arith

-- where a search didn't end at the key, the key stands nowhere
pub keyless : (capacity : ℕ) (slots : List (Option Entry)) (key at : ℕ) → IsTable capacity slots → EndsAt slots key (home capacity key) at → has_key key (slot slots at) ≡ false → (other : ℕ) → has_key key (slot slots other) ≡ false
keyless capacity slots key at table search none other =
    let Goal : Type 0 = has_key key (slot slots other) ≡ false in
    let above : has_key key (slot slots other) ≡ true → at ≤ other → Goal = λ has behind.
    ⊎_elim
    (λ (over : length slots ≤ at). let inside = used_inside slots other (used_of_key (slot slots other) key has) in absurd (omega arith))
    (⊎_elim
    (λ (free : is_used (slot slots at) ≡ false).
    ⊎_elim
    (λ (same : other ≡ at). subst (λ a. has_key key (slot slots a) ≡ false) (sym same) none)
    (λ (apart : other ≢ at). absurd (true≢false (sym (table.used other at key has search.order (omega arith)) ∙ free)))
    (cases_eq other at))
    (λ (here : has_key key (slot slots at) ≡ true). absurd (true≢false (sym here ∙ none))))
    search.ends in
    ⊎_elim
    (λ (has : has_key key (slot slots other) ≡ true).
    ⊎_elim
    (λ (below : other < at). (search.passes other (table.reached other key has) below).1)
    (λ (behind : at ≤ other). above has behind)
    (cases_lt other at))
    (λ (not : has_key key (slot slots other) ≡ false). not)
    (cases_Bool (has_key key (slot slots other)))

found_there : (slots : List (Option Entry)) (key at : ℕ) (there : Option Entry) → slot slots at ≡ there → has_key key there ≡ true → ((other : ℕ) → other < at → has_key key (slot slots other) ≡ false) → found key slots ≡ place_in key there
found_there slots key at None is has before = absurd (true≢false (sym has))
found_there slots key at (Some entry) is has before =
    found_first slots key at entry is has before ∙ sym (ap (λ b. cond b (Some entry.place) None) has)

pub alone_before : (capacity : ℕ) (slots : List (Option Entry)) (key at : ℕ) → IsTable capacity slots → has_key key (slot slots at) ≡ true → (other : ℕ) → other < at → has_key key (slot slots other) ≡ false
alone_before capacity slots key at table has other below =
    ⊎_elim
    (λ (again : has_key key (slot slots other) ≡ true). let same = table.once other at key again has in absurd (omega arith))
    (λ (not : has_key key (slot slots other) ≡ false). not)
    (cases_Bool (has_key key (slot slots other)))

-- the map has the place at which the search ends
pub ends_found : (capacity : ℕ) (slots : List (Option Entry)) (key at : ℕ) → IsTable capacity slots → EndsAt slots key (home capacity key) at → get (map_of slots) key ≡ place_in key (slot slots at)
ends_found capacity slots key at table search =
    get_is slots key
    ∙ ⊎_elim
    (λ (has : has_key key (slot slots at) ≡ true).
    found_there slots key at (slot slots at) refl has (alone_before capacity slots key at table has))
    (λ (none : has_key key (slot slots at) ≡ false).
    found_none slots key (keyless capacity slots key at table search none)
    ∙ sym (ap (λ b. cond b (option_map (λ (entry : Entry). entry.place) (slot slots at)) None) none))
    (cases_Bool (has_key key (slot slots at)))

no_place : (key : ℕ) (there : Option Entry) → place_in key there ≡ None → has_key key there ≡ false
no_place key None none = refl
no_place key (Some entry) none =
    let P : Bool → Type 0 = λ b. cond b (Some entry.place) None ≡ None → b ≡ false in
    let all : (b : Bool) → P b = λ b. elim b as P [ true ↦ λ e. absurd (cc) | false ↦ λ e. refl ] in
    all (key == entry_key entry) none

a_place : (key : ℕ) (there : Option Entry) (place : ℕ) → place_in key there ≡ Some place → has_key key there ≡ true
a_place key None place some = absurd (cc)
a_place key (Some entry) place some =
    let P : Bool → Type 0 = λ b. cond b (Some entry.place) None ≡ Some place → b ≡ true in
    let all : (b : Bool) → P b = λ b. elim b as P [ true ↦ λ e. refl | false ↦ λ e. absurd (cc) ] in
    all (key == entry_key entry) some

ends_there : (key : ℕ) (there : Option Entry) → (not (is_used there) || has_key key there) ≡ true → (is_used there ≡ false) ⊎ (has_key key there ≡ true)
ends_there key None is = inl refl
ends_there key (Some entry) is = inr is

-- a search ends at its home where that is free or has the key
pub ends_at_home : (capacity : ℕ) (slots : List (Option Entry)) (key at : ℕ) → at ≡ home capacity key
    → (not (is_used (slot slots at)) || has_key key (slot slots at)) ≡ true → EndsAt slots key (home capacity key) at
ends_at_home capacity slots key at is ends = record {
  order = omega (arith, is);
  passes = λ other above below. absurd (omega (arith, is));
  ends = inr (ends_there key (slot slots at) ends);
}

pub absent_key : (capacity : ℕ) (slots : List (Option Entry)) (key at : ℕ) → IsTable capacity slots → EndsAt slots key (home capacity key) at → get (map_of slots) key ≡ None → has_key key (slot slots at) ≡ false
absent_key capacity slots key at table search none =
    no_place key (slot slots at) (sym (ends_found capacity slots key at table search) ∙ none)

pub present_key : (capacity : ℕ) (slots : List (Option Entry)) (key at place : ℕ) → IsTable capacity slots → EndsAt slots key (home capacity key) at → get (map_of slots) key ≡ Some place → has_key key (slot slots at) ≡ true
present_key capacity slots key at place table search some =
    a_place key (slot slots at) place (sym (ends_found capacity slots key at table search) ∙ some)

-- A table that isn't full has a slot where a search ends.
pub search_inside : (capacity : ℕ) (slots : List (Option Entry)) (key at : ℕ) → length slots ≡ 3 * capacity + 1 → length (entries_of slots) < capacity → EndsAt slots key (home capacity key) at → at < length slots
search_inside capacity slots key at room few search =
    ⊎_elim
    (λ (inside : at < length slots). inside)
    (λ (over : length slots ≤ at).
    let full = full_from slots (home capacity key) (λ other above inside. (search.passes other above (omega arith)).0) in
    let low = home_below capacity key in
    absurd (omega arith))
    (cases_lt at (length slots))

pub free_there : (slots : List (Option Entry)) (key from at : ℕ) → EndsAt slots key from at → at < length slots → has_key key (slot slots at) ≡ false → is_used (slot slots at) ≡ false
free_there slots key from at search inside none =
    ⊎_elim
    (λ (over : length slots ≤ at). absurd (omega arith))
    (⊎_elim
    (λ (free : is_used (slot slots at) ≡ false). free)
    (λ (here : has_key key (slot slots at) ≡ true). absurd (true≢false (sym here ∙ none))))
    search.ends
