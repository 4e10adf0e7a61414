-- The map after an entry was added, taken out, or moved.
use Rattle.std.proofs.Common.{◌≡◌, ◌≢◌, ℕ, ◌+◌, ◌-◌, ◌<◌, ◌==◌, ⊎_elim, Bool, true, false, cond, List, length, set, nat_cmp, Option, Some, None, is_some, refl, sym, ap, ◌∙◌, subst, true≢false, arith, eq-eqb, replicate, eqb-true}
use Rattle.std.proofs.lemmas.Bool.{cases_eq, cases_Bool}
use Rattle.std.specs.FinMap.{FinMap, empty, empty_of_len, get, len, insert, remove, get-empty, len-insert, len-remove}
use Rattle.std.specs.Cmp.{nat_cmp_total}
use Rattle.chunk_index.specs.declared.slot.Entry.{Entry}
use Rattle.chunk_index.specs.Slots.{home, slot, is_used, has_key, entry_key, entries_of, map_of, place_in}
use Rattle.chunk_index.specs.Table.{EndsAt, IsTable}
use Rattle.chunk_index.specs.Value.{IndexValue, key_of, place_of}
use Rattle.chunk_index.proofs.SlotLemmas.{slot_same, slot_other, length_slots, more_entries, fewer_entries, slot_replicate}
use Rattle.chunk_index.proofs.FoundLemmas.{found, found_none, found_first, found_set, found_clear, get_is, get_with, get_without, same_places}
use Rattle.chunk_index.proofs.SearchLemmas.{ends_found}

abbrev pub Once : List (Option Entry) → Type 0
Once slots = (at other key : ℕ) → has_key key (slot slots at) ≡ true → has_key key (slot slots other) ≡ true → at ≡ other

-- the key that is taken out is nowhere else
gone_after : (slots : List (Option Entry)) (at : ℕ) (entry : Entry) → at < length slots → slot slots at ≡ Some entry → Once slots → (other : ℕ) → has_key (entry_key entry) (slot (set slots at None) other) ≡ false
gone_after slots at entry inside there once other =
    ⊎_elim
    (λ (here : other ≡ at). ap (has_key (entry_key entry)) (ap (slot (set slots at None)) here ∙ slot_same slots at None inside))
    (λ (away : other ≢ at).
    ap (has_key (entry_key entry)) (slot_other slots at other None away)
    ∙ ⊎_elim
    (λ (has : has_key (entry_key entry) (slot slots other) ≡ true).
    absurd (away (once other at (entry_key entry) has (ap (has_key (entry_key entry)) there ∙ eq-eqb _ _ refl))))
    (λ (not : has_key (entry_key entry) (slot slots other) ≡ false). not)
    (cases_Bool (has_key (entry_key entry) (slot slots other))))
    (cases_eq other at)

pub found_cleared : (slots : List (Option Entry)) (at : ℕ) (entry : Entry) (key : ℕ) → at < length slots → slot slots at ≡ Some entry → Once slots → found key (set slots at None) ≡ cond (key == entry_key entry) None (found key slots)
found_cleared slots at entry key inside there once =
    found_clear slots at entry key there
    (found_none (set slots at None) (entry_key entry) (gone_after slots at entry inside there once))

-- Moving

pub found_here : (slots : List (Option Entry)) (at : ℕ) (entry : Entry) → slot slots at ≡ Some entry → Once slots → found (entry_key entry) slots ≡ Some entry.place
found_here slots at entry there once =
    let key : ℕ = entry_key entry in
    let here : has_key key (slot slots at) ≡ true = ap (has_key key) there ∙ eq-eqb key key refl in
    found_first slots key at entry there (eq-eqb key key refl)
    (λ other below.
    ⊎_elim
    (λ (has : has_key key (slot slots other) ≡ true). let same = once other at key has here in absurd (omega arith))
    (λ (not : has_key key (slot slots other) ≡ false). not)
    (cases_Bool (has_key key (slot slots other))))

back_again : (key same place : ℕ) (b : Bool) (was : Option ℕ) → (b ≡ true → was ≡ Some place) → cond b (Some place) (cond b None was) ≡ was
back_again key same place true was is = sym (is refl)
back_again key same place false was is = refl

pub found_moved : (slots : List (Option Entry)) (hole from : ℕ) (entry : Entry) (key : ℕ) → hole < length slots → from < length slots → is_used (slot slots hole) ≡ false → slot slots from ≡ Some entry → Once slots → found key (set (set slots from None) hole (Some entry)) ≡ found key slots
found_moved slots hole from entry key hole_in from_in free there once =
    let mid : List (Option Entry) = set slots from None in
    let apart : hole ≢ from = λ same. true≢false (ap is_used (sym there) ∙ ap (λ a. is_used (slot slots a)) (sym same) ∙ free) in
    let none : found (entry_key entry) mid ≡ None = found_none mid (entry_key entry) (gone_after slots from entry from_in there once) in
    found_set mid hole entry key (omega (arith, length_slots slots from None)) (ap is_used (slot_other slots from hole None apart) ∙ free) none
    ∙ ap (λ o. cond (key == entry_key entry) (Some entry.place) o) (found_cleared slots from entry key from_in there once)
    ∙ back_again key (entry_key entry) entry.place (key == entry_key entry) (found key slots)
    (λ same. ap (λ k. found k slots) (eqb-true key (entry_key entry) same) ∙ found_here slots from entry there once)

pub map_moved : (slots : List (Option Entry)) (hole from : ℕ) (entry : Entry) → hole < length slots → from < length slots → is_used (slot slots hole) ≡ false → slot slots from ≡ Some entry → Once slots → map_of (set (set slots from None) hole (Some entry)) ≡ map_of slots
map_moved slots hole from entry hole_in from_in free there once =
    same_places (map_of (set (set slots from None) hole (Some entry))) (map_of slots)
    (λ key. get_is (set (set slots from None) hole (Some entry)) key ∙ found_moved slots hole from entry key hole_in from_in free there once ∙ sym (get_is slots key))

pub entries_moved : (slots : List (Option Entry)) (hole from : ℕ) (entry : Entry) → hole < length slots → is_used (slot slots hole) ≡ false → slot slots from ≡ Some entry → length (entries_of (set (set slots from None) hole (Some entry))) ≡ length (entries_of slots)
entries_moved slots hole from entry hole_in free there =
    let mid : List (Option Entry) = set slots from None in
    let apart : hole ≢ from = λ same. true≢false (ap is_used (sym there) ∙ ap (λ a. is_used (slot slots a)) (sym same) ∙ free) in
    more_entries mid hole entry (omega (arith, length_slots slots from None)) (ap is_used (slot_other slots from hole None apart) ∙ free)
    ∙ fewer_entries slots from (ap is_used there)

-- Adding

pub map_with : (slots : List (Option Entry)) (at : ℕ) (entry : Entry) → at < length slots → is_used (slot slots at) ≡ false → get (map_of slots) (entry_key entry) ≡ None → map_of (set slots at (Some entry)) ≡ insert (map_of slots) (entry_key entry) entry.place
map_with slots at entry inside free none =
    let absent : found (entry_key entry) slots ≡ None = sym (get_is slots (entry_key entry)) ∙ none in
    same_places (map_of (set slots at (Some entry))) (insert (map_of slots) (entry_key entry) entry.place)
    (λ key.
    get_is (set slots at (Some entry)) key
    ∙ found_set slots at entry key inside free absent
    ∙ ap (λ o. cond (key == entry_key entry) (Some entry.place) o) (sym (get_is slots key))
    ∙ sym (get_with (map_of slots) (entry_key entry) entry.place key))

-- Taking out

pub map_without : (slots : List (Option Entry)) (at : ℕ) (entry : Entry) → at < length slots → slot slots at ≡ Some entry → Once slots → map_of (set slots at None) ≡ remove (map_of slots) (entry_key entry)
map_without slots at entry inside there once =
    same_places (map_of (set slots at None)) (remove (map_of slots) (entry_key entry))
    (λ key.
    get_is (set slots at None) key
    ∙ found_cleared slots at entry key inside there once
    ∙ ap (λ o. cond (key == entry_key entry) None o) (sym (get_is slots key))
    ∙ sym (get_without (map_of slots) (entry_key entry) key))

pub count_without : (slots : List (Option Entry)) (at : ℕ) (entry : Entry) → at < length slots → slot slots at ≡ Some entry → Once slots → len (map_of slots) ≡ length (entries_of slots) → len (map_of (set slots at None)) ≡ length (entries_of (set slots at None))
count_without slots at entry inside there once count =
    ap (λ (m : FinMap nat_cmp ℕ). len m) (map_without slots at entry inside there once)
    ∙ len-remove nat_cmp_total (map_of slots) (entry_key entry)
    ∙ ap (λ (o : Option ℕ). cond (is_some o) (len (map_of slots) - 1) (len (map_of slots)))
    (get_is slots (entry_key entry) ∙ found_here slots at entry there once)
    ∙ (let fewer = fewer_entries slots at (ap is_used there) in omega arith)

-- New

pub map_empty : (count : ℕ) → map_of (replicate count None) ≡ empty
map_empty count = same_places (map_of (replicate count None)) empty
    (λ key. get_is (replicate count None) key ∙ found_none (replicate count None) key (λ at. ap (has_key key) (slot_replicate count at)) ∙ sym (get-empty nat_cmp key))

pub table_empty : (capacity count : ℕ) → IsTable capacity (replicate count None)
table_empty capacity count =
    let no_key : (at key : ℕ) → has_key key (slot (replicate count None) at) ≡ true → ⊥ =
    λ at key has. true≢false (sym has ∙ ap (has_key key) (slot_replicate count at)) in
    record {
      reached = λ at key has. absurd (no_key at key has);
      used = λ at other key has low below. absurd (no_key at key has);
      once = λ at other key one two. absurd (no_key at key one);
    }

-- What a search finds, said of an index

pub found_by : (index : IndexValue) (capacity room : ℕ) (slots seen : List (Option Entry)) (sequence chunk_id key at : ℕ) → record { capacity = capacity; places = map_of slots } ≡ index → seen ≡ slots → key ≡ key_of sequence chunk_id → IsTable room slots → EndsAt seen key (home room key) at → place_of index sequence chunk_id ≡ place_in key (slot slots at)
found_by index capacity room slots seen sequence chunk_id key at view same is table search =
    sym (ap (λ (i : IndexValue). place_of i sequence chunk_id) view)
    ∙ ap (get (map_of slots)) (sym is)
    ∙ ends_found room slots key at table (subst (λ s. EndsAt s key (home room key) at) same search)

-- Which entry is there

pub entry_at : (slots : List (Option Entry)) (key at : ℕ) → has_key key (slot slots at) ≡ true → (entry : Entry) × (slot slots at ≡ Some entry) × (key ≡ entry_key entry)
entry_at slots key at has = of_slot (slot slots at) refl has
  where
    of_slot : (there : Option Entry) → slot slots at ≡ there → has_key key there ≡ true → (entry : Entry) × (slot slots at ≡ Some entry) × (key ≡ entry_key entry)
    of_slot None is one = absurd (true≢false (sym one))
    of_slot (Some entry) is one = (entry, is, eqb-true key (entry_key entry) one)

-- How many entries a map has, as a caller of an index counts them

pub len_with : (places : FinMap nat_cmp ℕ) (key place : ℕ) → get places key ≡ None → len (insert places key place) ≡ len places + 1
len_with places key place none =
    len-insert nat_cmp_total places key place
    ∙ ap (λ (o : Option ℕ). cond (is_some o) (len places) (len places + 1)) none

pub len_without : (places : FinMap nat_cmp ℕ) (key place : ℕ) → get places key ≡ Some place → len (remove places key) + 1 ≡ len places
len_without places key place some =
    let fewer : len (remove places key) ≡ len places - 1 =
    len-remove nat_cmp_total places key ∙ ap (λ (o : Option ℕ). cond (is_some o) (len places - 1) (len places)) some in
    ⊎_elim
    (λ (none : len places ≡ 0).
    let empty_is = empty_of_len places none in
    let gone : get places key ≡ None = ap (λ (m : FinMap nat_cmp ℕ). get m key) empty_is ∙ get-empty nat_cmp key in
    absurd (true≢false (ap is_some (sym some) ∙ ap is_some gone)))
    (λ (one : len places ≡ 0 → ⊥). omega arith)
    (cases_eq (len places) 0)
