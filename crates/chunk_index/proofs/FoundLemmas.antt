-- What the map of the slots has at a key.
use Rattle.std.proofs.Common.{◌≡◌, ℕ, zero, suc, ◌<◌, ◌==◌, Bool, true, false, cond, if◌then◌else◌, List, [], ◌∷◌, ◌++◌, length, set, nat_cmp, Option, Some, None, refl, sym, ap, ◌∙◌, subst, true≢false, arith, eqb-true}
use Rattle.std.specs.FinMap.{FinMap, find, get, insert, remove, get-from_entries, get-insert, get-remove, same_map, nat_cmp-IsAntisymmetric}
use Rattle.std.specs.Cmp.{nat_cmp_total, unsigned_tied}
use Rattle.chunk_index.specs.declared.slot.Entry.{Entry}
use Rattle.chunk_index.specs.Slots.{slot, is_used, has_key, entry_key, entries_of, map_of}

-- the place of the first slot that has the key
abbrev pub found : ℕ → List (Option Entry) → Option ℕ
found key [] = None
found key (None ∷ slots) = found key slots
found key (Some entry ∷ slots) = if key == entry_key entry then Some entry.place else found key slots

find_is : (slots : List (Option Entry)) (key : ℕ) → find nat_cmp key (entries_of slots) ≡ found key slots
find_is [] key = refl
find_is (None ∷ slots) key = find_is slots key
find_is (Some entry ∷ slots) key =
    ap (λ b. cond b (Some entry.place) (find nat_cmp key (entries_of slots))) (unsigned_tied key (entry_key entry))
    ∙ ap (λ o. cond (key == entry_key entry) (Some entry.place) o) (find_is slots key)

pub get_is : (slots : List (Option Entry)) (key : ℕ) → get (map_of slots) key ≡ found key slots
get_is slots key = get-from_entries nat_cmp_total (entries_of slots) key ∙ find_is slots key

pub get_with : (places : FinMap nat_cmp ℕ) (key place other : ℕ) → get (insert places key place) other ≡ cond (other == key) (Some place) (get places other)
get_with places key place other =
    get-insert nat_cmp_total places key place other ∙ ap (λ b. cond b (Some place) (get places other)) (unsigned_tied other key)

pub get_without : (places : FinMap nat_cmp ℕ) (key other : ℕ) → get (remove places key) other ≡ cond (other == key) None (get places other)
get_without places key other =
    get-remove nat_cmp_total places key other ∙ ap (λ b. cond b None (get places other)) (unsigned_tied other key)

pub same_places : (one other : FinMap nat_cmp ℕ) → ((key : ℕ) → get one key ≡ get other key) → one ≡ other
same_places one other same = same_map nat_cmp_total nat_cmp-IsAntisymmetric one other same

-- Where the key stands nowhere, and where it stands

pub found_none : (slots : List (Option Entry)) (key : ℕ) → ((at : ℕ) → has_key key (slot slots at) ≡ false) → found key slots ≡ None
found_none [] key nowhere = refl
found_none (None ∷ slots) key nowhere = found_none slots key (λ at. nowhere (suc at))
found_none (Some entry ∷ slots) key nowhere =
    ap (λ b. cond b (Some entry.place) (found key slots)) (nowhere zero) ∙ found_none slots key (λ at. nowhere (suc at))

pub found_first : (slots : List (Option Entry)) (key at : ℕ) (entry : Entry) → slot slots at ≡ Some entry → (key == entry_key entry) ≡ true → ((other : ℕ) → other < at → has_key key (slot slots other) ≡ false) → found key slots ≡ Some entry.place
found_first [] key at entry there is before = absurd (true≢false (sym (ap is_used there)))
found_first (None ∷ slots) key zero entry there is before = absurd (true≢false (sym (ap is_used there)))
found_first (Some first ∷ slots) key zero entry there is before =
    let here : first ≡ entry = cc in
    subst (λ (e : Entry). (if key == entry_key e then Some e.place else found key slots) ≡ Some entry.place) (sym here)
    (ap (λ b. cond b (Some entry.place) (found key slots)) is)
found_first (None ∷ slots) key (suc at) entry there is before =
    found_first slots key at entry there is (λ other below. before (suc other) (omega arith))
found_first (Some first ∷ slots) key (suc at) entry there is before =
    ap (λ b. cond b (Some first.place) (found key slots)) (before zero (omega arith))
    ∙ found_first slots key at entry there is (λ other below. before (suc other) (omega arith))

-- One slot is written

turned : {A : Type 0} (one other : Bool) (x y z : A) → (one ≡ true → other ≡ false) → cond one x (cond other y z) ≡ cond other y (cond one x z)
turned true true x y z apart = absurd (true≢false (apart refl))
turned true false x y z apart = refl
turned false other x y z apart = refl

not_here : (key place : ℕ) (b : Bool) (rest : Option ℕ) → cond b (Some place) rest ≡ None → b ≡ false
not_here key place true rest none = absurd (cc)
not_here key place false rest none = refl

not_behind : (place : ℕ) (b : Bool) (rest : Option ℕ) → cond b (Some place) rest ≡ None → rest ≡ None
not_behind place true rest none = absurd (cc)
not_behind place false rest none = none

apart_keys : (key here other : ℕ) → (key == here) ≡ false → (other == here) ≡ true → (other == key) ≡ false
apart_keys key here other apart same = grind arith

pub found_set : (slots : List (Option Entry)) (at : ℕ) (entry : Entry) (key : ℕ) → at < length slots → is_used (slot slots at) ≡ false → found (entry_key entry) slots ≡ None → found key (set slots at (Some entry)) ≡ cond (key == entry_key entry) (Some entry.place) (found key slots)
found_set [] at entry key inside free none = absurd (omega arith)
found_set (None ∷ slots) zero entry key inside free none = refl
found_set (Some first ∷ slots) zero entry key inside free none = absurd (true≢false free)
found_set (None ∷ slots) (suc at) entry key inside free none = found_set slots at entry key (omega arith) free none
found_set (Some first ∷ slots) (suc at) entry key inside free none =
    let apart = not_here (entry_key entry) first.place (entry_key entry == entry_key first) (found (entry_key entry) slots) none in
    let rest = not_behind first.place (entry_key entry == entry_key first) (found (entry_key entry) slots) none in
    ap (λ o. cond (key == entry_key first) (Some first.place) o) (found_set slots at entry key (omega arith) free rest)
    ∙ turned (key == entry_key first) (key == entry_key entry) (Some first.place) (Some entry.place) (found key slots)
    (apart_keys (entry_key entry) (entry_key first) key apart)

-- One slot more behind all

pub found_entry_more : (slots : List (Option Entry)) (entry : Entry) (key : ℕ) → found (entry_key entry) slots ≡ None → found key (slots ++ Some entry ∷ []) ≡ cond (key == entry_key entry) (Some entry.place) (found key slots)
found_entry_more [] entry key none = refl
found_entry_more (None ∷ slots) entry key none = found_entry_more slots entry key none
found_entry_more (Some first ∷ slots) entry key none =
    let apart = not_here (entry_key entry) first.place (entry_key entry == entry_key first) (found (entry_key entry) slots) none in
    let rest = not_behind first.place (entry_key entry == entry_key first) (found (entry_key entry) slots) none in
    ap (λ o. cond (key == entry_key first) (Some first.place) o) (found_entry_more slots entry key rest)
    ∙ turned (key == entry_key first) (key == entry_key entry) (Some first.place) (Some entry.place) (found key slots)
    (apart_keys (entry_key entry) (entry_key first) key apart)

pub found_nothing_more : (slots : List (Option Entry)) (key : ℕ) → found key (slots ++ None ∷ []) ≡ found key slots
found_nothing_more [] key = refl
found_nothing_more (None ∷ slots) key = found_nothing_more slots key
found_nothing_more (Some first ∷ slots) key = ap (λ o. cond (key == entry_key first) (Some first.place) o) (found_nothing_more slots key)

none_again : (key : ℕ) (place : ℕ) (b : Bool) (rest : Option ℕ) → (b ≡ true → rest ≡ None) → rest ≡ cond b None (cond b (Some place) rest)
none_again key place true rest none = none refl
none_again key place false rest none = refl

pub found_clear : (slots : List (Option Entry)) (at : ℕ) (entry : Entry) (key : ℕ) → slot slots at ≡ Some entry → found (entry_key entry) (set slots at None) ≡ None → found key (set slots at None) ≡ cond (key == entry_key entry) None (found key slots)
found_clear [] at entry key there none = absurd (true≢false (sym (ap is_used there)))
found_clear (None ∷ slots) zero entry key there none = absurd (true≢false (sym (ap is_used there)))
found_clear (Some first ∷ slots) zero entry key there none =
    let here : first ≡ entry = cc in
    subst (λ (e : Entry). found key slots ≡ cond (key == entry_key entry) None (if key == entry_key e then Some e.place else found key slots)) (sym here)
    (none_again key entry.place (key == entry_key entry) (found key slots)
    (λ same. ap (λ k. found k slots) (eqb-true key (entry_key entry) same) ∙ none))
found_clear (None ∷ slots) (suc at) entry key there none = found_clear slots at entry key there none
found_clear (Some first ∷ slots) (suc at) entry key there none =
    let apart = not_here (entry_key entry) first.place (entry_key entry == entry_key first) (found (entry_key entry) (set slots at None)) none in
    let rest = not_behind first.place (entry_key entry == entry_key first) (found (entry_key entry) (set slots at None)) none in
    ap (λ o. cond (key == entry_key first) (Some first.place) o) (found_clear slots at entry key there rest)
    ∙ turned (key == entry_key first) (key == entry_key entry) (Some first.place) None (found key slots)
    (apart_keys (entry_key entry) (entry_key first) key apart)
