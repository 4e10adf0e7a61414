-- One slot after a write, and how many entries there are.
use Rattle.std.proofs.Common.{◌≡◌, ◌≢◌, ℕ, zero, suc, ◌+◌, ◌<◌, ◌≤◌, ⊎_elim, true, false, List, [], ◌∷◌, length, set, replicate, Option, Some, None, refl, sym, ap, ◌∙◌, true≢false, arith, length-set, get_or-set_same, get_or-set_other}
use Rattle.std.proofs.lemmas.Bool.{cases_lt}
use Rattle.chunk_index.specs.declared.slot.Entry.{Entry}
use Rattle.chunk_index.specs.Slots.{slot, is_used, has_key, entries_of}

pub slot_same : (slots : List (Option Entry)) (at : ℕ) (there : Option Entry) → at < length slots → slot (set slots at there) at ≡ there
slot_same slots at there inside = get_or-set_same slots at there None inside

pub slot_other : (slots : List (Option Entry)) (at other : ℕ) (there : Option Entry) → other ≢ at → slot (set slots at there) other ≡ slot slots other
slot_other slots at other there apart = get_or-set_other slots at other there None apart

pub length_slots : (slots : List (Option Entry)) (at : ℕ) (there : Option Entry) → length (set slots at there) ≡ length slots
length_slots slots at there = length-set slots at there

-- behind the last slot there is none
pub slot_beyond : (slots : List (Option Entry)) (at : ℕ) → length slots ≤ at → slot slots at ≡ None
slot_beyond [] at behind = refl
slot_beyond (first ∷ slots) zero behind = absurd (omega arith)
slot_beyond (first ∷ slots) (suc at) behind = slot_beyond slots at (omega arith)

pub used_inside : (slots : List (Option Entry)) (at : ℕ) → is_used (slot slots at) ≡ true → at < length slots
used_inside slots at used =
    ⊎_elim (λ inside. inside)
    (λ behind. absurd (true≢false (sym used ∙ ap is_used (slot_beyond slots at behind))))
    (cases_lt at (length slots))

pub used_of_key : (there : Option Entry) (key : ℕ) → has_key key there ≡ true → is_used there ≡ true
used_of_key None key has = absurd (true≢false (sym has))
used_of_key (Some entry) key has = refl

-- Counting

pub more_entries : (slots : List (Option Entry)) (at : ℕ) (entry : Entry) → at < length slots → is_used (slot slots at) ≡ false → length (entries_of (set slots at (Some entry))) ≡ suc (length (entries_of slots))
more_entries [] at entry inside free = absurd (omega arith)
more_entries (None ∷ slots) zero entry inside free = refl
more_entries (Some first ∷ slots) zero entry inside free = absurd (true≢false free)
more_entries (None ∷ slots) (suc at) entry inside free = more_entries slots at entry (omega arith) free
more_entries (Some first ∷ slots) (suc at) entry inside free = ap suc (more_entries slots at entry (omega arith) free)

pub fewer_entries : (slots : List (Option Entry)) (at : ℕ) → is_used (slot slots at) ≡ true → suc (length (entries_of (set slots at None))) ≡ length (entries_of slots)
fewer_entries [] at used = absurd (true≢false (sym used))
fewer_entries (None ∷ slots) zero used = absurd (true≢false (sym used))
fewer_entries (Some first ∷ slots) zero used = refl
fewer_entries (None ∷ slots) (suc at) used = fewer_entries slots at used
fewer_entries (Some first ∷ slots) (suc at) used = ap suc (fewer_entries slots at used)

-- where all slots from `from` on are used, the entries reach to the end
pub full_from : (slots : List (Option Entry)) (from : ℕ) → ((other : ℕ) → from ≤ other → other < length slots → is_used (slot slots other) ≡ true) → length slots ≤ from + length (entries_of slots)
full_from [] from full = omega arith
full_from (None ∷ slots) zero full = absurd (true≢false (sym (full zero (omega arith) (omega arith))))
full_from (Some first ∷ slots) zero full =
    let rest : length slots ≤ 0 + length (entries_of slots) = full_from slots zero (λ other above inside. full (suc other) (omega arith) (omega arith)) in
    omega arith
full_from (None ∷ slots) (suc from) full =
    let rest : length slots ≤ from + length (entries_of slots) = full_from slots from (λ other above inside. full (suc other) (omega arith) (omega arith)) in
    omega arith
full_from (Some first ∷ slots) (suc from) full =
    let rest : length slots ≤ from + length (entries_of slots) = full_from slots from (λ other above inside. full (suc other) (omega arith) (omega arith)) in
    omega arith

-- New slots

pub slot_replicate : (count at : ℕ) → slot (replicate count None) at ≡ None
slot_replicate zero at = refl
slot_replicate (suc count) zero = refl
slot_replicate (suc count) (suc at) = slot_replicate count at

pub entries_replicate : (count : ℕ) → entries_of (replicate count None) ≡ []
entries_replicate zero = refl
entries_replicate (suc count) = entries_replicate count
