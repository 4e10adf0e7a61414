-- Tables after an entry was added, taken out, or moved up into a hole.
use Rattle.std.proofs.Common.{◌≡◌, ◌≢◌, ℕ, ◌+◌, ◌<◌, ◌≤◌, ⊎_elim, true, false, List, length, set, Option, Some, None, sym, ap, ◌∙◌, subst, true≢false, arith, eq-eqb, eqb-true}
use Rattle.std.proofs.lemmas.Bool.{cases_eq}
use Rattle.chunk_index.specs.declared.slot.Entry.{Entry}
use Rattle.chunk_index.specs.Slots.{home, slot, is_used, has_key, entry_key}
use Rattle.chunk_index.specs.Table.{EndsAt, IsTable, IsHoled}
use Rattle.chunk_index.proofs.SlotLemmas.{slot_same, slot_other, length_slots}

-- one slot alone is new
record IsPut (old new : List (Option Entry)) (at : ℕ) (there : Option Entry) : Type 0 where
  here : slot new at ≡ there
  others : (other : ℕ) → other ≢ at → slot new other ≡ slot old other

put_is : (slots : List (Option Entry)) (at : ℕ) (there : Option Entry) → at < length slots → IsPut slots (set slots at there) at there
put_is slots at there inside = record {
  here = slot_same slots at there inside;
  others = λ other apart. slot_other slots at other there apart;
}

-- who has a key where the slot is an entry
key_is : (key : ℕ) (entry : Entry) (there : Option Entry) → there ≡ Some entry → has_key key there ≡ true → key ≡ entry_key entry
key_is key entry there is has = eqb-true key (entry_key entry) (sym (ap (has_key key) is) ∙ has)

no_key : (key : ℕ) (there : Option Entry) → there ≡ None → has_key key there ≡ true → ⊥
no_key key there is has = true≢false (sym has ∙ ap (has_key key) is)

pub table_with : (capacity : ℕ) (slots : List (Option Entry)) (at : ℕ) (entry : Entry) → IsTable capacity slots → EndsAt slots (entry_key entry) (home capacity (entry_key entry)) at → at < length slots → ((other : ℕ) → has_key (entry_key entry) (slot slots other) ≡ false) → IsTable capacity (set slots at (Some entry))
table_with capacity slots at entry table search inside nowhere =
    let new : List (Option Entry) = set slots at (Some entry) in
    let put : IsPut slots new at (Some entry) = put_is slots at (Some entry) inside in
    let key_at : (i key : ℕ) → i ≡ at → has_key key (slot new i) ≡ true → key ≡ entry_key entry =
    λ i key same has. key_is key entry (slot new i) (ap (slot new) same ∙ put.here) has in
    let old_key : (i key : ℕ) → i ≢ at → has_key key (slot new i) ≡ true → has_key key (slot slots i) ≡ true =
    λ i key apart has. sym (ap (has_key key) (put.others i apart)) ∙ has in
    let not_both : (i key : ℕ) → i ≢ at → has_key key (slot new i) ≡ true → key ≡ entry_key entry → ⊥ =
    λ i key apart has same. true≢false (sym (old_key i key apart has) ∙ ap (λ k. has_key k (slot slots i)) same ∙ nowhere i) in
    record {
      reached = λ i key has.
          ⊎_elim
          (λ (same : i ≡ at). subst (λ k. home capacity k ≤ i) (sym (key_at i key same has)) (omega (arith, search.order)))
          (λ (apart : i ≢ at). table.reached i key (old_key i key apart has))
          (cases_eq i at);
      used = λ i other key has low below.
          ⊎_elim
          (λ (here : other ≡ at). ap is_used (ap (slot new) here ∙ put.here))
          (λ (away : other ≢ at).
          ap is_used (put.others other away)
          ∙ ⊎_elim
          (λ (same : i ≡ at).
          let from : home capacity (entry_key entry) ≤ other = subst (λ k. home capacity k ≤ other) (key_at i key same has) low in
          (search.passes other from (omega arith)).0)
          (λ (apart : i ≢ at). table.used i other key (old_key i key apart has) low below)
          (cases_eq i at))
          (cases_eq other at);
      once = λ i j key one two.
          ⊎_elim
          (λ (first : i ≡ at).
          ⊎_elim
          (λ (second : j ≡ at). first ∙ sym second)
          (λ (apart : j ≢ at). absurd (not_both j key apart two (key_at i key first one)))
          (cases_eq j at))
          (λ (apart : i ≢ at).
          ⊎_elim
          (λ (second : j ≡ at). absurd (not_both i key apart one (key_at j key second two)))
          (λ (away : j ≢ at). table.once i j key (old_key i key apart one) (old_key j key away two))
          (cases_eq j at))
          (cases_eq i at);
    }

pub holed_of : (capacity : ℕ) (slots : List (Option Entry)) (at : ℕ) → IsTable capacity slots → at < length slots → IsHoled capacity (set slots at None) at (at + 1)
holed_of capacity slots at table inside =
    let new : List (Option Entry) = set slots at None in
    let put : IsPut slots new at None = put_is slots at None inside in
    let away : (i key : ℕ) → has_key key (slot new i) ≡ true → i ≢ at =
    λ i key has same. no_key key (slot new i) (ap (slot new) same ∙ put.here) has in
    let old_key : (i key : ℕ) → has_key key (slot new i) ≡ true → has_key key (slot slots i) ≡ true =
    λ i key has. sym (ap (has_key key) (put.others i (away i key has))) ∙ has in
    record {
      reached = λ i key has. table.reached i key (old_key i key has);
      used = λ i other key has low below apart.
          ap is_used (put.others other apart) ∙ table.used i other key (old_key i key has) low below;
      once = λ i j key one two. table.once i j key (old_key i key one) (old_key j key two);
      inside = omega (arith, length_slots slots at None);
      empty = ap is_used put.here;
      behind = omega arith;
      past = λ i key has low above. omega arith;
    }

-- The next entry's home is behind the hole: it stays.
pub holed_past : (capacity : ℕ) (slots : List (Option Entry)) (hole from : ℕ) (entry : Entry) → IsHoled capacity slots hole from → slot slots from ≡ Some entry → hole < home capacity (entry_key entry) → IsHoled capacity slots hole (from + 1)
holed_past capacity slots hole from entry holed there late = record {
  reached = holed.reached;
  used = holed.used;
  once = holed.once;
  inside = holed.inside;
  empty = holed.empty;
  behind = omega (arith, holed.behind);
  past = λ i key has low above.
      let behind : from ≤ i = holed.past i key has low above in
      let apart : i ≢ from = λ same.
      let k : key ≡ entry_key entry = key_is key entry (slot slots i) (ap (slot slots) same ∙ there) has in
      let l : home capacity (entry_key entry) ≤ hole = subst (λ k. home capacity k ≤ hole) k low in
      omega arith in
      omega arith;
}

-- It moves up into the hole, and leaves one where it stood.
pub holed_moved : (capacity : ℕ) (slots : List (Option Entry)) (hole from : ℕ) (entry : Entry) → IsHoled capacity slots hole from → from < length slots → slot slots from ≡ Some entry → home capacity (entry_key entry) ≤ hole → IsHoled capacity (set (set slots from None) hole (Some entry)) from (from + 1)
holed_moved capacity slots hole from entry holed inside there early =
    let mid : List (Option Entry) = set slots from None in
    let new : List (Option Entry) = set mid hole (Some entry) in
    let away : from ≢ hole = λ same. omega (arith, holed.behind) in
    let here : slot new hole ≡ Some entry = slot_same mid hole (Some entry) (omega (arith, holed.inside, length_slots slots from None)) in
    let gone : slot new from ≡ None = slot_other mid hole from (Some entry) away ∙ slot_same slots from None inside in
    let others : (i : ℕ) → i ≢ hole → i ≢ from → slot new i ≡ slot slots i =
    λ i apart other. slot_other mid hole i (Some entry) apart ∙ slot_other slots from i None other in
    let moved : (i key : ℕ) → has_key key (slot new i) ≡ true → i ≢ from =
    λ i key has same. no_key key (slot new i) (ap (slot new) same ∙ gone) has in
    let key_at : (i key : ℕ) → i ≡ hole → has_key key (slot new i) ≡ true → key ≡ entry_key entry =
    λ i key same has. key_is key entry (slot new i) (ap (slot new) same ∙ here) has in
    let key_from : (key : ℕ) → key ≡ entry_key entry → has_key key (slot slots from) ≡ true =
    λ key same. ap (has_key key) there ∙ eq-eqb key (entry_key entry) same in
    let old_key : (i key : ℕ) → i ≢ hole → has_key key (slot new i) ≡ true → has_key key (slot slots i) ≡ true =
    λ i key apart has. sym (ap (has_key key) (others i apart (moved i key has))) ∙ has in
    record {
      reached = λ i key has.
          ⊎_elim
          (λ (same : i ≡ hole). subst (λ k. home capacity k ≤ i) (sym (key_at i key same has)) (omega arith))
          (λ (apart : i ≢ hole). holed.reached i key (old_key i key apart has))
          (cases_eq i hole);
      used = λ i other key has low below apart.
          ⊎_elim
          (λ (at_hole : other ≡ hole). ap is_used (ap (slot new) at_hole ∙ here))
          (λ (off : other ≢ hole).
          ap is_used (others other off apart)
          ∙ ⊎_elim
          (λ (same : i ≡ hole).
          holed.used from other key (key_from key (key_at i key same has)) low (omega (arith, holed.behind)) off)
          (λ (unlike : i ≢ hole). holed.used i other key (old_key i key unlike has) low below off)
          (cases_eq i hole))
          (cases_eq other hole);
      once = λ i j key one two.
          ⊎_elim
          (λ (first : i ≡ hole).
          ⊎_elim
          (λ (second : j ≡ hole). first ∙ sym second)
          (λ (apart : j ≢ hole).
          absurd (moved j key two (sym (holed.once from j key (key_from key (key_at i key first one)) (old_key j key apart two)))))
          (cases_eq j hole))
          (λ (apart : i ≢ hole).
          ⊎_elim
          (λ (second : j ≡ hole).
          absurd (moved i key one (holed.once i from key (old_key i key apart one) (key_from key (key_at j key second two)))))
          (λ (unlike : j ≢ hole). holed.once i j key (old_key i key apart one) (old_key j key unlike two))
          (cases_eq j hole))
          (cases_eq i hole);
      inside = omega (arith, length_slots slots from None, length_slots mid hole (Some entry));
      empty = ap is_used gone;
      behind = omega arith;
      past = λ i key has low above. omega arith;
    }
