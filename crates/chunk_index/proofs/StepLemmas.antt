-- What is known of an index's fields where a search has ended.
use Rattle.std.proofs.Common.{◌≡◌, ◌<◌, ◌+◌, ◌*◌, ℕ, List, Option, Some, None, IsSome, false, length, sym, ap, ◌∙◌, subst, true≢false}
use Rattle.std.specs.FinMap.{get}
use Rattle.chunk_index.specs.declared.slot.Entry.{Entry}
use Rattle.chunk_index.specs.declared.index.Index.TheInside.{Inside}
use Rattle.chunk_index.specs.Fields.{index_view, IsIndex}
use Rattle.chunk_index.specs.Slots.{home, slot, has_key, is_used, entry_key, entries_of, map_of}
use Rattle.chunk_index.specs.Table.{EndsAt, IsTable}
use Rattle.chunk_index.specs.Value.{IndexValue, key_of, place_of}
use Rattle.chunk_index.proofs.SearchLemmas.{search_inside, free_there, absent_key, present_key}
use Rattle.chunk_index.proofs.MapLemmas.{entry_at}
use Rattle.chunk_index.proofs.SlotLemmas.{used_inside, used_of_key}

-- a new entry may be put there
pub record IsFree (slots : List (Option Entry)) (entry : Entry) (at : ℕ) : Type 0 where
  pub inside : at < length slots
  pub absent : has_key (entry_key entry) (slot slots at) ≡ false
  pub free : is_used (slot slots at) ≡ false

search_in : (capacity : ℕ) (slots seen : List (Option Entry)) (key is at : ℕ) → seen ≡ slots → is ≡ key → EndsAt seen is (home capacity is) at → EndsAt slots key (home capacity key) at
search_in capacity slots seen key is at same this ends =
    subst (λ k. EndsAt slots k (home capacity k) at) this (subst (λ s. EndsAt s is (home capacity is) at) same ends)

pub free_of : (capacity : ℕ) (slots : List (Option Entry)) (entry : Entry) (at : ℕ) → length slots ≡ 3 * capacity + 1 → IsTable capacity slots → length (entries_of slots) < capacity
    → get (map_of slots) (entry_key entry) ≡ None → EndsAt slots (entry_key entry) (home capacity (entry_key entry)) at → IsFree slots entry at
free_of capacity slots entry at size table few none search =
    let absent = absent_key capacity slots (entry_key entry) at table search none in
    let inside = search_inside capacity slots (entry_key entry) at size few search in
    record {
      inside = inside;
      absent = absent;
      free = free_there slots (entry_key entry) (home capacity (entry_key entry)) at search inside absent;
    }

-- the entry of the key is there
pub record IsThere (a : Inside) (sequence chunk_id at : ℕ) : Type 0 where
  pub entry : Entry
  pub there : slot a.slots.items at ≡ Some entry
  pub key : key_of sequence chunk_id ≡ entry_key entry
  pub inside : at < length a.slots.items

pub some_of : (found : Option ℕ) → IsSome found → (place : ℕ) × (found ≡ Some place)
some_of None h = absurd (true≢false (sym h))
some_of (Some place) h = (place, λ i. Some place)

pub there_of : (a : Inside) (index : IndexValue) (seen : List (Option Entry)) (sequence chunk_id key at : ℕ) → index_view a ≡ index → IsIndex a → seen ≡ a.slots.items → key ≡ key_of sequence chunk_id → IsSome (place_of index sequence chunk_id) → EndsAt seen key (home a.room key) at → IsThere a sequence chunk_id at
there_of a index seen sequence chunk_id key at view ok same is some ends =
    let search = search_in a.room a.slots.items seen (key_of sequence chunk_id) key at same is ends in
    let p = some_of (place_of index sequence chunk_id) some in
    let found : get (map_of a.slots.items) (key_of sequence chunk_id) ≡ Some p.0 =
    ap (λ (i : IndexValue). place_of i sequence chunk_id) view ∙ p.1 in
    let has = present_key a.room a.slots.items (key_of sequence chunk_id) at p.0 ok.room.table search found in
    let e = entry_at a.slots.items (key_of sequence chunk_id) at has in
    record {
      entry = e.0;
      there = e.1;
      key = e.2;
      inside = used_inside a.slots.items at (used_of_key (slot a.slots.items at) (key_of sequence chunk_id) has);
    }
