-- What an index is to those who use it: a finite map from the chunks of all sequences to places.
use Rattle.std.specs.Prelude.{◌≡◌, ℕ, ◌+◌, ◌*◌, ◌^◌, ◌<◌, ◌≤◌, Option, Some, None, refl}
use Rattle.std.specs.Coded.{Coded, code_by, coded×, coded_ℕ}
use Rattle.std.specs.Ordering.{nat_cmp}
use Rattle.std.specs.FinMap.{FinMap}
use Rattle.std.specs.FinMap as map

-- an index as its callers see it
pub record IndexValue : Type 0 where
  -- how many entries there can be
  pub capacity : ℕ
  pub places : FinMap nat_cmp ℕ

-- an index's value as one of std's, so that it has an order of its own
abbrev pub index_code : Coded IndexValue
index_code =
    code_by (ℕ × FinMap nat_cmp ℕ) (coded× coded_ℕ (map.code coded_ℕ coded_ℕ)) (λ index. (index.capacity, index.places))
    (λ pair. record { capacity = pair.0; places = pair.1 }) (λ _. refl)

-- sequence and position of the chunk as one number: each is below 2 ^ 32
abbrev pub key_of : ℕ → ℕ → ℕ
key_of sequence chunk_id = sequence * 2 ^ 32 + chunk_id

-- an index without entries
abbrev pub empty_index : ℕ → IndexValue
empty_index capacity = record { capacity = capacity; places = map.empty }

-- the place of a chunk
abbrev pub place_of : IndexValue → ℕ → ℕ → Option ℕ
place_of index sequence chunk_id = map.get index.places (key_of sequence chunk_id)

-- the index with one entry more
abbrev pub with_place : IndexValue → ℕ → ℕ → ℕ → IndexValue
with_place index sequence chunk_id place = record index { places = map.insert index.places (key_of sequence chunk_id) place }

-- the index without the entry of a chunk
abbrev pub without_place : IndexValue → ℕ → ℕ → IndexValue
without_place index sequence chunk_id = record index { places = map.remove index.places (key_of sequence chunk_id) }

-- the index with these places in place of its own
abbrev pub with_places : FinMap nat_cmp ℕ → IndexValue → IndexValue
with_places places index = record index { places = places }

-- the sequence's chunks from this position on begin with one that is at this place
pub record IsFirstFrom (index : IndexValue) (sequence from chunk_id place : ℕ) : Type 0 where
  pub order : from ≤ chunk_id
  pub there : place_of index sequence chunk_id ≡ Some place
  pub none_before : (other : ℕ) → from ≤ other → other < chunk_id → place_of index sequence other ≡ None

-- no chunk of the sequence has this position or one above
abbrev pub HasNoneFrom : IndexValue → ℕ → ℕ → Type 0
HasNoneFrom index sequence from = (other : ℕ) → from ≤ other → other < 2 ^ 32 → place_of index sequence other ≡ None
