-- The word of a page that may be partitioned anew. It is a page word as the shared memory ABI and this project's claim bits have it, with two
-- changes of this profile: the claim bits of the places from the layout's number of chunks on are set, and the bits from 46 on count how
-- often the page was partitioned anew.
use Rattle.std.specs.Prelude.{◌≡◌, ℕ, ◌+◌, ◌-◌, ◌*◌, ◌/◌, ◌%◌, ◌^◌, ◌<◌, ◌==◌, ◌&&◌, Bool, not, slice_index_or}
use Rattle.std.specs.Int.{bit_at}
use Rattle.page_geometry.specs.declared.page_word.TheConstants.{CLAIM_BIT, LAYOUT_BIT}
use Rattle.page_geometry.specs.declared.geometry.TheConstants.{CHUNK_COUNTS}
use Rattle.layout_tuner.specs.declared.table.TheConstants.{GENERATION_BIT, LINE_WORDS}

-- the number of a place of a page, over all pages: each page has 14 places
abbrev pub spot : ℕ → ℕ → ℕ
spot page place = 14 * page + place

-- where the word of a page lies in its table
abbrev pub line : ℕ → ℕ
line page = LINE_WORDS * page

-- the number of chunks in a layout, which count from 1
abbrev pub chunks_of : ℕ → ℕ
chunks_of layout = slice_index_or CHUNK_COUNTS (layout - 1) 0

-- the layout in a page word
abbrev pub layout_in : ℕ → ℕ
layout_in word = word / 2 ^ LAYOUT_BIT % 8

-- how often the page was partitioned anew
abbrev pub generation_in : ℕ → ℕ
generation_in word = word / 2 ^ GENERATION_BIT

-- the claim bit of the chunk at this place is clear
abbrev pub is_clear : ℕ → ℕ → Bool
is_clear word place = not (bit_at word (CLAIM_BIT + place) == 1)

-- both state bits of the chunk at this place are set: it is complete
abbrev pub is_full : ℕ → ℕ → Bool
is_full word place = (bit_at word (2 * place) == 1) && (bit_at word (2 * place + 1) == 1)

-- a page word in which all places are claimed and no chunk is begun, with this layout and generation
pub record IsTiled (word layout generation : ℕ) : Type 0 where
  pub states : (bit : ℕ) → bit < LAYOUT_BIT → bit_at word bit ≡ 0
  pub layout_is : layout_in word ≡ layout
  pub spare : bit_at word 31 ≡ 0
  pub claims : (place : ℕ) → place < 14 → bit_at word (CLAIM_BIT + place) ≡ 1
  pub generation_is : generation_in word ≡ generation
