-- The sizes of a page's parts, in bytes. After the shared memory ABI a page is a header and then its chunks, and a chunk is a header and
-- then its payload; where chunk i begins, and what a record takes in a buffer, is this project's profile.
use Rattle.std.specs.Prelude.{◌≡◌, ℕ, ◌+◌, ◌-◌, ◌*◌, ◌/◌, ◌%◌, ◌<◌, ◌≤◌, ◌==◌, Contains}
use Rattle.std.specs.List.{position_or_len}
use Rattle.trace_base.specs.declared.limits.TheConstants.{PAGE_SIZE_UNIT, MAX_PAGE_SIZE}
use Rattle.page_geometry.specs.declared.geometry.TheConstants.{CHUNK_COUNTS, PAGE_HEADER_SIZE, CHUNK_HEADER_SIZE, RECORD_HEADER_SIZE, RECORD_UNIT}

-- a page can be this long: a multiple of 4,096 from 4,096 to 65,536
pub record IsPageSize (page_size : ℕ) : Type 0 where
  pub whole : page_size % PAGE_SIZE_UNIT ≡ 0
  pub least : PAGE_SIZE_UNIT ≤ page_size
  pub most : page_size ≤ MAX_PAGE_SIZE

-- a page can have this many chunks: some layout has 1, 2, 4, 7 or 14
abbrev pub IsChunkCount : ℕ → Type 0
IsChunkCount chunks = Contains CHUNK_COUNTS chunks

-- the number of the layout that has so many chunks, counted from 1
unfoldable pub layout_number : ℕ → ℕ
layout_number chunks = position_or_len (λ count. count == chunks) CHUNK_COUNTS + 1

-- an equal share of what lies behind the page's header, down to a multiple of 4
unfoldable pub chunk_size : ℕ → ℕ → ℕ
chunk_size page_size chunks = (page_size - PAGE_HEADER_SIZE) / chunks / 4 * 4

-- where a chunk's header begins in the page
unfoldable pub chunk_place : ℕ → ℕ → ℕ → ℕ
chunk_place page_size chunks chunk = PAGE_HEADER_SIZE + chunk * chunk_size page_size chunks

-- what a chunk has for its fragments
unfoldable pub payload_size : ℕ → ℕ → ℕ
payload_size page_size chunks = chunk_size page_size chunks - CHUNK_HEADER_SIZE

-- what a record with so many bytes of payload takes in a buffer: a header and the payload, up to a multiple of 16
abbrev pub record_size : ℕ → ℕ
record_size payload = (RECORD_HEADER_SIZE + payload + (RECORD_UNIT - 1)) / RECORD_UNIT * RECORD_UNIT

-- the chunks lie one behind another, behind the page's header and inside the page, so no two share a byte
pub record AreApart (page_size chunks : ℕ) : Type 0 where
  pub first : chunk_place page_size chunks 0 ≡ PAGE_HEADER_SIZE
  pub next : (chunk : ℕ) → chunk_place page_size chunks (chunk + 1) ≡ chunk_place page_size chunks chunk + chunk_size page_size chunks
  pub apart : (chunk later : ℕ) → chunk < later → chunk_place page_size chunks chunk + chunk_size page_size chunks ≤ chunk_place page_size chunks later
  pub inside : (chunk : ℕ) → chunk < chunks → chunk_place page_size chunks chunk + chunk_size page_size chunks ≤ page_size
