-- Which bits of a page word mean what. After the shared memory ABI its low half has two bits of state for each chunk and three bits of
-- layout; the claim bits in the high half are this project's own.
use Rattle.std.specs.Prelude.{◌≡◌, ◌≢◌, ℕ, ◌+◌, ◌*◌, ◌<◌, ◌≤◌, ◌⊎◌}
use Rattle.std.specs.Int.{bit_at}
use Rattle.page_geometry.specs.declared.chunk_state.ChunkState.{ChunkState}
use Rattle.page_geometry.specs.declared.chunk_state.ChunkState.TheVariants.{Free, BeingWritten, BeingRead, Complete}
use Rattle.trace_base.specs.declared.limits.TheConstants.{MAX_CHUNKS_PER_PAGE}
use Rattle.page_geometry.specs.declared.page_word.TheConstants.{CLAIM_BIT, LAYOUT_BIT}

-- the number of a state: two bits
abbrev pub state_number : ChunkState → ℕ
state_number Free = 0
state_number BeingWritten = 1
state_number BeingRead = 2
state_number Complete = 3

-- the chunk's two bits are the state's number
pub record HasState (word chunk : ℕ) (state : ChunkState) : Type 0 where
  pub low : bit_at word (2 * chunk) ≡ bit_at (state_number state) 0
  pub high : bit_at word (2 * chunk + 1) ≡ bit_at (state_number state) 1

-- the three layout bits are the layout number's
abbrev pub HasLayout : ℕ → ℕ → Type 0
HasLayout word layout = (bit : ℕ) → bit < 3 → bit_at word (LAYOUT_BIT + bit) ≡ bit_at layout bit

-- the chunk's claim bit is set
abbrev pub IsClaimed : ℕ → ℕ → Type 0
IsClaimed word chunk = bit_at word (CLAIM_BIT + chunk) ≡ 1

-- the chunk has the state in the new word, and all other bits are those of the old one
pub record SetsState (old new chunk : ℕ) (state : ChunkState) : Type 0 where
  pub here : HasState new chunk state
  pub others : (bit : ℕ) → bit ≢ 2 * chunk → bit ≢ 2 * chunk + 1 → bit_at new bit ≡ bit_at old bit

-- the chunk is claimed in the new word, the layout is set where none or this one was, and all other bits are those of the old word
pub record Claims (old new chunk layout : ℕ) : Type 0 where
  pub claimed : IsClaimed new chunk
  pub laid_out : HasLayout old 0 ⊎ HasLayout old layout → HasLayout new layout
  pub states : (bit : ℕ) → bit < LAYOUT_BIT → bit_at new bit ≡ bit_at old bit
  pub others : (bit : ℕ) → LAYOUT_BIT + 3 ≤ bit → bit ≢ CLAIM_BIT + chunk → bit_at new bit ≡ bit_at old bit

-- the chunk is free and unclaimed in the new word, and all other bits are those of the old one
pub record Releases (old new chunk : ℕ) : Type 0 where
  pub free : HasState new chunk Free
  pub unclaimed : bit_at new (CLAIM_BIT + chunk) ≡ 0
  pub others : (bit : ℕ) → bit ≢ 2 * chunk → bit ≢ 2 * chunk + 1 → bit ≢ CLAIM_BIT + chunk → bit_at new bit ≡ bit_at old bit

-- each other chunk of the page keeps its state and its claim bit
pub record KeepsOthers (old new chunk : ℕ) : Type 0 where
  pub states : (other : ℕ) (state : ChunkState) → other < MAX_CHUNKS_PER_PAGE → other ≢ chunk → HasState old other state
      → HasState new other state
  pub claims : (other : ℕ) → other < MAX_CHUNKS_PER_PAGE → other ≢ chunk → bit_at new (CLAIM_BIT + other) ≡ bit_at old (CLAIM_BIT + other)
