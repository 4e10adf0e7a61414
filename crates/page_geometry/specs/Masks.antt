-- Which bits a mask has.
use Rattle.std.specs.Prelude.{◌≡◌, ◌≢◌, ℕ, ◌+◌, ◌*◌, ◌<◌, ◌≤◌}
use Rattle.std.specs.Int.{bit_at}
use Rattle.page_geometry.specs.PageBits.{HasLayout}
use Rattle.page_geometry.specs.declared.page_word.TheConstants.{CLAIM_BIT, LAYOUT_BIT}

-- this bit alone is set: an or with the mask sets it
pub record IsBit (mask bit : ℕ) : Type 0 where
  pub here : bit_at mask bit ≡ 1
  pub others : (other : ℕ) → other ≢ bit → bit_at mask other ≡ 0

-- of 64 bits this one alone is clear: an and with the mask clears it
pub record IsAllBut (mask bit : ℕ) : Type 0 where
  pub here : bit_at mask bit ≡ 0
  pub others : (other : ℕ) → other < 64 → other ≢ bit → bit_at mask other ≡ 1

-- the layout number stands in its place, and all other bits are clear
pub record IsLayoutMask (mask layout : ℕ) : Type 0 where
  pub layout_bits : HasLayout mask layout
  pub below : (bit : ℕ) → bit < LAYOUT_BIT → bit_at mask bit ≡ 0
  pub above : (bit : ℕ) → LAYOUT_BIT + 3 ≤ bit → bit_at mask bit ≡ 0

-- the chunk's claim bit is set, the layout number stands in its place, and all other bits are clear
pub record IsClaimMask (mask chunk layout : ℕ) : Type 0 where
  pub claim : bit_at mask (CLAIM_BIT + chunk) ≡ 1
  pub layout_bits : HasLayout mask layout
  pub below : (bit : ℕ) → bit < LAYOUT_BIT → bit_at mask bit ≡ 0
  pub above : (bit : ℕ) → LAYOUT_BIT + 3 ≤ bit → bit ≢ CLAIM_BIT + chunk → bit_at mask bit ≡ 0

-- of 64 bits the chunk's high state bit and its claim bit alone are clear
pub record IsReleaseMask (mask chunk : ℕ) : Type 0 where
  pub state : bit_at mask (2 * chunk + 1) ≡ 0
  pub claim : bit_at mask (CLAIM_BIT + chunk) ≡ 0
  pub others : (bit : ℕ) → bit < 64 → bit ≢ 2 * chunk + 1 → bit ≢ CLAIM_BIT + chunk → bit_at mask bit ≡ 1
