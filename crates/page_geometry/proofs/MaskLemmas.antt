-- The bits of each mask, as shifts, `|`, `&` and `!` make it.
use Rattle.std.proofs.Common.{ℕ, ◌+◌, ◌-◌, ◌*◌, ◌%◌, ◌^◌, ◌<◌, bit_and, bit_or, ◌∙◌, arith}
use Rattle.std.specs.Int.{w64}
use Rattle.std.proofs.lemmas.Nat.{one_shl, shl_whole, shl_below}
use Rattle.std.proofs.lemmas.Nat.Bits.{bit_at_and, bit_at_or, bit_at-pow_same, bit_at-pow_other, bit_at_not, bit_at-lt, bit_at_above}
use Rattle.page_geometry.specs.Masks.{IsBit, IsAllBut, IsLayoutMask, IsClaimMask, IsReleaseMask}
use Rattle.page_geometry.proofs.Bits.{bit_at-shl, bit_at-shl_below}

-- `1 << place`
pub one_bit : (place : ℕ) → place < 64 → IsBit (1 * 2 ^ place % 2 ^ 64) place
one_bit place fits = rw (one_shl place 64 fits) record { here = bit_at-pow_same place; others = λ other. bit_at-pow_other place other }

-- `layout << 28`
pub layout_mask : (layout : ℕ) → layout < 8 → IsLayoutMask (layout * 2 ^ 28 % 2 ^ 64) layout
layout_mask layout fits =
    rw (shl_whole layout 3 28 64 fits (omega arith))
    record {
      layout_bits = λ bit _. bit_at-shl layout 28 bit;
      below = λ bit below. bit_at-shl_below layout 28 bit below;
      above = λ bit above. bit_at_above (layout * 2 ^ 28) 31 bit (shl_below layout 3 28 fits) above;
    }

-- the claim bit and the layout together
pub claim_mask : (claim layout_bits chunk layout : ℕ) → IsBit claim (32 + chunk) → IsLayoutMask layout_bits layout → IsClaimMask (bit_or claim layout_bits) chunk layout
claim_mask claim layout_bits chunk layout is_claim is_layout =
    record {
      claim = bit_at_or claim layout_bits (32 + chunk) ∙ omega (arith, is_claim.here, bit_at-lt layout_bits (32 + chunk));
      layout_bits = λ bit fits. bit_at_or claim layout_bits (28 + bit) ∙ omega (arith, is_claim.others (28 + bit) (omega arith), is_layout.layout_bits bit fits);
      below = λ bit below. bit_at_or claim layout_bits bit ∙ omega (arith, is_claim.others bit (omega arith), is_layout.below bit below);
      above = λ bit above other. bit_at_or claim layout_bits bit ∙ omega (arith, is_claim.others bit other, is_layout.above bit above);
    }

-- `!mask` of a mask with one bit
pub all_but : (mask place : ℕ) → place < 64 → mask < 2 ^ 64 → IsBit mask place → IsAllBut (2 ^ 64 - 1 - mask) place
all_but mask place inside fits is_bit =
    record {
      here = bit_at_not w64 mask place fits inside ∙ omega (arith, is_bit.here);
      others = λ other inside other_place. bit_at_not w64 mask other fits inside ∙ omega (arith, is_bit.others other other_place);
    }

-- the high state bit and the claim bit are cleared together
pub release_mask : (all_but_state all_but_claim chunk : ℕ) → IsAllBut all_but_state (2 * chunk + 1) → IsAllBut all_but_claim (32 + chunk) → IsReleaseMask (bit_and all_but_state all_but_claim) chunk
release_mask all_but_state all_but_claim chunk is_state is_claim =
    record {
      state = bit_at_and all_but_state all_but_claim (2 * chunk + 1) ∙ omega (arith, is_state.here);
      claim = bit_at_and all_but_state all_but_claim (32 + chunk) ∙ omega (arith, is_claim.here);
      others = λ bit below other_state other_claim.
          bit_at_and all_but_state all_but_claim bit
          ∙ omega (arith, is_state.others bit below other_state, is_claim.others bit below other_claim);
    }
