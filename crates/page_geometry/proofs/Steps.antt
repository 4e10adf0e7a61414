-- What a step's mask makes of a page word.
use Rattle.std.proofs.Common.{◌≡◌, ◌≢◌, ℕ, ◌+◌, ◌*◌, ◌^◌, ◌<◌, ◌≤◌, ◌⊎◌, bit_and, bit_or, ◌∙◌, inl, inr, arith}
use Rattle.std.specs.Int.{bit_at}
use Rattle.std.proofs.lemmas.Nat.Bits.{bit_at_and, bit_at_or, bit_at-zero, bit_at-lt}
use Rattle.page_geometry.specs.declared.chunk_state.ChunkState.{ChunkState}
use Rattle.page_geometry.specs.declared.chunk_state.ChunkState.TheVariants.{Free, BeingWritten, BeingRead, Complete}
use Rattle.page_geometry.specs.Masks.{IsBit, IsAllBut, IsClaimMask, IsReleaseMask}
use Rattle.page_geometry.proofs.Bits.{bit_at-and_kept, bit_at-and_cleared}
use Rattle.page_geometry.specs.PageBits.{HasState, SetsState, Claims, Releases, KeepsOthers}

-- an or with one bit sets it
pub bit_at-or_bit : (word mask bit : ℕ) → IsBit mask bit → bit_at (bit_or word mask) bit ≡ 1
bit_at-or_bit word mask bit is_bit = bit_at_or word mask bit ∙ omega (arith, is_bit.here, bit_at-lt word bit)

-- and no other
pub bit_at-or_other : (word mask bit other : ℕ) → IsBit mask bit → other ≢ bit → bit_at (bit_or word mask) other ≡ bit_at word other
bit_at-or_other word mask bit other is_bit differs = bit_at_or word mask other ∙ omega (arith, is_bit.others other differs)

-- where the state bits of other chunks and their claim bits are as they were, the other chunks are
keeps_others : (old new chunk : ℕ) → chunk < 14
    → ((bit : ℕ) → bit < 28 → bit ≢ 2 * chunk → bit ≢ 2 * chunk + 1 → bit_at new bit ≡ bit_at old bit)
    → ((bit : ℕ) → 32 ≤ bit → bit < 64 → bit ≢ 32 + chunk → bit_at new bit ≡ bit_at old bit)
    → KeepsOthers old new chunk
keeps_others old new chunk inside states claims =
    record {
      states = λ other state below differs was.
          record {
            low = states (2 * other) (omega arith) (omega arith) (omega arith) ∙ was.low;
            high = states (2 * other + 1) (omega arith) (omega arith) (omega arith) ∙ was.high;
          };
      claims = λ other below differs. claims (32 + other) (omega arith) (omega arith) (omega arith);
    }

-- an or with the low bit begins a free chunk
pub begins : (word mask chunk : ℕ) → IsBit mask (2 * chunk) → HasState word chunk Free → SetsState word (bit_or word mask) chunk BeingWritten
begins word mask chunk is_bit was =
    record {
      here = record { low = bit_at-or_bit word mask (2 * chunk) is_bit; high = bit_at-or_other word mask (2 * chunk) (2 * chunk + 1) is_bit (omega arith) ∙ was.high };
      others = λ bit low high. bit_at-or_other word mask (2 * chunk) bit is_bit low;
    }

-- an or with the high bit completes a chunk that is being written
pub completes : (word mask chunk : ℕ) → IsBit mask (2 * chunk + 1) → HasState word chunk BeingWritten → SetsState word (bit_or word mask) chunk Complete
completes word mask chunk is_bit was =
    record {
      here = record { low = bit_at-or_other word mask (2 * chunk + 1) (2 * chunk) is_bit (omega arith) ∙ was.low; high = bit_at-or_bit word mask (2 * chunk + 1) is_bit };
      others = λ bit low high. bit_at-or_other word mask (2 * chunk + 1) bit is_bit high;
    }

-- an and without the low bit takes a complete chunk
pub takes : (word mask chunk : ℕ) → word < 2 ^ 64 → IsAllBut mask (2 * chunk) → HasState word chunk Complete → SetsState word (bit_and word mask) chunk BeingRead
takes word mask chunk fits is_mask was =
    record {
      here = record {
        low = bit_at-and_cleared word mask (2 * chunk) is_mask.here;
        high = bit_at-and_kept word mask (2 * chunk + 1) fits (λ inside. is_mask.others (2 * chunk + 1) inside (omega arith)) ∙ was.high;
      };
      others = λ bit low high. bit_at-and_kept word mask bit fits (λ inside. is_mask.others bit inside low);
    }

-- an and without the high bit and the claim bit frees a chunk that is being read
pub releases : (word mask chunk : ℕ) → word < 2 ^ 64 → IsReleaseMask mask chunk → HasState word chunk BeingRead → Releases word (bit_and word mask) chunk
releases word mask chunk fits is_mask was =
    record {
      free = record {
        low = bit_at-and_kept word mask (2 * chunk) fits (λ below. is_mask.others (2 * chunk) below (omega arith) (omega arith)) ∙ was.low;
        high = bit_at-and_cleared word mask (2 * chunk + 1) is_mask.state;
      };
      unclaimed = bit_at-and_cleared word mask (32 + chunk) is_mask.claim;
      others = λ bit low high claim. bit_at-and_kept word mask bit fits (λ below. is_mask.others bit below high claim);
    }

-- an or with the claim bit and the layout claims
pub claims : (word mask chunk layout : ℕ) → IsClaimMask mask chunk layout → Claims word (bit_or word mask) chunk layout
claims word mask chunk layout is_mask =
    record {
      claimed = bit_at_or word mask (32 + chunk) ∙ omega (arith, is_mask.claim, bit_at-lt word (32 + chunk));
      laid_out = λ was bit fits.
          bit_at_or word mask (28 + bit)
          ∙ elim was [
            | inl none_before ↦ omega (arith, none_before bit fits, bit_at-zero bit, is_mask.layout_bits bit fits)
            | inr same_before ↦ omega (arith, same_before bit fits, is_mask.layout_bits bit fits)
          ];
      states = λ bit below. bit_at_or word mask bit ∙ omega (arith, is_mask.below bit below);
      others = λ bit above other. bit_at_or word mask bit ∙ omega (arith, is_mask.above bit above other);
    }

-- ---- what becomes of the other chunks

pub keeps_others-set : (old new chunk : ℕ) (state : ChunkState) → chunk < 14 → SetsState old new chunk state → KeepsOthers old new chunk
keeps_others-set old new chunk state inside sets =
    keeps_others
    old
    new
    chunk
    inside
    (λ bit _ low high. sets.others bit low high)
    (λ bit above _ _. sets.others bit (omega arith) (omega arith))

pub keeps_others-claim : (word mask chunk layout : ℕ) → chunk < 14 → IsClaimMask mask chunk layout → KeepsOthers word (bit_or word mask) chunk
keeps_others-claim word mask chunk layout inside is_mask =
    let step = claims word mask chunk layout is_mask in
    keeps_others word (bit_or word mask) chunk inside (λ bit below _ _. step.states bit below) (λ bit above _ other. step.others bit (omega arith) other)

pub keeps_others-or : (word mask chunk bit : ℕ) → chunk < 14 → (bit ≡ 2 * chunk) ⊎ (bit ≡ 2 * chunk + 1) → IsBit mask bit → KeepsOthers word (bit_or word mask) chunk
keeps_others-or word mask chunk bit inside is is_bit =
    keeps_others
    word
    (bit_or word mask)
    chunk
    inside
    (λ other _ low high. bit_at-or_other word mask bit other is_bit (omega arith))
    (λ other above _ _. bit_at-or_other word mask bit other is_bit (omega arith))

-- an and with a mask that has the bits of the other chunks
pub keeps_others-and : (word mask chunk : ℕ) → chunk < 14
    → ((bit : ℕ) → bit < 64 → bit ≢ 2 * chunk → bit ≢ 2 * chunk + 1 → bit ≢ 32 + chunk → bit_at mask bit ≡ 1)
    → KeepsOthers word (bit_and word mask) chunk
keeps_others-and word mask chunk inside has =
    keeps_others
    word
    (bit_and word mask)
    chunk
    inside
    (λ bit below low high. bit_at_and word mask bit ∙ omega (arith, has bit (omega arith) low high (omega arith), bit_at-lt word bit))
    (λ bit above below other. bit_at_and word mask bit ∙ omega (arith, has bit below (omega arith) (omega arith) other, bit_at-lt word bit))
