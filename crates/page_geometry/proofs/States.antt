-- The fields of a page word, as shifts and masks read and write them.
use Rattle.std.proofs.Common.{◌≡◌, ◌≢◌, ℕ, zero, suc, ◌+◌, ◌-◌, ◌*◌, ◌/◌, ◌%◌, ◌^◌, ◌<◌, bit_and, bit_or, refl, sym, ◌∙◌, ap, add-zero, arith}
use Rattle.std.specs.Int.{bit_at, w64}
use Rattle.std.proofs.lemmas.Nat.{shr-shr, shl_whole, and_mask}
use Rattle.std.proofs.lemmas.Nat.Bits.{bit_at_and, bit_at_or, bit_at_not, bit_at_ones, bit_at-lt, same_from_bits_below}
use Rattle.page_geometry.specs.declared.chunk_state.ChunkState.{ChunkState}
use Rattle.page_geometry.specs.declared.chunk_state.ChunkState.TheVariants.{Free, BeingWritten, BeingRead, Complete}
use Rattle.page_geometry.specs.PageBits.{state_number, HasLayout, HasState, SetsState}
use Rattle.page_geometry.proofs.Bits.{bit_at-shr, bit_at-shl, bit_at-shl_outside, bit_at-and_kept, bit_at-and_cleared}

-- `word >> 28 & 7`
pub layout_at : (word bit : ℕ) → bit < 3 → bit_at word (28 + bit) ≡ bit_at (bit_and (word / 2 ^ 28) 7) bit
layout_at word bit fits =
    sym (bit_at_and (word / 2 ^ 28) 7 bit ∙ omega (arith, bit_at_ones 3 bit fits, bit_at-lt (word / 2 ^ 28) bit, bit_at-shr word 28 bit))

-- `word >> (2 * chunk) & 3`
pub has_state : (word chunk : ℕ) (state : ChunkState) → bit_and (word / 2 ^ (2 * chunk)) 3 ≡ state_number state → HasState word chunk state
has_state word chunk state is =
    let field = word / 2 ^ (2 * chunk) in
    let low_two : field % 4 ≡ state_number state = sym (and_mask field 2) ∙ is in
    record {
      low = omega arith;
      high = ap (λ x. x % 2) (sym (shr-shr word (2 * chunk) 1)) ∙ omega arith;
    }

-- a state's number has two bits
pub state_number_below : (state : ChunkState) → state_number state < 4
state_number_below Free = omega arith
state_number_below BeingWritten = omega arith
state_number_below BeingRead = omega arith
state_number_below Complete = omega arith

-- the state of a number
state_of : ℕ → ChunkState
state_of zero = Free
state_of (suc zero) = BeingWritten
state_of (suc (suc zero)) = BeingRead
state_of (suc (suc (suc _))) = Complete

state_of-state_number : (state : ChunkState) → state_of (state_number state) ≡ state
unfolding state_of
state_of-state_number Free = refl
state_of-state_number BeingWritten = refl
state_of-state_number BeingRead = refl
state_of-state_number Complete = refl

-- two layouts with the same bits are one
pub same_layout : (word layout other : ℕ) → layout < 8 → other < 8 → HasLayout word layout → HasLayout word other → layout ≡ other
same_layout word layout other fits other_fits is other_is = same_from_bits_below 3 layout other fits other_fits (λ bit below. sym (is bit below) ∙ other_is bit below)

-- two states with the same bits are one
pub same_state : (word chunk : ℕ) (state other : ChunkState) → HasState word chunk state → HasState word chunk other → state ≡ other
same_state word chunk state other is other_is =
    let numbers : state_number state ≡ state_number other = omega (arith, is.low, is.high, other_is.low, other_is.high, state_number_below state, state_number_below other) in
    sym (state_of-state_number state) ∙ (ap state_of numbers ∙ state_of-state_number other)

-- a word whose two bits of a chunk were cleared, with a state's number put there
put_state : (word cleared number chunk : ℕ) (state : ChunkState) → word < 2 ^ 64 → number ≡ state_number state
    → bit_at cleared (2 * chunk) ≡ 0 → bit_at cleared (2 * chunk + 1) ≡ 0
    → ((bit : ℕ) → bit < 64 → bit ≢ 2 * chunk → bit ≢ 2 * chunk + 1 → bit_at cleared bit ≡ 1)
    → SetsState word (bit_or (bit_and word cleared) (number * 2 ^ (2 * chunk))) chunk state
put_state word cleared number chunk state fits is low_cleared high_cleared kept =
    let others = bit_and word cleared in
    let field = number * 2 ^ (2 * chunk) in
    let small : number < 4 = omega (arith, is, state_number_below state) in
    let at_low : bit_at field (2 * chunk) ≡ bit_at number 0 = ap (λ bit. bit_at field bit) (sym (add-zero (2 * chunk))) ∙ bit_at-shl number (2 * chunk) 0 in
    record {
      here = record {
        low =
            bit_at_or others field (2 * chunk)
            ∙ (omega (arith, bit_at-and_cleared word cleared (2 * chunk) low_cleared, at_low) ∙ ap (λ n. bit_at n 0) is);
        high =
            bit_at_or others field (2 * chunk + 1)
            ∙ (omega (arith, bit_at-and_cleared word cleared (2 * chunk + 1) high_cleared, bit_at-shl number (2 * chunk) 1) ∙ ap (λ n. bit_at n 1) is);
      };
      others = λ bit low high.
          bit_at_or others field bit
          ∙ omega (arith, bit_at-and_kept word cleared bit fits (λ inside. kept bit inside low high), bit_at-shl_outside number (2 * chunk) bit small low high);
    }

-- `word & !(3 << (2 * chunk)) | number << (2 * chunk)`
pub sets_state : (word chunk number : ℕ) (state : ChunkState) → chunk < 14 → word < 2 ^ 64 → number ≡ state_number state
    → SetsState word (bit_or (bit_and word (2 ^ 64 - 1 - 3 * 2 ^ (2 * chunk) % 2 ^ 64)) (number * 2 ^ (2 * chunk) % 2 ^ 64)) chunk state
sets_state word chunk number state inside fits is =
    let low = 2 * chunk in
    let both = 3 * 2 ^ low in
    let small : number < 4 = omega (arith, is, state_number_below state) in
    let both_whole : both % 2 ^ 64 ≡ both = shl_whole 3 2 low 64 (omega arith) (omega arith) in
    let both_fits : both < 2 ^ 64 = omega (arith, both_whole) in
    let low_bit : bit_at both low ≡ 1 = ap (λ bit. bit_at both bit) (sym (add-zero low)) ∙ bit_at-shl 3 low 0 in
    rw (both_whole, shl_whole number 2 low 64 small (omega arith))
    (put_state
    word
    (2 ^ 64 - 1 - both)
    number
    chunk
    state
    fits
    is
    (bit_at_not w64 both low both_fits (omega arith) ∙ omega (arith, low_bit))
    (bit_at_not w64 both (low + 1) both_fits (omega arith) ∙ omega (arith, bit_at-shl 3 low 1))
    (λ bit below other_low other_high. bit_at_not w64 both bit both_fits below ∙ omega (arith, bit_at-shl_outside 3 low bit (omega arith) other_low other_high)))
