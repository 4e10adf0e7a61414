-- The bits of a page word: its layout and generation, and what a step makes of them.
use Rattle.std.proofs.Common.{◌≡◌, ◌≢◌, ℕ, ◌+◌, ◌*◌, ◌/◌, ◌-◌, ◌^◌, ◌<◌, ◌≤◌, true, false, subst, sym, ap, ◌∙◌, arith, bit_or}
use Rattle.std.specs.Int.{bit_at}
use Rattle.std.proofs.lemmas.Bool.Decides.{nat_tests}
use Rattle.std.proofs.lemmas.Nat.{and_mask}
use Rattle.std.proofs.lemmas.Nat.Bits.{same_from_bits, bit_at_cat_high, bit_at_cat_low, bit_at_ones, bit_at-lt}
use native.Mathlib.Decide.{ℕ_discrete}
use mathlib.Core.Logic.{dite}
use Rattle.page_geometry.specs.Masks.{IsBit}
use Rattle.page_geometry.specs.PageBits.{HasLayout}
use Rattle.page_geometry.proofs.Bits.{bit_at-shr, bit_at-shl_below}
use Rattle.page_geometry.proofs.States.{layout_at}
use Rattle.page_geometry.proofs.Steps.{bit_at-or_bit, bit_at-or_other}
use Rattle.layout_tuner.specs.PageWords.{layout_in, generation_in, is_clear, is_full, IsTiled}
use Rattle.layout_tuner.specs.World.{Status, low_of, high_of, claim_of, put}
use Rattle.layout_tuner.specs.Rule.{ShowsPage}
use Rattle.layout_tuner.proofs.Puts.{put_at}

-- ---- layout and generation

pub has_layout : (word : ℕ) → HasLayout word (layout_in word)
has_layout word bit below = layout_at word bit below ∙ ap (λ n. bit_at n bit) (and_mask (word / 2 ^ 28) 3)

layout_bits : (word : ℕ) → layout_in word ≡ bit_at word 28 + 2 * bit_at word 29 + 4 * bit_at word 30
layout_bits word = omega arith

pub layout_in-same : (word new : ℕ) → ((bit : ℕ) → 28 ≤ bit → bit < 31 → bit_at new bit ≡ bit_at word bit) → layout_in new ≡ layout_in word
layout_in-same word new same =
    let one = same 28 (omega arith) (omega arith) in let two = same 29 (omega arith) (omega arith) in let three = same 30 (omega arith) (omega arith) in
    layout_bits new ∙ (rw (one, two, three) (sym (layout_bits word)))

pub generation_in-same : (word new : ℕ) → ((bit : ℕ) → 46 ≤ bit → bit_at new bit ≡ bit_at word bit) → generation_in new ≡ generation_in word
generation_in-same word new same = same_from_bits (new / 2 ^ 46) (word / 2 ^ 46)
    (λ bit. bit_at-shr new 46 bit ∙ (same (46 + bit) (omega arith) ∙ sym (bit_at-shr word 46 bit)))

-- ---- one place changes

pub shown_place : (word new layout generation place : ℕ) (places : ℕ → Status) (is : Status) → place < 14 → ShowsPage word layout generation places
    → bit_at new (2 * place) ≡ low_of is → bit_at new (2 * place + 1) ≡ high_of is → bit_at new (32 + place) ≡ claim_of is
    → ((bit : ℕ) → bit ≢ 2 * place → bit ≢ 2 * place + 1 → bit ≢ 32 + place → bit_at new bit ≡ bit_at word bit)
    → ShowsPage new layout generation (put places place is)
shown_place word new layout generation place places is inside shows low high claim others = record {
  low = λ other below. put_at (λ o (s : Status). bit_at new (2 * o) ≡ low_of s) places place is other low
      (λ differs. others (2 * other) (omega (arith, differs)) (omega (arith, differs)) (omega (arith, below)) ∙ shows.low other below);
  high = λ other below. put_at (λ o (s : Status). bit_at new (2 * o + 1) ≡ high_of s) places place is other high
      (λ differs. others (2 * other + 1) (omega (arith, differs)) (omega (arith, differs)) (omega (arith, below)) ∙ shows.high other below);
  claim = λ other below. put_at (λ o (s : Status). bit_at new (32 + o) ≡ claim_of s) places place is other claim
      (λ differs. others (32 + other) (omega (arith, inside)) (omega (arith, inside)) (omega (arith, differs)) ∙ shows.claim other below);
  layout_is = layout_in-same word new (λ bit least most. others bit (omega (arith, inside, least)) (omega (arith, inside, least)) (omega (arith, most))) ∙ shows.layout_is;
  spare = others 31 (omega (arith, inside)) (omega (arith, inside)) (omega arith) ∙ shows.spare;
  generation_is = generation_in-same word new (λ bit least. others bit (omega (arith, inside, least)) (omega (arith, inside, least)) (omega (arith, inside, least))) ∙ shows.generation_is;
}

-- an or with a bit that is set changes nothing
pub or_set : (word mask bit : ℕ) → IsBit mask bit → bit_at word bit ≡ 1 → bit_or word mask ≡ word
or_set word mask bit is set_ = same_from_bits (bit_or word mask) word (λ other.
    dite (ℕ_discrete other bit)
    (λ same. subst (λ b. bit_at (bit_or word mask) b ≡ bit_at word b) (sym same) (bit_at-or_bit word mask bit is ∙ sym set_))
    (λ differs. bit_at-or_other word mask bit other is differs))

-- ---- tests

pub clear_bit : (word place : ℕ) → is_clear word place ≡ true → bit_at word (32 + place) ≡ 0
clear_bit word place clear = let low = bit_at-lt word (32 + place) in grind (arith, nat_tests, low, clear)

pub set_bit : (word place : ℕ) → is_clear word place ≡ false → bit_at word (32 + place) ≡ 1
set_bit word place taken = grind (arith, nat_tests, taken)

pub full_bits : (word place : ℕ) → is_full word place ≡ true → (bit_at word (2 * place) ≡ 1) × (bit_at word (2 * place + 1) ≡ 1)
full_bits word place full = (grind (arith, nat_tests, full), grind (arith, nat_tests, full))

pub is_full-bits : (word place : ℕ) → bit_at word (2 * place) ≡ 1 → bit_at word (2 * place + 1) ≡ 1 → is_full word place ≡ true
is_full-bits word place low high = grind (arith, nat_tests, low, high)

-- ---- a page that is partitioned anew

-- `(generation << 46) + 0x3fff_0000_0000 + (layout << 28)`
pub tiled : (generation layout : ℕ) → generation ≤ 262143 → layout ≤ 5 → IsTiled (generation * 70368744177664 + 70364449210368 + layout * 268435456) layout generation
tiled generation layout few most =
    let word = generation * 70368744177664 + 70364449210368 + layout * 268435456 in
    let by_layout : word ≡ (generation * 262144 + 262128 + layout) * 2 ^ 28 = omega arith in
    let by_claims : word ≡ (generation * 2 ^ 14 + 16383) * 2 ^ 32 + layout * 268435456 = omega arith in
    record {
      states = λ bit below. ap (λ n. bit_at n bit) by_layout ∙ bit_at-shl_below (generation * 262144 + 262128 + layout) 28 bit below;
      layout_is = omega (arith, most);
      spare = omega (arith, most);
      claims = λ place below. ap (λ n. bit_at n (32 + place)) by_claims
          ∙ (bit_at_cat_high (generation * 2 ^ 14 + 16383) 32 (layout * 268435456) (32 + place) (omega (arith, most)) (omega arith)
          ∙ (ap (λ b. bit_at (generation * 2 ^ 14 + 16383) b) (let e : 32 + place - 32 ≡ place = omega arith in e)
          ∙ (bit_at_cat_low generation 14 16383 place below ∙ bit_at_ones 14 place below)));
      generation_is = omega (arith, most);
    }
