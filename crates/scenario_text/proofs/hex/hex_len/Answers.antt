use Rattle.std.proofs.Common.{◌∙◌, ℕ, Option, List, ap, sym, length, option_map, arith}
use Rattle.std.specs.Str.{bytes_eq}
use Rattle.scenario_text.specs.Hex.{pairs_in, in_front}
use Rattle.scenario_text.proofs.HexLemmas.{counted_all, counted_more, counted_none, counted_end, counted_bad}
use Rattle.scenario_text.proofs.hex.hex_len.Goals as goal

pub digits-init : goal.digits-init
digits-init c = (
  ap (option_map (λ (bs : List ℕ). length bs)) c.in_ok-digits.ensures.some ∙ counted_all (pairs_in c.in_ok-digits.digits.now),
  omega (arith, c.in_ok-digits.ensures.shorter),
)

pub returns-in_default-byte : goal.returns-in_default-byte
returns-in_default-byte c =
    counted_none c.digits.len (pairs_in c.digits.digits.now) (pairs_in c.in-Some.behind.now)
    (c.in-Some.ensures.some ∙ ap (λ (byte : Option ℕ). in_front byte (pairs_in c.in-Some.behind.now)) c.in_default-byte.is)
    ∙ sym c.digits.invariant.0

pub overflow_add-len : goal.overflow_add-len
overflow_add-len c = omega (arith, c.digits.invariant.1, c.in-Some.ensures.shorter)

pub digits-smaller : goal.digits-smaller
digits-smaller c = omega (arith, c.in-Some.ensures.shorter)

pub digits-preserved : goal.digits-preserved
digits-preserved c = (
  c.digits.invariant.0 ∙ counted_more c.digits.len c.in-Some-byte._byte (pairs_in c.digits.digits.now) (pairs_in c.in-Some.behind.now)
      (c.in-Some.ensures.some ∙ ap (λ (byte : Option ℕ). in_front byte (pairs_in c.in-Some.behind.now)) c.in-Some-byte.is),
  omega (arith, c.digits.invariant.1, c.in-Some.ensures.shorter),
)

pub returns-then-eq : goal.returns-then-eq
returns-then-eq c =
    counted_end c.digits.len c.digits.digits.now (pairs_in c.digits.digits.now)
    (ap (bytes_eq c.digits.digits.now) (sym c.as_slice.ensures) ∙ sym c.eq.ensures ∙ c.if-eq.true) c.in_default.ensures.none
    ∙ sym c.digits.invariant.0

pub returns-else-eq : goal.returns-else-eq
returns-else-eq c =
    counted_bad c.digits.len c.digits.digits.now (pairs_in c.digits.digits.now)
    (ap (bytes_eq c.digits.digits.now) (sym c.as_slice.ensures) ∙ sym c.eq.ensures ∙ c.if-eq.false) c.in_default.ensures.none
    ∙ sym c.digits.invariant.0
