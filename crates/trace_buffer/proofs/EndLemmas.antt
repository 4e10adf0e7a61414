-- The end of a sequence's positions, by the bits of its two circles.
use Rattle.std.proofs.Common.{◌≡◌, ◌≢◌, ℕ, zero, suc, ◌+◌, ◌-◌, ◌<◌, ◌≤◌, ◌==◌, ◌||◌, ⊎_elim, max, Bool, true, false, List, [], ◌∷◌, refl, sym, ap, ◌∙◌, arith, eq-eqb, eqb-true, true≢false}
use Rattle.std.proofs.lemmas.Bool.{cases_lt, cases_eq}
use Rattle.std.proofs.Math.Bool.{or-true}
use Rattle.trace_model.specs.Sequences.{is_among, above_all}
use Rattle.trace_buffer.specs.Circle.{bit, marked, arrived_of}
use Rattle.trace_buffer.proofs.CircleLemmas.{marked_in, arrived_below, arrived_ahead, arrived_beyond, final_beyond}

above_most : (ks : List ℕ) (e : ℕ) → ((i : ℕ) → is_among i ks ≡ true → i < e) → above_all ks ≤ e
above_most [] e below = omega arith
above_most (k ∷ ks) e below =
    let first : k < e = below k (ap (λ b. b || is_among k ks) (eq-eqb k k refl)) in
    let rest : above_all ks ≤ e = above_most ks e (λ i is. below i (ap (λ b. (k == i) || b) is ∙ or-true (k == i))) in
    omega arith

above_least : (ks : List ℕ) (i : ℕ) → is_among i ks ≡ true → i < above_all ks
above_least [] i is = absurd (true≢false (sym is))
above_least (k ∷ ks) i is = of (k == i) refl (above_least ks i) is
  where
    of : (b : Bool) → (k == i) ≡ b → (is_among i ks ≡ true → i < above_all ks) → (b || is_among i ks) ≡ true → i < max (suc k) (above_all ks)
    of true here later found = let e : k ≡ i = eqb-true k i here in omega (arith, e)
    of false here later found = let there : i < above_all ks = later found in omega (arith, there)

-- from this place on all bits are clear
pub record AreClear (ahead finals : List Bool) (base end : ℕ) : Type 0 where
  pub from : base ≤ end
  pub to : end ≤ base + 1024
  pub ahead_clear : (i : ℕ) → end ≤ i → i < base + 1024 → bit ahead i ≡ false
  pub finals_clear : (i : ℕ) → end ≤ i → i < base + 1024 → bit finals i ≡ false

pub none_yet : (ahead finals : List Bool) (base end : ℕ) → end ≡ base + 1024 → AreClear ahead finals base end
none_yet ahead finals base end is = record {
  from = omega (arith, is);
  to = omega (arith, is);
  ahead_clear = λ i low high. absurd (omega (arith, is, low, high));
  finals_clear = λ i low high. absurd (omega (arith, is, low, high));
}

one_clear : (bits : List Bool) (base end : ℕ) → base < end → ((i : ℕ) → end ≤ i → i < base + 1024 → bit bits i ≡ false) → bit bits (end - 1) ≡ false
    → (i : ℕ) → end - 1 ≤ i → i < base + 1024 → bit bits i ≡ false
one_clear bits base end some clear none i low high =
    ⊎_elim
    (λ (same : i ≡ end - 1). ap (bit bits) same ∙ none)
    (λ (other : i ≢ end - 1). clear i (omega arith) high)
    (cases_eq i (end - 1))

pub one_less : (ahead finals : List Bool) (base end : ℕ) → AreClear ahead finals base end → base < end → bit ahead (end - 1) ≡ false → bit finals (end - 1) ≡ false → AreClear ahead finals base (end - 1)
one_less ahead finals base end clear some no_ahead no_final = record {
  from = omega (arith, some);
  to = omega (arith, clear.to);
  ahead_clear = one_clear ahead base end some clear.ahead_clear no_ahead;
  finals_clear = one_clear finals base end some clear.finals_clear no_final;
}

-- so no position from there on is among those
arrived_before : (ahead finals : List Bool) (base end : ℕ) → AreClear ahead finals base end → (i : ℕ) → is_among i (arrived_of base ahead) ≡ true → i < end
arrived_before ahead finals base end clear i is =
    ⊎_elim
    (λ (low : i < end). low)
    (λ (high : end ≤ i).
    ⊎_elim
    (λ (near : i < base + 1024). absurd (true≢false (sym is ∙ arrived_ahead ahead base i (omega (arith, clear.from)) near ∙ clear.ahead_clear i high near)))
    (λ (far : base + 1024 ≤ i). absurd (true≢false (sym is ∙ arrived_beyond ahead base i far)))
    (cases_lt i (base + 1024)))
    (cases_lt i end)

final_before : (ahead finals : List Bool) (base end : ℕ) → AreClear ahead finals base end → (i : ℕ) → is_among i (marked finals 1024 base) ≡ true → i < end
final_before ahead finals base end clear i is =
    ⊎_elim
    (λ (low : i < end). low)
    (λ (high : end ≤ i).
    ⊎_elim
    (λ (near : i < base + 1024). absurd (true≢false (sym is ∙ marked_in finals 1024 base i (omega (arith, clear.from)) near ∙ clear.finals_clear i high near)))
    (λ (far : base + 1024 ≤ i). absurd (true≢false (sym is ∙ final_beyond finals base i far)))
    (cases_lt i (base + 1024)))
    (cases_lt i end)

most : (ahead finals : List Bool) (base end : ℕ) → AreClear ahead finals base end → max (above_all (arrived_of base ahead)) (above_all (marked finals 1024 base)) ≤ end
most ahead finals base end clear =
    let a : above_all (arrived_of base ahead) ≤ end = above_most (arrived_of base ahead) end (arrived_before ahead finals base end clear) in
    let f : above_all (marked finals 1024 base) ≤ end = above_most (marked finals 1024 base) end (final_before ahead finals base end clear) in
    omega (arith, a, f)

pub ends_ahead : (ahead finals : List Bool) (base end : ℕ) → AreClear ahead finals base end → base < end → bit ahead (end - 1) ≡ true
    → end ≡ max (above_all (arrived_of base ahead)) (above_all (marked finals 1024 base))
ends_ahead ahead finals base end clear some on =
    let least : end - 1 < above_all (arrived_of base ahead) = above_least (arrived_of base ahead) (end - 1) (arrived_ahead ahead base (end - 1) (omega arith) (omega (arith, clear.to)) ∙ on) in
    let up = most ahead finals base end clear in
    omega (arith, least, up)

pub ends_final : (ahead finals : List Bool) (base end : ℕ) → AreClear ahead finals base end → base < end → bit finals (end - 1) ≡ true
    → end ≡ max (above_all (arrived_of base ahead)) (above_all (marked finals 1024 base))
ends_final ahead finals base end clear some on =
    let least : end - 1 < above_all (marked finals 1024 base) = above_least (marked finals 1024 base) (end - 1) (marked_in finals 1024 base (end - 1) (omega arith) (omega (arith, clear.to)) ∙ on) in
    let up = most ahead finals base end clear in
    omega (arith, least, up)

least_base : (ahead : List Bool) (base : ℕ) → base ≤ above_all (arrived_of base ahead)
least_base ahead zero = omega arith
least_base ahead (suc base) =
    let below : base < above_all (arrived_of (suc base) ahead) = above_least (arrived_of (suc base) ahead) base (arrived_below ahead (suc base) base (omega arith)) in
    omega (arith, below)

pub ends_base : (ahead finals : List Bool) (base end : ℕ) → AreClear ahead finals base end → end ≤ base
    → end ≡ max (above_all (arrived_of base ahead)) (above_all (marked finals 1024 base))
ends_base ahead finals base end clear none =
    let least : base ≤ above_all (arrived_of base ahead) = least_base ahead base in
    let up = most ahead finals base end clear in
    let from : base ≤ end = clear.from in
    omega (arith, least, up, none, from)
