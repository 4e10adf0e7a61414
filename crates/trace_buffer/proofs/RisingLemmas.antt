-- The least position that hasn't arrived, as more arrive.
use Rattle.std.proofs.Common.{◌≡◌, ℕ, zero, suc, ◌+◌, ◌≤◌, ◌==◌, ◌||◌, Bool, true, false, cond, nat_le, nat_lt, List, [], ◌∷◌, length, refl, sym, ap, ◌∙◌, subst, arith}
use Rattle.std.proofs.lemmas.Bool.Decides.{nat_tests}
use Rattle.trace_model.specs.Arrivals.{is_too_far, with_arrived}
use Rattle.trace_model.specs.Sequences.{Sequence, is_among, with_number, first_absent, has_arrived}
use Rattle.trace_model.proofs.SequenceLemmas.{among_with}

least_from : (tries n : ℕ) (ks : List ℕ) → n ≤ first_absent tries n ks
least_from zero n ks = omega arith
least_from (suc tries) n ks = of (is_among n ks) (least_from tries (suc n) ks)
  where
    of : (b : Bool) → suc n ≤ first_absent tries (suc n) ks → n ≤ cond b (first_absent tries (suc n) ks) n
    of true rest = omega arith
    of false rest = omega arith

least_rises : (few many n : ℕ) (ks ms : List ℕ) → few ≤ many → ((j : ℕ) → is_among j ks ≡ true → is_among j ms ≡ true) → first_absent few n ks ≤ first_absent many n ms
least_rises zero many n ks ms le all = least_from many n ms
least_rises (suc few) zero n ks ms le all = absurd (omega arith)
least_rises (suc few) (suc many) n ks ms le all = of (is_among n ks) refl (least_rises few many (suc n) ks ms (omega arith) all)
  where
    of : (b : Bool) → is_among n ks ≡ b → first_absent few (suc n) ks ≤ first_absent many (suc n) ms → cond b (first_absent few (suc n) ks) n ≤ first_absent (suc many) n ms
    of true is rest = subst (λ b. first_absent few (suc n) ks ≤ cond b (first_absent many (suc n) ms) n) (sym (all n is)) rest
    of false is rest = least_from (suc many) n ms

longer : (n : ℕ) (ks : List ℕ) → length ks ≤ length (with_number n ks)
longer n [] = omega arith
longer n (k ∷ ks) = of (nat_lt n k) (n == k) (longer n ks)
  where
    of : (b d : Bool) → length ks ≤ length (with_number n ks) → length (k ∷ ks) ≤ length (cond b (n ∷ k ∷ ks) (cond d (k ∷ ks) (k ∷ with_number n ks)))
    of true d rest = omega arith
    of false true rest = omega arith
    of false false rest = omega arith

stays : (n j : ℕ) (ks : List ℕ) → is_among j ks ≡ true → is_among j (with_number n ks) ≡ true
stays n j ks is = among_with n j ks ∙ ap (λ b. (n == j) || b) is ∙ of (n == j)
  where
    of : (b : Bool) → (b || true) ≡ true
    of true = refl
    of false = refl

near_still : (base more id : ℕ) → base ≤ more → nat_le (base + 1024) id ≡ false → nat_le (more + 1024) id ≡ false
near_still base more id le is = grind (arith, nat_tests)

pub still_near : (state : Sequence) (n count id : ℕ) → is_too_far state id ≡ false → is_too_far (with_arrived n count state) id ≡ false
still_near state n count id near =
    near_still (first_absent (length state.arrived) 0 state.arrived) (first_absent (length (with_number n state.arrived)) 0 (with_number n state.arrived)) id
    (least_rises (length state.arrived) (length (with_number n state.arrived)) 0 state.arrived (with_number n state.arrived) (longer n state.arrived) (λ j is. stays n j state.arrived is))
    near

pub still_absent : (state : Sequence) (n count id : ℕ) → (n == id) ≡ false → has_arrived state id ≡ false → has_arrived (with_arrived n count state) id ≡ false
still_absent state n count id other fresh = among_with n id state.arrived ∙ ap (λ b. b || is_among id state.arrived) other ∙ fresh
