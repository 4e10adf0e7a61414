-- What holds by a test: one thing where it is true, and another where it is false; and by a result.
use Rattle.std.proofs.Common.{◌≡◌, ℕ, suc, ◌==◌, Bool, true, false, sym, subst, refl, arith}
use Rattle.std.specs.Prelude.{MatchBool, Result, Ok, Err, OnOk}
use Rattle.std.proofs.lemmas.Bool.{ne_eqb}

pub match_true : (b : Bool) (P Q : Type 0) → b ≡ true → P → MatchBool b P Q
match_true b P Q is h = subst (λ (x : Bool). MatchBool x P Q) (sym is) h

pub match_false : (b : Bool) (P Q : Type 0) → b ≡ false → Q → MatchBool b P Q
match_false b P Q is h = subst (λ (x : Bool). MatchBool x P Q) (sym is) h

-- each of both leads to another thing
pub match_map : (b : Bool) (P Q R T : Type 0) → MatchBool b P Q → (P → R) → (Q → T) → MatchBool b R T
match_map true P Q R T h same apart = same h
match_map false P Q R T h same apart = apart h

-- what both lead to
pub match_either : (b : Bool) (P Q R : Type 0) → MatchBool b P Q → (b ≡ true → P → R) → (b ≡ false → Q → R) → R
match_either true P Q R h same apart = same refl h
match_either false P Q R h same apart = apart refl h

-- what follows where all went well
pub on_ok : {A E : Type 0} (r : Result A E) (P Q : Type 0) → (P → Q) → OnOk r P → OnOk r Q
on_ok (Ok value) P Q follows holds = follows holds
on_ok (Err fault) P Q follows holds = tt

-- a number behind another isn't none
pub more_isnt_none : (n : ℕ) → (suc n == 0) ≡ false
more_isnt_none n = ne_eqb (suc n) 0 (λ same. omega (arith, same))
