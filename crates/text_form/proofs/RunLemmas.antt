-- The longest front of bytes of a kind ends at the first byte of no such kind.
use Rattle.std.proofs.Common.{◌≡◌, ◌∙◌, ℕ, suc, ◌+◌, ◌≤◌, nat_lt, Bool, true, false, cond, List, [], ◌∷◌, length, take, drop, Option, Some, None, ◌⊎◌, inl, inr, refl, sym, ap, subst, arith}
use Rattle.std.specs.Prelude.{not, unwrap_or}
use Rattle.std.specs.List.{position, position_or_len}
use Rattle.std.proofs.lemmas.Bool.{cond_both, cases_Bool, ltb-false}
use Rattle.text_form.specs.Walking.{IsRun}

-- a run with one byte more in front
longer : (kind : ℕ → Bool) (byte : ℕ) (bytes front left : List ℕ) → kind byte ≡ true → IsRun kind bytes front left
    → IsRun kind (byte ∷ bytes) (byte ∷ front) left
longer kind byte bytes front left is run =
    record { whole = ap (λ (l : List ℕ). byte ∷ l) run.whole; all = (is, run.all); ends = run.ends }

-- where the run ends
record RunAt (kind : ℕ → Bool) (bytes : List ℕ) : Type 0 where
  pub len : ℕ
  pub within : len ≤ length bytes
  pub place : position_or_len (λ byte. not (kind byte)) bytes ≡ len
  pub run : IsRun kind bytes (take len bytes) (drop len bytes)

run_at : (kind : ℕ → Bool) (bytes : List ℕ) → RunAt kind bytes
run_at kind [] = record { len = 0; within = omega arith; place = refl; run = record { whole = refl; all = tt; ends = tt } }
run_at kind (byte ∷ bytes) = either (run_at kind bytes) (cases_Bool (kind byte))
  where
    later : ℕ
    later = position_or_len (λ other. not (kind other)) bytes

    either : RunAt kind bytes → (kind byte ≡ true) ⊎ (kind byte ≡ false) → RunAt kind (byte ∷ bytes)
    either next (inl is) =
        let first : cond (not (not (kind byte))) (1 + position_or_len (λ other. not (kind other)) bytes) 0 ≡ 1 + position_or_len (λ other. not (kind other)) bytes = rw is refl in
        let more : 1 + position_or_len (λ other. not (kind other)) bytes ≡ suc next.len = (let same = next.place in omega arith) in
        record {
          len = suc next.len;
          within = (let low = next.within in omega arith);
          place = first ∙ more;
          run = longer kind byte bytes (take next.len bytes) (drop next.len bytes) is next.run;
        }
    either next (inr isnt) =
        let first : cond (not (not (kind byte))) (1 + position_or_len (λ other. not (kind other)) bytes) 0 ≡ 0 = rw isnt refl in
        record { len = 0; within = omega arith; place = first; run = record { whole = refl; all = tt; ends = isnt } }

-- up to the first byte of no such kind, or to the end
pub run_before : (kind : ℕ → Bool) (bytes : List ℕ)
    → IsRun kind bytes (take (unwrap_or (position (λ byte. not (kind byte)) bytes) (length bytes)) bytes)
    (drop (unwrap_or (position (λ byte. not (kind byte)) bytes) (length bytes)) bytes)
run_before kind bytes =
    let at = run_at kind bytes in
    let P : ℕ → Type 0 = λ n. IsRun kind bytes (take n bytes) (drop n bytes) in
    let place : ℕ = position_or_len (λ byte. not (kind byte)) bytes in
    let same = at.place in
    subst P (sym (cond_both (nat_lt place (length bytes)) (Some place) None (λ (o : Option ℕ). unwrap_or o (length bytes) ≡ at.len)
    (λ _. same)
    (λ isnt. let high : length bytes ≤ place = ltb-false place (length bytes) isnt in let low = at.within in omega arith))) at.run

-- what is cut there
pub cut_run : (kind : ℕ → Bool) (bytes : List ℕ) (place : Option ℕ) (len : ℕ) (front left : List ℕ) → place ≡ position (λ byte. not (kind byte)) bytes
    → len ≡ unwrap_or place (length bytes) → front ≡ take len bytes → left ≡ drop len bytes → IsRun kind bytes front left
cut_run kind bytes place len front left found len_is front_is left_is =
    let at : len ≡ unwrap_or (position (λ byte. not (kind byte)) bytes) (length bytes) = len_is ∙ ap (λ (o : Option ℕ). unwrap_or o (length bytes)) found in
    let P : ℕ → Type 0 = λ n. IsRun kind bytes (take n bytes) (drop n bytes) in
    let Q : List ℕ → Type 0 = λ f. IsRun kind bytes f left in
    let R : List ℕ → Type 0 = λ l. IsRun kind bytes (take len bytes) l in
    subst Q (sym front_is) (subst R (sym left_is) (subst P (sym at) (run_before kind bytes)))
