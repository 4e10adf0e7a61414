-- The packets of the emitters that have taken all lines, one after another.
use Rattle.std.proofs.Common.{◌≡◌, ◌∙◌, ℕ, zero, suc, ◌+◌, ◌≤◌, ◌⊎◌, List, [], ◌∷◌, ◌++◌, Some, length, refl, sym, ap, arith, inl, inr, length-append}
use Rattle.std.specs.Prelude.{slice_get}
use Rattle.trace_model.specs.Packets.{Account, account_of, emissions_in}
use Rattle.emitted_packets.specs.declared.emitter.Emitter.{Emitter}
use Rattle.scenario_text.specs.declared.scenario.NumberedLine.{NumberedLine}
use Rattle.scenario_text.specs.Accepted.{calls_asked}
use Rattle.scenario_text.specs.Emissions.{emissions_asked}
use Rattle.scenario_check.specs.Emissions.{AreAsked}
use Rattle.scenario_check.specs.Progress.{Holds, HaveTaken}

-- the packets of the first so many emitters
pub record AreAskedUpTo (emitters : List Emitter) (count : ℕ) (packets : List (List (List ℕ))) : Type 0 where
  pub many : length packets ≡ count
  pub each : (lines : List NumberedLine) → HaveTaken lines emitters → (place : ℕ) (one : List (List ℕ)) → slice_get packets place ≡ Some one
      → (one ≡ emissions_asked (place + 1) lines) × (length one ≤ length lines)

pub asked_none : (emitters : List Emitter) → AreAskedUpTo emitters 0 []
asked_none emitters = record { many = refl; each = λ lines taken place one there. absurd (nothing place one there) }
  where
    nothing : (place : ℕ) (one : List (List ℕ)) → slice_get [] place ≡ Some one → ⊥
    nothing zero one there = cc
    nothing (suc place) one there = cc

pub push_there : {A : Type 0} (xs : List A) (x y : A) (place : ℕ) → slice_get (xs ++ x ∷ []) place ≡ Some y
    → (slice_get xs place ≡ Some y) ⊎ ((place ≡ length xs) × (x ≡ y))
push_there [] x y zero there = inr (refl, cc)
push_there [] x y (suc place) there = absurd cc
push_there (first ∷ xs) x y zero there = inl there
push_there (first ∷ xs) x y (suc place) there = later (push_there xs x y place there)
  where
    later : (slice_get xs place ≡ Some y) ⊎ ((place ≡ length xs) × (x ≡ y)) → (slice_get xs place ≡ Some y) ⊎ ((suc place ≡ suc (length xs)) × (x ≡ y))
    later (inl inside) = inl inside
    later (inr last) = inr (ap suc last.0, last.1)

pub asked_more : (emitters : List Emitter) (count : ℕ) (packets : List (List (List ℕ))) (emitter : Emitter) (one : List (List ℕ))
    → AreAskedUpTo emitters count packets → slice_get emitters count ≡ Some emitter
    → ((account : Account) → Holds account emitter → one ≡ emissions_in account.packets)
    → length one ≡ length emitter.ends.items → AreAskedUpTo emitters (count + 1) (packets ++ one ∷ [])
asked_more emitters count packets emitter one asked here is as_many = record {
  many = omega (arith, asked.many, length-append packets (one ∷ []));
  each = λ lines taken place other there. by_place lines taken place other (push_there packets one other place there);
}
  where
    by_place : (lines : List NumberedLine) → HaveTaken lines emitters → (place : ℕ) (other : List (List ℕ))
        → (slice_get packets place ≡ Some other) ⊎ ((place ≡ length packets) × (one ≡ other)) → (other ≡ emissions_asked (place + 1) lines) × (length other ≤ length lines)
    by_place lines taken place other (inl inside) = asked.each lines taken place other inside
    by_place lines taken place other (inr last) =
        let at : count ≡ place = sym asked.many ∙ sym last.0 in
        let t = taken count emitter here in (
          sym last.1 ∙ is (account_of (calls_asked (count + 1) lines)) t.holds ∙ ap (λ (n : ℕ). emissions_asked (n + 1) lines) at,
          omega (arith, ap length last.1, as_many, t.few),
        )

pub asked_all : (emitters : List Emitter) (count : ℕ) (packets : List (List (List ℕ))) → count ≡ length emitters → AreAskedUpTo emitters count packets
    → (lines : List NumberedLine) → HaveTaken lines emitters → AreAsked lines (length emitters) packets
asked_all emitters count packets all asked lines taken = record {
  many = asked.many ∙ all;
  each = λ place one there. (asked.each lines taken place one there).0;
  few = λ place one there. (asked.each lines taken place one there).1;
}
