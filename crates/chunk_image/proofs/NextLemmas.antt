-- One call of the iterator.
use Rattle.std.proofs.Common.{◌≡◌, ℕ, zero, suc, ◌-◌, ◌==◌, List, [], ◌∷◌, drop, Some, None, refl, ap, ◌∙◌, arith}
use Rattle.std.proofs.lemmas.Bool.Decides.{nat_tests}
use Rattle.trace_model.specs.Images.{Fragment}
use Rattle.trace_model.specs.Reading.{size_of, fragment_of, fragment_end}
use Rattle.chunk_image.specs.Readable.{readable_from}
use Rattle.chunk_image.proofs.ReadableLemmas.{readable_zero, readable_some, readable_none}

pub next_end : (left at : ℕ) (bytes : List ℕ) → left ≡ 0 → readable_from left at bytes ≡ []
next_end left at bytes e = rw e (readable_zero at bytes)

one_left : (left : ℕ) → (left == 0) ≡ (suc left == 1)
one_left left = grind (arith, nat_tests)

pub next_none : (left at : ℕ) (bytes : List ℕ) → (left ≡ 0 → ⊥) → fragment_of (left == 1) at bytes (size_of 4 bytes) ≡ None
    → readable_from left at bytes ≡ []
next_none zero at bytes some e = readable_zero at bytes
next_none (suc left) at bytes some e = readable_none left at bytes (ap (λ last. fragment_of last at bytes (size_of 4 bytes)) (one_left left) ∙ e)

pub next_some : (left at : ℕ) (bytes : List ℕ) (fragment : Fragment) → (left ≡ 0 → ⊥)
    → fragment_of (left == 1) at bytes (size_of 4 bytes) ≡ Some fragment
    → readable_from left at bytes
    ≡ fragment ∷ readable_from (left - 1) (fragment_end fragment) (drop (fragment_end fragment - at) bytes)
next_some zero at bytes fragment some e = absurd (some refl)
next_some (suc left) at bytes fragment some e =
    readable_some left at bytes fragment (ap (λ last. fragment_of last at bytes (size_of 4 bytes)) (one_left left) ∙ e)
    ∙ ap (λ n. fragment ∷ readable_from n (fragment_end fragment) (drop (fragment_end fragment - at) bytes)) (omega arith)

pub ruleset next_steps = (next_end, next_none, next_some)
