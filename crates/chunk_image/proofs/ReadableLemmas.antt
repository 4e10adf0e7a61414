-- How far a payload can be read: step by step, and what the model's reading is then.
use Rattle.std.proofs.Common.{◌≡◌, ℕ, zero, suc, ◌+◌, ◌-◌, ◌<◌, ◌≤◌, ◌==◌, List, [], ◌∷◌, length, drop, Option, Some, None, refl, ap, sym, ◌∙◌, arith}
use Rattle.trace_model.specs.Images.{Fragment}
use Rattle.trace_model.specs.Reading.{Reading, Fragments, Unreadable, size_of, fragment_of, fragment_end, behind, read_on, reading_from}
use Rattle.chunk_image.specs.Readable.{readable_on, readable_from}

pub readable_zero : (at : ℕ) (bytes : List ℕ) → readable_from 0 at bytes ≡ []
unfolding readable_from
readable_zero at bytes = refl

pub readable_suc : (left at : ℕ) (bytes : List ℕ)
    → readable_from (suc left) at bytes
    ≡ readable_on (λ fragment. readable_from left (fragment_end fragment) (drop (fragment_end fragment - at) bytes))
    (fragment_of (left == 0) at bytes (size_of 4 bytes))
unfolding readable_from
readable_suc left at bytes = refl

pub readable_some : (left at : ℕ) (bytes : List ℕ) (fragment : Fragment) → fragment_of (left == 0) at bytes (size_of 4 bytes) ≡ Some fragment
    → readable_from (suc left) at bytes ≡ fragment ∷ readable_from left (fragment_end fragment) (drop (fragment_end fragment - at) bytes)
readable_some left at bytes fragment e =
    readable_suc left at bytes
    ∙ ap (readable_on (λ fragment. readable_from left (fragment_end fragment) (drop (fragment_end fragment - at) bytes))) e

pub readable_none : (left at : ℕ) (bytes : List ℕ) → fragment_of (left == 0) at bytes (size_of 4 bytes) ≡ None
    → readable_from (suc left) at bytes ≡ []
readable_none left at bytes e =
    readable_suc left at bytes
    ∙ ap (readable_on (λ fragment. readable_from left (fragment_end fragment) (drop (fragment_end fragment - at) bytes))) e

-- Lengths

length_on : (n : ℕ) (others : Fragment → List Fragment) (o : Option Fragment) → ((fragment : Fragment) → length (others fragment) ≤ n)
    → length (readable_on others o) ≤ suc n
length_on n others None most = omega arith
length_on n others (Some fragment) most = omega (arith, most fragment)

pub at_most : (left at : ℕ) (bytes : List ℕ) → length (readable_from left at bytes) ≤ left
at_most zero at bytes = omega (arith, ap length (readable_zero at bytes))
at_most (suc left) at bytes =
    let others : Fragment → List Fragment = λ fragment. readable_from left (fragment_end fragment) (drop (fragment_end fragment - at) bytes) in
    omega (
      arith,
      ap length (readable_suc left at bytes),
      length_on left others (fragment_of (left == 0) at bytes (size_of 4 bytes))
          (λ fragment. at_most left (fragment_end fragment) (drop (fragment_end fragment - at) bytes)),
    )

-- The model's reading

all_on : (number left : ℕ) (others : Fragment → List Fragment) (readings : Fragment → Reading) (o : Option Fragment)
    → ((fragment : Fragment) → length (others fragment) ≡ left → readings fragment ≡ Fragments (others fragment))
    → length (readable_on others o) ≡ suc left → read_on number readings o ≡ Fragments (readable_on others o)
all_on number left others readings None same all = absurd (omega (arith, all))
all_on number left others readings (Some fragment) same all = ap (behind fragment) (same fragment (omega (arith, all)))

pub all_readable : (left number at : ℕ) (bytes : List ℕ) → length (readable_from left at bytes) ≡ left
    → reading_from left number at bytes ≡ Fragments (readable_from left at bytes)
all_readable zero number at bytes all = ap Fragments (sym (readable_zero at bytes))
all_readable (suc left) number at bytes all =
    let others : Fragment → List Fragment = λ fragment. readable_from left (fragment_end fragment) (drop (fragment_end fragment - at) bytes) in
    let readings : Fragment → Reading = λ fragment. reading_from left (suc number) (fragment_end fragment) (drop (fragment_end fragment - at) bytes) in
    all_on number left others readings (fragment_of (left == 0) at bytes (size_of 4 bytes))
    (λ fragment more. all_readable left (suc number) (fragment_end fragment) (drop (fragment_end fragment - at) bytes) more)
    (sym (ap length (readable_suc left at bytes)) ∙ all)
    ∙ ap Fragments (sym (readable_suc left at bytes))

part_on : (number left : ℕ) (others : Fragment → List Fragment) (readings : Fragment → Reading) (o : Option Fragment)
    → ((fragment : Fragment) → length (others fragment) < left → readings fragment ≡ Unreadable (suc number + length (others fragment)))
    → length (readable_on others o) < suc left → read_on number readings o ≡ Unreadable (number + length (readable_on others o))
part_on number left others readings None same part = ap Unreadable (omega arith)
part_on number left others readings (Some fragment) same part =
    ap (behind fragment) (same fragment (omega (arith, part))) ∙ ap Unreadable (omega arith)

pub part_readable : (left number at : ℕ) (bytes : List ℕ) → length (readable_from left at bytes) < left
    → reading_from left number at bytes ≡ Unreadable (number + length (readable_from left at bytes))
part_readable zero number at bytes part = absurd (omega (arith, part))
part_readable (suc left) number at bytes part =
    let others : Fragment → List Fragment = λ fragment. readable_from left (fragment_end fragment) (drop (fragment_end fragment - at) bytes) in
    let readings : Fragment → Reading = λ fragment. reading_from left (suc number) (fragment_end fragment) (drop (fragment_end fragment - at) bytes) in
    part_on number left others readings (fragment_of (left == 0) at bytes (size_of 4 bytes))
    (λ fragment more. part_readable left (suc number) (fragment_end fragment) (drop (fragment_end fragment - at) bytes) more)
    (omega (arith, ap length (readable_suc left at bytes), part))
    ∙ ap (λ fragments. Unreadable (number + length fragments)) (sym (readable_suc left at bytes))
