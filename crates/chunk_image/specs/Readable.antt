-- How far the fragments of a payload can be read.
use Rattle.std.specs.Prelude.{ℕ, zero, suc, ◌-◌, ◌==◌, List, [], ◌∷◌, drop, Option, Some, None}
use Rattle.trace_model.specs.Images.{Fragment}
use Rattle.trace_model.specs.Reading.{size_of, fragment_of, fragment_end}

-- the fragment, if it can be read, and then the others
abbrev pub readable_on : (Fragment → List Fragment) → Option Fragment → List Fragment
readable_on others None = []
readable_on others (Some fragment) = fragment ∷ others fragment

-- so many fragments in the bytes from the place `at` on, up to the first that can't be read; the drop mark is read only
-- in the last one
unfoldable pub readable_from : ℕ → ℕ → List ℕ → List Fragment
readable_from zero at bytes = []
readable_from (suc left) at bytes =
    readable_on
    (λ fragment. readable_from left (fragment_end fragment) (drop (fragment_end fragment - at) bytes))
    (fragment_of (left == 0) at bytes (size_of 4 bytes))
