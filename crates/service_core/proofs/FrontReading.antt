-- Bytes that begin with finished fragments read as these, whatever stands behind them.
use Rattle.std.proofs.Common.{◌≡◌, ◌∙◌, ℕ, zero, suc, ◌+◌, ◌-◌, ◌*◌, ◌%◌, ◌<◌, ◌≤◌, ◌==◌, nat_le, Bool, true, false, cond, List, [], ◌∷◌, ◌++◌, length, take, drop, get_or, Some, None, refl, sym, ap, subst, arith, length-append}
use Rattle.std.proofs.lemmas.Bool.{ne_eqb}
use Rattle.std.proofs.lemmas.List.{get_or_append_left}
use Rattle.std.proofs.lemmas.Bool.Decides.{nat_tests}
use Rattle.std.proofs.lemmas.List.{take-append-le, drop-append-le, drop-drop, length-drop, length-take-le, get_or-drop}
use native.Mathlib.Decide.{dec_le}
use mathlib.Core.Logic.{dite}
use Rattle.trace_model.specs.Fragments.{drop_size}
use Rattle.trace_model.specs.Images.{Fragment}
use Rattle.trace_model.specs.Reading.{Reading, Size, size_of, fragment_of, reading_from, reading_of, read_on, behind, fragment_end}
use Rattle.chunk_plain.specs.Payload.{byte_in, size_at, size_bytes, IsFragment, start_of, sealed_to, HasFragments}
use Rattle.chunk_plain.proofs.Sealing.{one_byte, two_bytes, three_bytes, four_bytes}

-- The size in front

size_one : (x : ℕ) (rest : List ℕ) → x < 128 → size_of 4 (x ∷ rest) ≡ Some (record { value = x; width = 1 })
size_one x rest low = grind (arith, nat_tests)

size_two : (x y : ℕ) (rest : List ℕ) → 128 ≤ x → y < 128 → size_of 4 (x ∷ y ∷ rest) ≡ Some (record { value = x % 128 + 128 * y; width = 2 })
size_two x y rest first second = grind (arith, nat_tests)

size_three : (x y z : ℕ) (rest : List ℕ) → 128 ≤ x → 128 ≤ y → z < 128 → size_of 4 (x ∷ y ∷ z ∷ rest) ≡ Some (record { value = x % 128 + 128 * (y % 128 + 128 * z); width = 3 })
size_three x y z rest first second third = grind (arith, nat_tests)

size_four : (x y z w : ℕ) (rest : List ℕ) → 128 ≤ x → 128 ≤ y → 128 ≤ z → w < 128
    → size_of 4 (x ∷ y ∷ z ∷ w ∷ rest) ≡ Some (record { value = x % 128 + 128 * (y % 128 + 128 * (z % 128 + 128 * w)); width = 4 })
size_four x y z w rest first second third fourth = grind (arith, nat_tests)

-- a size as it is read, and its place
abbrev pub size_here : (ℕ → ℕ) → ℕ → Size
size_here b from = record { value = size_at b from (size_bytes b from); width = size_bytes b from }

-- so many bytes, at least, stand there
record Stands (bytes : List ℕ) (b : ℕ → ℕ) (from many : ℕ) : Type 0 where
  fits : many ≤ length bytes
  same : (j : ℕ) → j < many → byte_in bytes j ≡ b (from + j)

same_size : (value other width wide : ℕ) → value ≡ other → width ≡ wide → let s : Size = record { value = value; width = width } in let t : Size = record { value = other; width = wide } in Some s ≡ Some t
same_size value other width wide e f = ap (λ (v : ℕ). let s : Size = record { value = v; width = width } in Some s) e ∙ ap (λ (w : ℕ). let s : Size = record { value = other; width = w } in Some s) f

of_one : (bytes : List ℕ) (b : ℕ → ℕ) (from many : ℕ) → Stands bytes b from many → 1 ≤ many → b from < 128 → size_of 4 bytes ≡ Some (size_here b from)
of_one [] b from many s most low = absurd (let fits = s.fits in omega (arith, fits, most))
of_one (x ∷ rest) b from many s most low =
    let x_is : x ≡ b from = s.same 0 most ∙ ap b (let same : from + 0 ≡ from = omega arith in same) in
    let n = one_byte b from low in
    size_one x rest (omega (arith, x_is, low))
    ∙ same_size x (size_at b from (size_bytes b from)) 1 (size_bytes b from)
    (let value : x ≡ size_at b from 1 = omega (arith, x_is, low) in value ∙ ap (size_at b from) (sym n)) (sym n)

of_two : (bytes : List ℕ) (b : ℕ → ℕ) (from many : ℕ) → Stands bytes b from many → 2 ≤ many → 128 ≤ b from → b (from + 1) < 128 → size_of 4 bytes ≡ Some (size_here b from)
of_two [] b from many s most first second = absurd (let fits = s.fits in omega (arith, fits, most))
of_two (x ∷ []) b from many s most first second = absurd (let fits = s.fits in omega (arith, fits, most))
of_two (x ∷ y ∷ rest) b from many s most first second =
    let x_is : x ≡ b from = s.same 0 (omega (arith, most)) ∙ ap b (let same : from + 0 ≡ from = omega arith in same) in
    let y_is : y ≡ b (from + 1) = s.same 1 (omega (arith, most)) in
    let n = two_bytes b from first second in
    size_two x y rest (omega (arith, x_is, first)) (omega (arith, y_is, second))
    ∙ same_size (x % 128 + 128 * y) (size_at b from (size_bytes b from)) 2 (size_bytes b from)
    (let value : x % 128 + 128 * y ≡ size_at b from 2 = omega (arith, x_is, y_is, second) in value ∙ ap (size_at b from) (sym n)) (sym n)

of_three : (bytes : List ℕ) (b : ℕ → ℕ) (from many : ℕ) → Stands bytes b from many → 3 ≤ many → 128 ≤ b from → 128 ≤ b (from + 1) → b (from + 2) < 128
    → size_of 4 bytes ≡ Some (size_here b from)
of_three [] b from many s most first second third = absurd (let fits = s.fits in omega (arith, fits, most))
of_three (x ∷ []) b from many s most first second third = absurd (let fits = s.fits in omega (arith, fits, most))
of_three (x ∷ y ∷ []) b from many s most first second third = absurd (let fits = s.fits in omega (arith, fits, most))
of_three (x ∷ y ∷ z ∷ rest) b from many s most first second third =
    let x_is : x ≡ b from = s.same 0 (omega (arith, most)) ∙ ap b (let same : from + 0 ≡ from = omega arith in same) in
    let y_is : y ≡ b (from + 1) = s.same 1 (omega (arith, most)) in
    let z_is : z ≡ b (from + 2) = s.same 2 (omega (arith, most)) in
    let later : b (from + 1 + 1) ≡ b (from + 2) = ap b (let same : from + 1 + 1 ≡ from + 2 = omega arith in same) in
    let n = three_bytes b from first second third in
    size_three x y z rest (omega (arith, x_is, first)) (omega (arith, y_is, second)) (omega (arith, z_is, third))
    ∙ same_size (x % 128 + 128 * (y % 128 + 128 * z)) (size_at b from (size_bytes b from)) 3 (size_bytes b from)
    (let value : x % 128 + 128 * (y % 128 + 128 * z) ≡ size_at b from 3 = omega (arith, x_is, y_is, z_is, later, third) in value ∙ ap (size_at b from) (sym n)) (sym n)

of_four : (bytes : List ℕ) (b : ℕ → ℕ) (from many : ℕ) → Stands bytes b from many → 4 ≤ many → 128 ≤ b from → 128 ≤ b (from + 1) → 128 ≤ b (from + 2) → b (from + 3) < 128
    → size_of 4 bytes ≡ Some (size_here b from)
of_four [] b from many s most first second third fourth = absurd (let fits = s.fits in omega (arith, fits, most))
of_four (x ∷ []) b from many s most first second third fourth = absurd (let fits = s.fits in omega (arith, fits, most))
of_four (x ∷ y ∷ []) b from many s most first second third fourth = absurd (let fits = s.fits in omega (arith, fits, most))
of_four (x ∷ y ∷ z ∷ []) b from many s most first second third fourth = absurd (let fits = s.fits in omega (arith, fits, most))
of_four (x ∷ y ∷ z ∷ w ∷ rest) b from many s most first second third fourth =
    let x_is : x ≡ b from = s.same 0 (omega (arith, most)) ∙ ap b (let same : from + 0 ≡ from = omega arith in same) in
    let y_is : y ≡ b (from + 1) = s.same 1 (omega (arith, most)) in
    let z_is : z ≡ b (from + 2) = s.same 2 (omega (arith, most)) in
    let w_is : w ≡ b (from + 3) = s.same 3 (omega (arith, most)) in
    let later : b (from + 1 + 1) ≡ b (from + 2) = ap b (let same : from + 1 + 1 ≡ from + 2 = omega arith in same) in
    let last : b (from + 1 + 1 + 1) ≡ b (from + 3) = ap b (let same : from + 1 + 1 + 1 ≡ from + 3 = omega arith in same) in
    let n = four_bytes b from first second third in
    size_four x y z w rest (omega (arith, x_is, first)) (omega (arith, y_is, second)) (omega (arith, z_is, third)) (omega (arith, w_is, fourth))
    ∙ same_size (x % 128 + 128 * (y % 128 + 128 * (z % 128 + 128 * w))) (size_at b from (size_bytes b from)) 4 (size_bytes b from)
    (let value : x % 128 + 128 * (y % 128 + 128 * (z % 128 + 128 * w)) ≡ size_at b from 4 = omega (arith, x_is, y_is, z_is, w_is, later, last, fourth) in value ∙ ap (size_at b from) (sym n)) (sym n)

-- the size of a fragment that stands there
size_read : (bytes : List ℕ) (b : ℕ → ℕ) (from to many : ℕ) → Stands bytes b from many → IsFragment b from to → to ≤ from + many → size_of 4 bytes ≡ Some (size_here b from)
size_read bytes b from to many s is inside =
    let end = is.end in
    dite (dec_le (b from + 1) 128)
    (λ low. let n = one_byte b from (omega (arith, low)) in of_one bytes b from many s (omega (arith, n, end, inside)) (omega (arith, low)))
    (λ high. dite (dec_le (b (from + 1) + 1) 128)
    (λ low. let n = two_bytes b from (omega (arith, high)) (omega (arith, low)) in of_two bytes b from many s (omega (arith, n, end, inside)) (omega (arith, high)) (omega (arith, low)))
    (λ higher. dite (dec_le (b (from + 2) + 1) 128)
    (λ low. let n = three_bytes b from (omega (arith, high)) (omega (arith, higher)) (omega (arith, low)) in
    of_three bytes b from many s (omega (arith, n, end, inside)) (omega (arith, high)) (omega (arith, higher)) (omega (arith, low)))
    (λ highest. let n = four_bytes b from (omega (arith, high)) (omega (arith, higher)) (omega (arith, highest)) in
    let last : b (from + 3) < 128 = subst (λ (m : ℕ). b m < 128) (let same : from + size_bytes b from - 1 ≡ from + 3 = omega (arith, n) in same) is.low in
    of_four bytes b from many s (omega (arith, n, end, inside)) (omega (arith, high)) (omega (arith, higher)) (omega (arith, highest)) last)))

-- One fragment

abbrev fragment_here : ℕ → List ℕ → Size → Fragment
fragment_here at bytes size = record { bytes = take size.value (drop size.width bytes); dropped = false; offset = at + size.width }

one_fragment : (last : Bool) (at : ℕ) (bytes : List ℕ) (size : Size) → size_of 4 bytes ≡ Some size → size.width + size.value ≤ length bytes → size.value < drop_size
    → fragment_of last at bytes (size_of 4 bytes) ≡ Some (fragment_here at bytes size)
one_fragment last at bytes size is fits small =
    ap (fragment_of last at bytes) is ∙ kept (ne_eqb size.value drop_size (λ e. omega (arith, e, small))) (fits_test (size.width + size.value) (length bytes) fits)
  where
    fits_test : (m n : ℕ) → m ≤ n → nat_le m n ≡ true
    fits_test m n low = grind (arith, nat_tests)

    kept : (size.value == drop_size) ≡ false → nat_le (size.width + size.value) (length bytes) ≡ true → fragment_of last at bytes (Some size) ≡ Some (fragment_here at bytes size)
    kept unmarked inside =
        ap (λ (x : Bool). cond x (cond last (Some (record { bytes = drop size.width bytes; dropped = true; offset = at + size.width })) None)
        (cond (nat_le (size.width + size.value) (length bytes)) (Some (fragment_here at bytes size)) None)) unmarked
        ∙ ap (λ (x : Bool). cond x (Some (fragment_here at bytes size)) None) inside

-- All of them

-- the fragments from this number on, so many, whose bytes stand in the whole
record StandFrom (whole : List ℕ) (ends : List ℕ) : Type 0 where
  reads : HasFragments (byte_in whole) ends
  long : sealed_to ends ≤ length whole
  small : length whole < drop_size

front_from : (whole tail ends : List ℕ) → StandFrom whole ends → (left number at k : ℕ) → k + left ≡ length ends
    → reading_from left number at (drop (start_of ends k) (whole ++ tail)) ≡ reading_from left number at (drop (start_of ends k) whole)
front_from whole tail ends s zero number at k sum = refl
front_from whole tail ends s (suc left) number at k sum =
    let from : ℕ = start_of ends k in
    let to : ℕ = get_or ends k 0 in
    let b : ℕ → ℕ = byte_in whole in
    let here = s.reads k (omega (arith, sum)) in
    let end = here.0.end in
    let most = here.1 in
    let long = s.long in
    let small = s.small in
    let size : Size = size_here b from in
    let ys : List ℕ = drop from whole in
    let xs : List ℕ = drop from (whole ++ tail) in
    let split : xs ≡ ys ++ tail = drop-append-le from whole tail (let least : from ≤ to = omega (arith, end) in omega (arith, least, most, long)) in
    let room : length ys ≡ length whole - from = length-drop from whole in
    let total : length xs ≡ length ys + length tail = ap (λ (l : List ℕ). length l) split ∙ length-append ys tail in
    let stands : Stands ys b from (length ys) = record { fits = omega arith; same = λ j low. get_or-drop from whole j 0 } in
    let stands_too : Stands xs b from (length ys) = record {
      fits = omega (arith, total);
      same = λ j low. get_or-drop from (whole ++ tail) j 0 ∙ get_or_append_left whole tail 0 (from + j) (omega (arith, room, low));
    } in
    let fits : to ≤ from + length ys = omega (arith, room, most, long, end) in
    let sized = size_read ys b from to (length ys) stands here.0 fits in
    let sized_too = size_read xs b from to (length ys) stands_too here.0 fits in
    let f : Fragment = fragment_here at ys size in
    let same : fragment_here at xs size ≡ f =
    ap (λ (l : List ℕ). let g : Fragment = record { bytes = take size.value l; dropped = false; offset = at + size.width } in g)
    (ap (drop size.width) split ∙ drop-append-le size.width ys tail (omega (arith, end, room, most, long)))
    ∙ ap (λ (l : List ℕ). let g : Fragment = record { bytes = l; dropped = false; offset = at + size.width } in g)
    (take-append-le size.value (drop size.width ys) tail (let rest = length-drop size.width ys in omega (arith, rest, end, room, most, long))) in
    let go : List ℕ → Fragment → Reading = λ l f. reading_from left (suc number) (fragment_end f) (drop (fragment_end f - at) l) in
    let one = one_fragment (left == 0) at ys size sized (omega (arith, end, room, most, long)) (omega (arith, end, most, long, small)) in
    let one_too = one_fragment (left == 0) at xs size sized_too (omega (arith, end, room, most, long, total)) (omega (arith, end, most, long, small)) in
    let taken : length f.bytes ≡ size.value = length-take-le size.value (drop size.width ys) (let rest = length-drop size.width ys in omega (arith, rest, end, room, most, long)) in
    let behind_is : fragment_end f - at ≡ to - from = omega (arith, taken, end) in
    let next : (l : List ℕ) → drop (fragment_end f - at) (drop from l) ≡ drop to l = λ l.
    ap (λ (n : ℕ). drop n (drop from l)) behind_is ∙ drop-drop (to - from) from l ∙ ap (λ (n : ℕ). drop n l) (let sum : from + (to - from) ≡ to = omega (arith, end) in sum) in
    let rest = front_from whole tail ends s left (suc number) (fragment_end f) (suc k) (omega (arith, sum)) in
    ap (read_on number (go xs)) (one_too ∙ ap (λ (g : Fragment). Some g) same)
    ∙ ap (λ (l : List ℕ). behind f (reading_from left (suc number) (fragment_end f) l)) (next (whole ++ tail))
    ∙ ap (behind f) rest
    ∙ ap (λ (l : List ℕ). behind f (reading_from left (suc number) (fragment_end f) l)) (sym (next whole))
    ∙ ap (read_on number (go ys)) (sym one)

-- bytes that begin with so many fragments read as these
pub front_reads : (whole tail ends : List ℕ) → HasFragments (byte_in whole) ends → sealed_to ends ≤ length whole → length whole < drop_size
    → reading_of (length ends) (whole ++ tail) ≡ reading_of (length ends) whole
front_reads whole tail ends reads long small = step (length ends) refl
  where
    step : (n : ℕ) → n ≡ length ends → reading_of n (whole ++ tail) ≡ reading_of n whole
    step zero is = refl
    step (suc more) is = front_from whole tail ends (record { reads = reads; long = long; small = small }) (suc more) 0 0 0 (omega (arith, is))
