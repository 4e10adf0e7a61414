-- Decimal numbers of any length, without a sign and without a leading zero.
use Rattle.std.specs.Prelude.{ℕ, ◌+◌, ◌-◌, ◌*◌, ◌^◌, nat_lt, ◌==◌, Option, Some, None, List, [], ◌∷◌, if◌then◌else◌}
use Rattle.std.specs.Char.{is_ascii_digit}
use Rattle.trace_base.specs.declared.numeral.Numeral.{Numeral}
use Rattle.trace_base.specs.declared.numeral.Numeral.TheVariants.{Fits, TooLarge}

-- the number that digits go on to behind a first part that is this many, however large; none where one isn't a digit
unfoldable pub value_from : ℕ → List ℕ → Option ℕ
value_from value [] = Some value
value_from value (digit ∷ digits) = if is_ascii_digit digit then value_from (value * 10 + (digit - 48)) digits else None

-- the number that a word spells
unfoldable pub number_of : List ℕ → Option ℕ
number_of [] = None
number_of (first ∷ []) = value_from 0 (first ∷ [])
number_of (first ∷ second ∷ digits) = if first == 48 then None else value_from 0 (first ∷ second ∷ digits)

-- the number, where it has 64 bits; of a larger one just that it is larger
unfoldable pub sized : ℕ → Numeral
sized value = if nat_lt value (2 ^ 64) then Fits value else TooLarge

-- a numeral by its value, where it has one
unfoldable pub sized_value : Option ℕ → Option Numeral
sized_value None = None
sized_value (Some value) = Some (sized value)

-- the number that a word spells, sized
unfoldable pub numeral_of : List ℕ → Option Numeral
numeral_of word = sized_value (number_of word)

-- with one more digit
unfoldable pub longer : Numeral → ℕ → Numeral
longer (Fits value) digit = sized (value * 10 + digit)
longer TooLarge digit = TooLarge
