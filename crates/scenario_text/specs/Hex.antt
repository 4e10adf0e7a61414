-- Bytes in lower-case hexadecimal digits, as the word `x'00ff'` has them: `x`, and pairs of digits, none or more, between two ticks.
-- The form is this profile's. 120 is 'x', and 39 the tick.
use Rattle.std.specs.Prelude.{ℕ, ◌+◌, ◌*◌, ◌==◌, ◌&&◌, Option, Some, None, List, [], ◌∷◌, codes, length, if◌then◌else◌}
use Rattle.std.specs.Str.{bytes_eq}
use Rattle.field_tree.specs.Machine.{hex_value}

-- the byte of two digits
unfoldable pub byte_by : Option ℕ → Option ℕ → Option ℕ
byte_by (Some high) (Some low) = Some (16 * high + low)
byte_by high low = None

-- the byte that two digits say
unfoldable pub pair_of : ℕ → ℕ → Option ℕ
pair_of high low = byte_by (hex_value high) (hex_value low)

-- a byte in front of others
unfoldable pub in_front : Option ℕ → Option (List ℕ) → Option (List ℕ)
in_front (Some byte) (Some bytes) = Some (byte ∷ bytes)
in_front byte bytes = None

-- no bytes, where the last tick stands here alone
unfoldable pub if_tick : List ℕ → Option (List ℕ)
if_tick digits = if bytes_eq digits (codes "'") then Some [] else None

-- the bytes of the pairs of digits in front of the last tick
unfoldable pub pairs_in : List ℕ → Option (List ℕ)
pairs_in [] = if_tick []
pairs_in (last ∷ []) = if_tick (last ∷ [])
pairs_in (high ∷ low ∷ digits) = in_front (pair_of high low) (pairs_in digits)

-- the bytes that a word says
unfoldable pub hex_of : List ℕ → Option (List ℕ)
hex_of [] = None
hex_of (first ∷ []) = None
hex_of (first ∷ second ∷ digits) = if (first == 120) && (second == 39) then pairs_in digits else None

-- these bytes, where they are four
unfoldable pub if_four : Option (List ℕ) → Option (List ℕ)
if_four None = None
if_four (Some bytes) = if length bytes == 4 then Some bytes else None
