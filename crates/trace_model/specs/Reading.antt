-- Reading the fragments of an image, by steps. What it answers is what the payload reads as, and where nothing reads, the
-- number of the first fragment that can't be read.
use Rattle.std.specs.Prelude.{ℕ, zero, suc, ◌+◌, ◌-◌, ◌*◌, ◌%◌, Bool, true, false, nat_lt, nat_le, ◌==◌, List, [], ◌∷◌, length, take, drop, Option, Some, None, if◌then◌else◌}
use Rattle.trace_model.specs.Images.{Fragment}
use Rattle.trace_model.specs.Fragments.{drop_size}

-- a size, and its length in bytes
pub record Size : Type 0 where
  pub value : ℕ
  pub width : ℕ

-- a size with one more byte in front (a varint's)
abbrev pub longer_size : ℕ → Option Size → Option Size
longer_size byte None = None
longer_size byte (Some size) = Some (record { value = byte % 128 + 128 * size.value; width = size.width + 1 })

-- the size that the bytes begin with, if it has at most so many
abbrev pub size_of : ℕ → List ℕ → Option Size
size_of zero bytes = None
size_of (suc most) [] = None
size_of (suc most) (byte ∷ bytes) =
    if nat_lt byte 128 then Some (record { value = byte; width = 1 }) else longer_size byte (size_of most bytes)

-- what a fragment is, whose size stands before it; the drop mark only where it is the last
abbrev pub fragment_of : Bool → ℕ → List ℕ → Option Size → Option Fragment
fragment_of last at bytes None = None
fragment_of last at bytes (Some size) =
    if size.value == drop_size
    then (if last
    then Some (record { bytes = drop size.width bytes; dropped = true; offset = at + size.width })
    else None)
    else (if nat_le (size.width + size.value) (length bytes)
    then Some (record { bytes = take size.value (drop size.width bytes); dropped = false; offset = at + size.width })
    else None)

-- what an image reads as
pub data Reading : Type 0 where
  Fragments : List Fragment → Reading
  -- the number of the first fragment that can't be read, counted from 0
  Unreadable : ℕ → Reading

-- a fragment in front of what the rest of the payload reads as
abbrev pub behind : Fragment → Reading → Reading
behind fragment (Fragments fragments) = Fragments (fragment ∷ fragments)
behind fragment (Unreadable number) = Unreadable number

-- where a fragment ends: the place of the payload behind it
abbrev pub fragment_end : Fragment → ℕ
fragment_end fragment = fragment.offset + length fragment.bytes

-- the fragment with this number, if it can be read, and then the others
abbrev pub read_on : ℕ → (Fragment → Reading) → Option Fragment → Reading
read_on number others None = Unreadable number
read_on number others (Some fragment) = behind fragment (others fragment)

-- so many fragments, of which the first has the number, in the bytes from the place `at` on
abbrev pub reading_from : ℕ → ℕ → ℕ → List ℕ → Reading
reading_from zero number at bytes = Fragments []
reading_from (suc left) number at bytes =
    read_on number
    (λ fragment. reading_from left (suc number) (fragment_end fragment) (drop (fragment_end fragment - at) bytes))
    (fragment_of (left == 0) at bytes (size_of 4 bytes))

-- so many fragments of a payload; of none the first is missing
abbrev pub reading_of : ℕ → List ℕ → Reading
reading_of zero payload = Unreadable 0
reading_of (suc more) payload = reading_from (suc more) 0 0 payload

-- the fragments, and none where nothing reads
abbrev pub fragments_of : Reading → List Fragment
fragments_of (Fragments fragments) = fragments
fragments_of (Unreadable number) = []

-- the payload reads as fragments
abbrev pub is_readable : Reading → Bool
is_readable (Fragments fragments) = true
is_readable (Unreadable number) = false
