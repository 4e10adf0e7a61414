-- What a payload reads as: a relation between a whole payload and its fragments. After the shared memory ABI, with this
-- project's drop mark: a payload holds fragments one behind another, each its size and then so many bytes, and then
-- unused bytes.
use Rattle.std.specs.Prelude.{◌≡◌, ℕ, ◌+◌, ◌<◌, ◌≤◌, ◌⊎◌, true, false, List, [], ◌∷◌, ◌++◌, length}
use Rattle.wire_varint.specs.Reading.{joined, IsWhole}
use Rattle.trace_model.specs.Images.{Fragment}

-- the size of a fragment whose rest its writer couldn't write: the greatest of four bytes
abbrev pub drop_mark : List ℕ
drop_mark = 0xFF ∷ 0xFF ∷ 0xFF ∷ 0x7F ∷ []

-- and its value
abbrev pub drop_size : ℕ
drop_size = 0x0FFFFFFF

-- a size: a varint of one to four bytes
pub record IsSize (bytes : List ℕ) (n : ℕ) : Type 0 where
  pub whole : IsWhole bytes
  pub most : length bytes ≤ 4
  pub value : joined bytes ≡ n

-- The bytes from the place `at` on are a fragment without the drop mark, and then the rest.
pub record ReadsOne (at : ℕ) (bytes : List ℕ) (fragment : Fragment) (rest : List ℕ) : Type 0 where
  pub size : List ℕ
  pub is_size : IsSize size (length fragment.bytes)
  pub cut : bytes ≡ size ++ fragment.bytes ++ rest
  pub offset : fragment.offset ≡ at + length size
  pub kept : fragment.dropped ≡ false
  pub unmarked : length fragment.bytes < drop_size

-- The bytes from the place `at` on are a fragment with the drop mark, whose bytes are all that follows.
pub record ReadsDropped (at : ℕ) (bytes : List ℕ) (fragment : Fragment) : Type 0 where
  pub cut : bytes ≡ drop_mark ++ fragment.bytes
  pub offset : fragment.offset ≡ at + 4
  pub dropped : fragment.dropped ≡ true

-- The bytes from the place `at` on read as these fragments; only the last one may have the drop mark. As none they
-- never read.
abbrev pub ReadsFrom : ℕ → List ℕ → List Fragment → Type 0
ReadsFrom at bytes [] = ⊥
ReadsFrom at bytes (fragment ∷ []) =
    ReadsDropped at bytes fragment ⊎ ((rest : List ℕ) × ReadsOne at bytes fragment rest)
ReadsFrom at bytes (fragment ∷ next ∷ others) =
    (rest : List ℕ) × ReadsOne at bytes fragment rest
    × ReadsFrom (fragment.offset + length fragment.bytes) rest (next ∷ others)

-- the payload reads as these fragments
abbrev pub ReadsAs : List ℕ → List Fragment → Type 0
ReadsAs payload fragments = ReadsFrom 0 payload fragments
