-- The lines of a scenario that commit chunks in the names of writers.
use Rattle.std.specs.Prelude.{◌≡◌, ℕ, suc, ◌==◌, Bool, true, false, List, map}
use Rattle.std.specs.List.{filter, list_any}
use Rattle.scenario_text.specs.declared.scenario.LineKind.{LineKind}
use Rattle.scenario_text.specs.declared.scenario.LineKind.TheVariants.{Raw}
use Rattle.scenario_text.specs.declared.scenario.NumberedLine.{NumberedLine}

-- the line commits a chunk
unfoldable pub is_raw : LineKind → Bool
is_raw (Raw writer chunk) = true
is_raw other = false

-- no line commits a chunk
abbrev pub RawsNone : List NumberedLine → Type 0
RawsNone lines = list_any (λ line. is_raw line.what) lines ≡ false

-- the numbers in the text of those that do, in order
abbrev pub raw_numbers : List NumberedLine → List ℕ
raw_numbers lines = map (λ line. line.line) (filter (λ line. is_raw line.what) lines)

-- the line commits a chunk in the name of the writer with this number
unfoldable pub is_raw_of : ℕ → LineKind → Bool
is_raw_of number (Raw writer chunk) = number == writer
is_raw_of number other = false

-- one of the lines does
abbrev pub has_raw : ℕ → List NumberedLine → Bool
has_raw number lines = list_any (λ line. is_raw_of number line.what) lines

-- none of the lines commits a chunk in the name of the writer at this place
abbrev pub HasNoRaw : List NumberedLine → (place : ℕ) → Type 0
HasNoRaw lines place = has_raw (suc place) lines ≡ false
