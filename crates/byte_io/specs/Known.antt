-- The bytes that a reader of std will give and those that a writer holds, where they are known. Each call of std keeps them known, so
-- what was known once is known ever after.
use Rattle.std.specs.Prelude.{ℕ, List, [], Option, Some, None, IsSome}
use Rattle.byte_io.specs.Bytes.{Intake, told, untold}

-- what was known at the start is known still
abbrev pub StillTells : Option (List ℕ) → Option (List ℕ) → Type 0
StillTells start now = IsSome start → IsSome now

-- the bytes that are known now, where they were known at the start
abbrev pub still_told : (start now : Option (List ℕ)) → Option (List ℕ)
still_told None now = None
still_told (Some start) now = now

-- what a writer holds, as what a sink has taken
abbrev pub taken_in : Option (List ℕ) → Intake
taken_in None = untold []
taken_in (Some bytes) = told bytes []
