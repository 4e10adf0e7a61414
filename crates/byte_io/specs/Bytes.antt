-- What sources and sinks tell of their bytes, and how they count their faults.
use Rattle.std.specs.Prelude.{◌≡◌, ℕ, ◌-◌, ◌^◌, ◌<◌, ◌≤◌, ◌⊎◌, List, [], ◌∷◌, ◌++◌, length, take, Option, Some, None, Result, MatchResult}
use Rattle.std.specs.Borrow.{GName}

-- how an adapter stands on the sink that it borrows: by which borrows it reaches that sink and the
-- bytes that wait for it, and which bytes the sink had taken when it was lent
pub record Loan : Type 0 where
  pub inner : GName
  pub pending : GName
  pub start : List ℕ

-- What a sink has taken in. A sink that tells its bytes has them here; a standard stream tells none.
-- An adapter has the loan on which it hands bytes on, before those of the sink that it borrows; every
-- other sink has none. So a clause that says what a sink has taken also says that an adapter still
-- stands on the sink that it was made over, and who made it knows what that sink holds once it is gone.
pub data Intake : Type 0 where
  told : List ℕ → List Loan → Intake
  untold : List Loan → Intake

-- what a source told before it gave these bytes, by what it tells after
abbrev pub before_told : List ℕ → Option (List ℕ) → Option (List ℕ)
before_told bytes None = None
before_told bytes (Some left) = Some (bytes ++ left)

-- what a sink tells after it took these bytes, by what it told before
abbrev pub after_told : Intake → List ℕ → Intake
after_told (told taken loans) bytes = told (taken ++ bytes) loans
after_told (untold loans) bytes = untold loans

-- the intake of an adapter on this loan
abbrev pub lent_by : Loan → Intake → Intake
lent_by loan (told taken loans) = told taken (loan ∷ loans)
lent_by loan (untold loans) = untold (loan ∷ loans)

-- the bytes that a sink tells, and none where it tells nothing
abbrev pub told_bytes : Intake → List ℕ
told_bytes (told taken loans) = taken
told_bytes (untold loans) = []

-- a sink has taken no byte back
abbrev pub IsGrown : Intake → Intake → Type 0
IsGrown old new = take (length (told_bytes old)) (told_bytes new) ≡ told_bytes old

-- the count of faults rose, or stands at its last value
abbrev pub Faulted : ℕ → ℕ → Type 0
Faulted old new = (old < new) ⊎ (2 ^ 64 - 1 ≤ new)

-- the count of faults neither rose nor stands at its last value
abbrev pub NoFault : ℕ → ℕ → Type 0
NoFault old new = (new ≤ old) × (new < 2 ^ 64 - 1)

-- a call that succeeded left the count as it was, and one that failed raised it
abbrev pub CountsFaults : {T E : Type 0} → ℕ → ℕ → Result T E → Type 0
CountsFaults old new result = MatchResult result (λ _. new ≡ old) (λ _. (old ≤ new) × Faulted old new)

-- a source gave at most so many bytes: those that stood in front of what it has left
pub record GivesAtMost (most : ℕ) (old new : Option (List ℕ)) : Type 0 where
  pub bytes : List ℕ
  pub within : length bytes ≤ most
  pub given : old ≡ before_told bytes new

-- a sink took the first of these bytes: maybe none of them, maybe all
pub record TakesPart (old new : Intake) (bytes : List ℕ) : Type 0 where
  pub part : List ℕ
  pub rest : List ℕ
  pub cut : bytes ≡ part ++ rest
  pub taken : new ≡ after_told old part

-- a sink took these bytes but for the rest, which is still to be written
pub record TakesUpTo (old new : Intake) (bytes rest : List ℕ) : Type 0 where
  pub part : List ℕ
  pub cut : bytes ≡ part ++ rest
  pub taken : new ≡ after_told old part

-- a sink that was lent to an adapter took these bytes but for those that still wait, and took none back
pub record HandsOn (old new : Intake) (bytes waits : List ℕ) : Type 0 where
  pub all : after_told new waits ≡ after_told old bytes
  pub grown : IsGrown old new
