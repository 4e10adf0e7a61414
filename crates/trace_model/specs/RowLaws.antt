-- The links of a row stand in rising places, and a row goes on where more chunks come: the chain that stands open at its
-- end is joined to what comes.
use Rattle.std.specs.Prelude.{◌≡◌, ℕ, ◌+◌, ◌<◌, ◌≤◌, ◌⊎◌, Bool, true, false, List, [], ◌∷◌, ◌++◌, length, if◌then◌else◌, ⊤}
use Rattle.trace_model.specs.Sequences.{Cursor}
use Rattle.trace_model.specs.Row.{Slot, Here, Gone, Never, Fate, Open, Link, Joined, Gap, Stop, joined_to, place, row_of}

-- the first place comes before the second; or is the same at most
abbrev pub Before : Cursor → Cursor → Type 0
Before a b = (a.chunk_id < b.chunk_id) ⊎ ((a.chunk_id ≡ b.chunk_id) × (a.passed < b.passed))

-- the one place isn't behind the other
abbrev pub UpTo : Cursor → Cursor → Type 0
UpTo a b = (a.chunk_id < b.chunk_id) ⊎ ((a.chunk_id ≡ b.chunk_id) × (a.passed ≤ b.passed))

-- each link is at the place behind the one before, or further, and ends behind its own
abbrev pub Rises : Cursor → List Link → Type 0
Rises at [] = ⊤
Rises at (Joined chain ∷ links) = UpTo at chain.at × Before chain.at chain.next × Rises chain.next links
Rises at (Gap here next lost ∷ links) = UpTo at here × Before here next × Rises next links
Rises at (Stop here why may ∷ links) = ⊤

-- the links of a row stand in rising places
abbrev pub RowsRise : Type 0
RowsRise = (closed : Bool) (slots : List Slot) (chunk_id passed : ℕ)
    → Rises (place chunk_id passed) (row_of closed chunk_id passed slots)

-- the chain's rest is still to come
abbrev pub is_open : Fate → Bool
is_open Open = true
is_open other = false

-- the row with this rest in place of its stop place
abbrev pub continued : List Link → List Link → List Link
continued [] rest = rest
continued (Joined chain ∷ links) rest =
    if is_open chain.fate then joined_to chain rest else Joined chain ∷ continued links rest
continued (Gap at next lost ∷ links) rest = Gap at next lost ∷ continued links rest
continued (Stop at why may ∷ links) rest = rest

-- the chunks are there whole, and nothing of them is still to come
abbrev pub AreWhole : List Slot → Type 0
AreWhole [] = ⊤
AreWhole (Here chunk ∷ slots) = (chunk.partial ≡ false) × (chunk.awaits ≡ false) × AreWhole slots
AreWhole (Gone ∷ slots) = ⊥
AreWhole (Never ∷ slots) = ⊥

-- The row of more slots is that of the first ones, continued.
abbrev pub RowsContinue : Type 0
RowsContinue = (slots more : List Slot) (chunk_id : ℕ) → AreWhole slots
    → row_of false chunk_id 0 (slots ++ more)
    ≡ continued (row_of false chunk_id 0 slots) (row_of false (chunk_id + length slots) 0 more)
