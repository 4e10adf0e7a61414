-- What the top call says on its text.
use Rattle.std.specs.Prelude.{◌≡◌, ℕ, ◌≤◌, ◌⊎◌, List, ◌++◌, codes, decimal}
use Rattle.byte_io.specs.Bytes.{Intake, after_told, Faulted, TakesPart}

-- A line was written on `text`; or a part of it, where its faults rose.
abbrev pub Says : Intake → Intake → ℕ → ℕ → List ℕ → Type 0
Says old new old_faults new_faults line =
    ((new ≡ after_told old line) × (new_faults ≡ old_faults))
    ⊎ (TakesPart old new line × (old_faults ≤ new_faults) × Faulted old_faults new_faults)

-- A report couldn't be written whole, and a line was written behind the front part that `text` took of it.
pub record SaysBehind (old new : Intake) (old_faults new_faults : ℕ) (report line : List ℕ) : Type 0 where
  pub between : Intake
  pub between_faults : ℕ
  pub part : TakesPart old between report
  pub later : old_faults ≤ between_faults
  pub faulted : Faulted old_faults between_faults
  pub says : Says between new between_faults new_faults line

-- ---- the lines, each with its line feed

unfoldable pub usage_line : List ℕ
usage_line = codes "usage: tracesmb replay|run|read|check|gen NUMBER WRITERS PACKETS|stream|clone|tune USERS TURNS\n"

-- what is said where memory ran out
unfoldable pub memory_line : List ℕ
memory_line = codes "out of memory\n"

-- what is said where the input failed
unfoldable pub read_line : List ℕ
read_line = codes "read fault\n"

-- what is said where the trace or the text failed
unfoldable pub write_line : List ℕ
write_line = codes "write fault\n"

-- what is said where the input is too long
unfoldable pub long_line : List ℕ
long_line = codes "input too long\n"

-- `stalled: writer W`: what is said where a writer stalled
unfoldable pub stalled_line : ℕ → List ℕ
stalled_line writer = codes "stalled: writer " ++ decimal writer ++ codes "\n"
