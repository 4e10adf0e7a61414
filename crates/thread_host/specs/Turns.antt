-- How often the service's own lines had their turn. Each takes two turns, one as it begins and one once it's done, so that a line that ended in a write
-- that failed leaves an odd number, from which no line goes on.
use Rattle.std.specs.Prelude.{◌≡◌, ◌⊎◌, ℕ, suc, ◌+◌, List, take}
use Rattle.trace_model.specs.Buffers.{Buffer}
use Rattle.chunk_plain.specs.Setup.{Setup}
use Rattle.chunk_plain.specs.Views.{At, ServiceView}
use Rattle.scenario_text.specs.declared.scenario.LineKind.{LineKind}
use Rattle.scenario_text.specs.declared.scenario.NumberedLine.{NumberedLine}
use Rattle.run_model.specs.Lines.{PlaysLines, PlaysUpTo, service_lines}

-- Where so many turns were taken, all lines that began are done, and the next one is this line.
pub record IsNext (lines : List NumberedLine) (turns : ℕ) (kind : LineKind) : Type 0 where
  pub done : ℕ
  pub turns_are : turns ≡ done + done
  pub line : NumberedLine
  pub there : At (service_lines lines) done line
  pub kind_is : line.what ≡ kind

-- Where so many turns were taken, either each line that began was played whole; or the last one was played up to a write that failed.
abbrev pub PlaysTurns : Setup → (first : List Buffer) → (scenario : List NumberedLine) → (turns : ℕ) → (old new : ServiceView) → Type 0
PlaysTurns setup first scenario turns old new =
    ∥ ((done : ℕ) × (turns ≡ done + done) × PlaysLines setup first scenario (take done (service_lines scenario)) old new)
    ⊎ ((done : ℕ) × (turns ≡ suc (done + done)) × PlaysUpTo setup first scenario (service_lines scenario) old new) ∥₁
