-- The commands of the program, and how each is written.
use Rattle.std.specs.Prelude.{◌≡◌, ℕ, ◌<◌, ◌≤◌, ◌^◌, List, [], ◌∷◌, codes, decimal}
use Rattle.trace_base.specs.declared.limits.TheConstants.{MAX_GENERATED_WRITERS, MAX_GENERATED_PACKETS}
use Rattle.layout_tuner.specs.declared.table.TheConstants.{MAX_USERS}
use Rattle.tune_run.specs.declared.turns.TheConstants.{MAX_TURNS}
use Rattle.command_words.specs.declared.command.Command.{Command}
use Rattle.command_words.specs.declared.command.Command.TheVariants.{Replay, Run, Read, Check, Gen, Stream, Clone, Tune}

-- the words of a command: its name, and its numbers in decimal, without a sign and without a leading zero
abbrev pub words_of : Command → List (List ℕ)
words_of Replay = codes "replay" ∷ []
words_of Run = codes "run" ∷ []
words_of Read = codes "read" ∷ []
words_of Check = codes "check" ∷ []
words_of (Gen number writers packets) = codes "gen" ∷ decimal number ∷ decimal writers ∷ decimal packets ∷ []
words_of Stream = codes "stream" ∷ []
words_of Clone = codes "clone" ∷ []
words_of (Tune users turns) = codes "tune" ∷ decimal users ∷ decimal turns ∷ []

-- the numbers of a command are within their limits
abbrev pub IsWithinLimits : Command → Type 0
IsWithinLimits (Gen number writers packets) =
    (number < 2 ^ 64) × (1 ≤ writers) × (writers ≤ MAX_GENERATED_WRITERS) × (1 ≤ packets) × (packets ≤ MAX_GENERATED_PACKETS)
IsWithinLimits (Tune users turns) = (1 ≤ users) × (users ≤ MAX_USERS) × (1 ≤ turns) × (turns ≤ MAX_TURNS)
IsWithinLimits other = Unit {0}

-- the words are the written form of a command within its limits
abbrev pub Spells : List (List ℕ) → Command → Type 0
Spells words command = (words ≡ words_of command) × IsWithinLimits command

-- no words spell two commands
abbrev pub WordsSpellOneCommand : Type 0
WordsSpellOneCommand = (words : List (List ℕ)) (one other : Command) → Spells words one → Spells words other → one ≡ other
