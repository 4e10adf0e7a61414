-- The words that the program has a command for.
use Rattle.std.specs.Prelude.{ℕ, List}
use Rattle.command_words.specs.declared.command.Command.{Command}
use Rattle.command_words.specs.declared.command.Command.TheVariants.{Clone, Gen, Replay, Run, Stream, Tune}
use Rattle.command_words.specs.Commands.{Spells}

-- the words ask for the command: they are its written form
pub record Ask (words : List (List ℕ)) (command : Command) : Type 0 where
  pub spell : Spells words command

-- the words ask for no command
abbrev pub AskForNothing : List (List ℕ) → Type 0
AskForNothing words = (command : Command) → Ask words command → ⊥

-- the command reads the input; `gen` and `tune` alone don't
abbrev pub ReadsInput : Command → Type 0
ReadsInput (Gen number writers packets) = ⊥
ReadsInput (Tune users turns) = ⊥
ReadsInput other = Unit {0}

-- the words ask for no command that reads the input
abbrev pub AskForNoInput : List (List ℕ) → Type 0
AskForNoInput words = (command : Command) → Ask words command → ReadsInput command → ⊥

-- the command plays a scenario or a stream, which alone leaves a report
abbrev pub LeavesReport : Command → Type 0
LeavesReport Replay = Unit {0}
LeavesReport Run = Unit {0}
LeavesReport Clone = Unit {0}
LeavesReport Stream = Unit {0}
LeavesReport other = ⊥

-- the command plays a scenario line by line, on one thread: in `replay` and `clone` alone a writer ends stalled
abbrev pub PlaysByLine : Command → Type 0
PlaysByLine Replay = Unit {0}
PlaysByLine Clone = Unit {0}
PlaysByLine other = ⊥
