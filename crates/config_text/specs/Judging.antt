-- What the code has of the blocks before one, and what its answers say.
use Rattle.std.specs.Prelude.{◌≡◌, ℕ, ◌+◌, List, length, Option, Some, None, Result, Ok, Err}
use Rattle.config_text.specs.declared.judging.Counts.{Counts}
use Rattle.config_text.specs.declared.kept.KeptWhat.{KeptWhat}
use Rattle.config_text.specs.declared.kept.KeptWhat.TheVariants as kept
use Rattle.config_text.specs.declared.reason.ConfigReason.{ConfigReason}
use Rattle.config_text.specs.declared.reason.ConfigFault.{ConfigFault}
use Rattle.config_text.specs.declared.reason.ConfigFault.TheVariants.{OutOfMemory, BadConfig}
use Rattle.config_text.specs.Blocks.{Block}
use Rattle.config_text.specs.Reasons.{buffers_said, producers_said, sources_said}

-- so many blocks of each kind are there
pub record HasCounts (counts : Counts) (blocks : List Block) : Type 0 where
  pub buffers : length (buffers_said blocks) ≡ counts.buffers
  pub producers : length (producers_said blocks) ≡ counts.producers
  pub sources : length (sources_said blocks) ≡ counts.sources

-- and one more
abbrev pub counts_with : Counts → KeptWhat → Counts
counts_with counts (kept.Buffer said) = record { buffers = counts.buffers + 1; producers = counts.producers; sources = counts.sources }
counts_with counts (kept.Producer said) = record { buffers = counts.buffers; producers = counts.producers + 1; sources = counts.sources }
counts_with counts (kept.Source said) = record { buffers = counts.buffers; producers = counts.producers; sources = counts.sources + 1 }

-- Ok where no block is refused, and else the first that is. Memory is free to run out.
abbrev pub Judges : Result (Unit {0}) ConfigFault → Option (ℕ × ConfigReason) → Type 0
Judges (Ok done) found = found ≡ None
Judges (Err OutOfMemory) found = Unit {0}
Judges (Err (BadConfig line reason)) found = found ≡ Some (line, reason)
