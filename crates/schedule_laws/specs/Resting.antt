-- When the writers and the service of a table have done their calls to the end. A schedule may stop anywhere; what it leads to is an
-- account where they are between two calls.
use Rattle.std.specs.Prelude.{◌≡◌, ℕ, ◌<◌, [], length}
use Rattle.chunk_plain.specs.Setup.{Setup, sequence_of}
use Rattle.chunk_plain.specs.Views.{WriterView, ServiceView}
use Rattle.chunk_plain.specs.World.{World, writer}
use Rattle.world_model.specs.Accounts.{NoneCommitted}
use Rattle.trace_writer.specs.declared.state.Writer.{Writer}
use Rattle.trace_writer.specs.Core.{WriterAgrees}
use Rattle.service_core.specs.Order.{Stage, LeadTo, beginning}

-- The writer at this place is between two calls: there is a writer that agrees with its view. Each call of a writer leaves one, whatever
-- the table: that is a clause of its code.
pub record IsBetweenCalls (setup : Setup) (place : ℕ) (view : WriterView) : Type 0 where
  pub writer : Writer
  pub agrees : WriterAgrees setup place view writer

-- and so are all of them
abbrev pub AreBetweenCalls : Setup → World → Type 0
AreBetweenCalls setup world = (place : ℕ) → place < length setup.writers → IsBetweenCalls setup place (writer world place)

-- What the service noted on the sequence of the writer at this place leads on in order, and no patches are due. Each call of the service
-- leaves it so: that is a clause of its code too.
pub record IsNotedInOrder (service : ServiceView) (place : ℕ) : Type 0 where
  pub last : Stage
  pub leads : LeadTo service (sequence_of place) beginning service.events last
  pub none_due : last.due ≡ []

-- and so is what it noted on each writer's sequence of which nothing came by a commit
abbrev pub AreOwnInOrder : Setup → ServiceView → Type 0
AreOwnInOrder setup service = (place : ℕ) → place < length setup.writers → NoneCommitted service (sequence_of place) → IsNotedInOrder service place

-- and on all of them
abbrev pub AreNotedInOrder : Setup → ServiceView → Type 0
AreNotedInOrder setup service = (place : ℕ) → place < length setup.writers → IsNotedInOrder service place
