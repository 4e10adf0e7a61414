-- From the service's agreement to an account: what was noted on a sequence is in order, as accounts ask it.
use Rattle.std.specs.Prelude.{◌≡◌, ℕ, ◌<◌, false, List, [], length, Some, slice_get}
use Rattle.trace_model.specs.Fragments.{drop_size}
use Rattle.trace_model.specs.Images.{Image}
use Rattle.chunk_plain.specs.Setup.{sequence_of}
use Rattle.chunk_plain.specs.Views.{At, Draft, Content, Held, Completed, WriterView}
use Rattle.chunk_plain.specs.World.{World, writer}
use Rattle.chunk_plain.specs.Owned.{IsOwned}
use Rattle.world_model.specs.Accounts.{InOrder}
use Rattle.world_model.specs.FrontLaws.{StandsInWords}
use Rattle.service_core.specs.Order.{Stage, LeadTo, beginning}

-- The images are those of the chunks that the writer began, by their positions: of each completed one its content's, and of each held one
-- an image that stands in its words.
pub record HasImages (view : WriterView) (images : List Image) : Type 0 where
  pub completed : (position chunk : ℕ) (content : Content) → At view.begun position (Completed chunk content)
      → slice_get images position ≡ Some content.image
  pub held : (position chunk : ℕ) (draft : Draft) → At view.begun position (Held chunk draft)
      → (image : Image) × (slice_get images position ≡ Some image) × StandsInWords draft image × (length image.payload < drop_size)

-- In an owned world notes that lead from the beginning to a stage where no patches are due are in order: the parts that were noted of a chunk are
-- fronts of its image.
abbrev pub LeadsAreInOrder : Type 0
LeadsAreInOrder = (world : World) (place : ℕ) (images : List Image) (last : Stage) → IsOwned world → HasImages (writer world place) images
    → LeadTo world.service (sequence_of place) beginning world.service.events last → last.due ≡ []
    → InOrder images world.service (sequence_of place) 0 false [] world.service.events
