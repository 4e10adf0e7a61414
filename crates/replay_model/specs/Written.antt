-- What a writer has written, by its view.
use Rattle.std.specs.Prelude.{◌≡◌, ℕ, ◌+◌, List, length}
use Rattle.trace_model.specs.Images.{Image}
use Rattle.chunk_plain.specs.Setup.{Setup}
use Rattle.chunk_plain.specs.Views.{WriterView}
use Rattle.chunk_plain.specs.Histories.{completed_images}
use Rattle.world_model.specs.FirstBuffers.{payload_at}
use Rattle.world_model.specs.Accounts.{all_images, HasCut}
use Rattle.service_core.specs.OrderLaws.{HasImages}

-- The writer at this place has cut its packets into its own chunks: the images of the cut's pages are those of the chunks that it began, by
-- their positions. Each chunk has its image, the held one last, and there are no others.
pub record HasWritten (setup : Setup) (place : ℕ) (view : WriterView) : Type 0 where
  pub held : List Image
  pub cut : HasCut (payload_at setup place) place view held
  pub images : HasImages view (all_images view held)
  pub begun : length view.begun ≡ length (completed_images view.begun) + length held
