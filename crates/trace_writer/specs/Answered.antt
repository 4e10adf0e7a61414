-- What an answer to a flush request says of the writer that gave it, then and ever after.
use Rattle.std.specs.Prelude.{◌≡◌, ℕ, ◌≤◌, List, [], ◌∷◌, ◌++◌, length, take}
use Rattle.trace_model.specs.Calls.{Call, Flushed}
use Rattle.trace_model.specs.Cut.{IsCut}
use Rattle.chunk_plain.specs.Histories.{completed_images, completed_patches}
use Rattle.chunk_plain.specs.Views.{At, BegunChunk, Completed, Content, Reply, WriterView}
use Rattle.trace_writer.specs.OwnSteps.{NoneHeld}

-- each chunk that was completed is so still, with what it had
abbrev pub KeepsCompleted : List BegunChunk → List BegunChunk → Type 0
KeepsCompleted old new = (position chunk : ℕ) (content : Content) → At old position (Completed chunk content) → At new position (Completed chunk content)

-- The last call that was noted before the answer is a flush. The chunks that the answer counts are the first ones, each completed; their images, with
-- their patches, are a cut of the packets of the calls that were noted before the answer.
pub record IsAnsweredCut (size sequence : ℕ) (view : WriterView) (answer : Reply) : Type 0 where
  pub calls : answer.calls ≤ length view.calls
  pub chunks : answer.chunks ≤ length view.begun
  pub before : List Call
  pub flushed : take answer.calls view.calls ≡ before ++ Flushed ∷ []
  pub completed : NoneHeld (take answer.chunks view.begun)
  pub cut : IsCut size sequence (take answer.calls view.calls)
      (completed_images (take answer.chunks view.begun)) (completed_patches (take answer.chunks view.begun))
