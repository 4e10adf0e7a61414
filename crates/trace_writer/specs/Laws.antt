-- Laws on writers that agree with the views of their seats.
use Rattle.std.specs.Prelude.{◌≡◌, ◌≢◌, ℕ, ◌+◌, ◌<◌, false, List, [], ◌∷◌, ◌++◌, length, map}
use Rattle.trace_base.specs.declared.policy.WriterPolicy.TheVariants.{Stalls}
use Rattle.trace_model.specs.Images.{Image}
use Rattle.trace_model.specs.Packets.{account_of, packets_of}
use Rattle.trace_model.specs.Ids.{named_image, named_patches}
use Rattle.trace_model.specs.Cut.{IsCutFrom}
use Rattle.chunk_plain.specs.Setup.{Setup, from_of}
use Rattle.chunk_plain.specs.Payload.{byte_at, byte_in}
use Rattle.chunk_plain.specs.Views.{Draft, BegunChunk, Held, WriterView}
use Rattle.trace_writer.specs.declared.state.Writer.{Writer}
use Rattle.trace_writer.specs.Core.{WriterAgrees, last_is_held, holds_newest}
use Rattle.trace_writer.specs.Filled.{frames}
use Rattle.trace_writer.specs.Empty.{is_stalled}
use Rattle.trace_writer.specs.Outcomes.{images_so_far, patches_so_far, held_images, HasCut, NewestIsWhole}

-- A writer has cut its packets into its chunks; where it holds none, the last one runs on exactly where its newest packet goes on.
abbrev pub AgreeingIsCut : Type 0
AgreeingIsCut = (setup : Setup) (place : ℕ) (view : WriterView) (writer : Writer) → WriterAgrees setup place view writer
    → HasCut writer.route.payload_size (place + 2) view.calls (images_so_far place view writer) (patches_so_far view writer) (held_images place writer.state)

-- The same under the ids that stand in the headers of the chunks and in the patches that are sent, of which the set-up has the first.
abbrev pub AgreeingIsCutFrom : Type 0
AgreeingIsCutFrom = (setup : Setup) (place : ℕ) (view : WriterView) (writer : Writer) → WriterAgrees setup place view writer
    → IsCutFrom writer.route.payload_size (place + 2) (from_of setup place) view.calls
    (map (named_image (from_of setup place)) (images_so_far place view writer))
    (map (named_patches (from_of setup place)) (patches_so_far view writer))

-- One that loses packets never stalls.
abbrev pub DropsNeverStall : Type 0
DropsNeverStall = (setup : Setup) (place : ℕ) (view : WriterView) (writer : Writer) → WriterAgrees setup place view writer
    → writer.route.spec.policy ≢ Stalls → is_stalled writer.state ≡ false

-- One that isn't stalled holds its newest chunk exactly where its newest packet isn't lost and no flush came behind it.
abbrev pub NewestIsHeld : Type 0
NewestIsHeld = (setup : Setup) (place : ℕ) (view : WriterView) (writer : Writer) → WriterAgrees setup place view writer
    → is_stalled writer.state ≡ false → last_is_held view.begun ≡ holds_newest (account_of view.calls)

-- One that isn't stalled keeps nothing back: all that it was asked to write of its newest packet, unless that is lost, stands in its
-- chunks.
abbrev pub NothingIsKeptBack : Type 0
NothingIsKeptBack = (setup : Setup) (place : ℕ) (view : WriterView) (writer : Writer) → WriterAgrees setup place view writer
    → is_stalled writer.state ≡ false
    → (cut : HasCut writer.route.payload_size (place + 2) view.calls (images_so_far place view writer) (patches_so_far view writer)
    (held_images place writer.state))
    × NewestIsWhole (packets_of view.calls) cut.cut.pages

-- What is held stands in the table's words: the header has the count and the flags of this image, and the bytes of all its fragments but
-- the last one were published.
pub record IsHeldImage (view : WriterView) (image : Image) : Type 0 where
  pub completed : List BegunChunk
  pub chunk : ℕ
  pub draft : Draft
  pub begun : view.begun ≡ completed ++ Held chunk draft ∷ []
  pub position : image.chunk_id ≡ length completed
  pub head : draft.head ≡ record { count = image.count; flags = image.flags }
  pub before : List (List ℕ)
  pub count : image.count ≡ length before + 1
  pub rest : List ℕ
  pub payload : image.payload ≡ frames before ++ rest
  pub bytes : (j : ℕ) → j < length (frames before) → byte_at draft.words j ≡ byte_in (frames before) j

-- What a writer holds as an image is published, but for its last fragment.
abbrev pub HeldIsPublished : Type 0
HeldIsPublished = (setup : Setup) (place : ℕ) (view : WriterView) (writer : Writer) → WriterAgrees setup place view writer
    → (image : Image) → held_images place writer.state ≡ image ∷ [] → IsHeldImage view image
