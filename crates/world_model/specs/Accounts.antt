-- An account of a table of chunks: what its seats' views say of it, between two steps, when each writer has cut its packets into
-- its chunks and the service noted what it did with these in order.
use Rattle.std.specs.Prelude.{◌≡◌, ℕ, suc, ◌+◌, ◌-◌, ◌%◌, ◌==◌, ◌<◌, Bool, true, false, List, [], ◌∷◌, ◌++◌, length, Some, slice_get, MatchBool}
use Rattle.trace_base.specs.declared.limits.TheConstants.{FIRST_SEQUENCE}
use Rattle.trace_model.specs.Fragments.{drop_size}
use Rattle.trace_model.specs.Images.{Image, Patch}
use Rattle.trace_model.specs.Packets.{packets_of, AreCalls}
use Rattle.trace_model.specs.Cut.{IsCut, last_runs_on, newest_goes_on}
use Rattle.chunk_plain.specs.Setup.{Setup, sequence_of}
use Rattle.chunk_plain.specs.Views.{Content, WriterView, Found, Noted, Arrive, Partial, Patched, Closed, Read, Commit, Committed, ServiceView}
use Rattle.chunk_plain.specs.World.{World, writer}
use Rattle.chunk_plain.specs.Owned.{IsOwned}
use Rattle.chunk_plain.specs.Histories.{completed_images, completed_patches, content_at, found_among}
use Rattle.world_model.specs.FirstBuffers.{payload_at}

-- Writers

-- what the writer completed, and what it holds as an image
abbrev pub all_images : WriterView → List Image → List Image
all_images view held = completed_images view.begun ++ held

-- The chunks of the writer at this place, the held one last, are a cut of the packets of its calls. The patches that weren't sent
-- yet count as those of the held chunk. Where none is held, the last chunk runs on exactly where the newest packet goes on.
pub record HasCut (size place : ℕ) (view : WriterView) (held : List Image) : Type 0 where
  pub unsent : List (List Patch)
  pub cut : IsCut size (sequence_of place) view.calls (all_images view held) (completed_patches view.begun ++ unsent)
  pub ends : held ≡ [] → last_runs_on false cut.pages ≡ newest_goes_on (packets_of view.calls)
  pub possible : AreCalls view.calls
  pub small : size < drop_size

-- The service

-- What was found of a chunk, while it was written, is a proper front of its image: its flag 1 is the image's, the payload begins
-- with the bytes that were found, and the image has more fragments than these.
pub record IsFrontOf (found : Found) (image : Image) : Type 0 where
  pub continues : found.head.flags % 2 ≡ image.flags % 2
  pub rest : List ℕ
  pub begins : image.payload ≡ found.sealed ++ rest
  pub some : 0 < length found.ends
  pub more : length found.ends < image.count

-- The note of a part of the chunk at this position stands on a look, which found so many fragments of it; and what was found is a
-- front of what the chunk's writer made of it, or has made so far.
pub record IsScraped (images : List Image) (service : ServiceView) (sequence position count : ℕ) : Type 0 where
  pub found : Found
  pub looked : found_among (sequence - FIRST_SEQUENCE) position count service.looks ≡ Some found
  pub image : Image
  pub there : slice_get images position ≡ Some image
  pub front : IsFrontOf found image

-- no image of the sequence came by this commit
abbrev pub CommitsElsewhere : ServiceView → (sequence place : ℕ) → Type 0
CommitsElsewhere service sequence place =
    (committed : Committed) → slice_get service.commits place ≡ Some committed → (committed.image.sequence == sequence) ≡ false

-- nothing of the sequence came by a commit
abbrev pub NoneCommitted : ServiceView → (sequence : ℕ) → Type 0
NoneCommitted service sequence = (place : ℕ) → CommitsElsewhere service sequence place

-- The notes on one sequence are in order: so many of its chunks have come, it is closed or not, and these patches are due next.
-- Its chunks come in the order of their positions, each once and with its content, and the patches of each right behind it. Parts of a
-- chunk come before it. Nothing of it comes behind its close, and nothing by a commit. What is noted on other sequences is free,
-- but that the patches which are due come first.
abbrev pub InOrder : List Image → ServiceView → (sequence come : ℕ) → (closed : Bool) → List Patch → List Noted → Type 0
InOrder images service sequence come closed due [] = due ≡ []
InOrder images service sequence come closed due (Arrive other position ∷ notes) =
    (due ≡ [])
    × MatchBool (other == sequence)
    ((closed ≡ false) × (position ≡ come) × (content : Content) × (content_at service sequence come ≡ Some content)
    × InOrder images service sequence (suc come) closed content.patches notes)
    (InOrder images service sequence come closed [] notes)
InOrder images service sequence come closed due (Partial other position count ∷ notes) =
    (due ≡ [])
    × MatchBool (other == sequence)
    ((closed ≡ false) × (position ≡ come) × IsScraped images service sequence come count
    × InOrder images service sequence come closed [] notes)
    (InOrder images service sequence come closed [] notes)
InOrder images service sequence come closed due (Patched other position ∷ notes) =
    MatchBool (other == sequence)
    ((content : Content) × (content_at service sequence position ≡ Some content) × (content.patches ≡ due)
    × InOrder images service sequence come closed [] notes)
    ((due ≡ []) × InOrder images service sequence come closed [] notes)
InOrder images service sequence come closed due (Commit place ∷ notes) =
    (due ≡ []) × CommitsElsewhere service sequence place × InOrder images service sequence come closed [] notes
InOrder images service sequence come closed due (Closed other ∷ notes) =
    (due ≡ [])
    × MatchBool (other == sequence)
    ((closed ≡ false) × InOrder images service sequence come true [] notes)
    (InOrder images service sequence come closed [] notes)
InOrder images service sequence come closed due (Read other limit ∷ notes) =
    (due ≡ []) × InOrder images service sequence come closed [] notes

-- The whole

-- A world whose chunks are owned, whose writers have cut their packets into chunks, as many as they began, and whose service noted in order
-- those of each writer in whose name nothing came by a commit.
pub record IsAccount (setup : Setup) (world : World) : Type 0 where
  pub owned : IsOwned world
  pub writers : length world.writers ≡ length setup.writers
  -- by writer: what it holds, as an image
  pub held : ℕ → List Image
  pub cuts : (place : ℕ) → place < length world.writers → HasCut (payload_at setup place) place (writer world place) (held place)
  -- each began as many chunks as it completed and holds: so one that began none holds nothing
  pub begun : (place : ℕ) → place < length world.writers
      → length (writer world place).begun ≡ length (completed_images (writer world place).begun) + length (held place)
  pub order : (place : ℕ) → place < length world.writers → NoneCommitted world.service (sequence_of place)
      → InOrder (all_images (writer world place) (held place)) world.service (sequence_of place) 0 false [] world.service.events
