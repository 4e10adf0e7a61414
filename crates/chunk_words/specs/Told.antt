-- What writers told the service, and what its looks show of that.
use Rattle.std.specs.Prelude.{◌≡◌, ℕ, ◌+◌, ◌^◌, ◌<◌, ◌≤◌, List, slice_index_or}
use Rattle.page_geometry.specs.declared.chunk_state.ChunkState.TheVariants.{Complete}
use Rattle.page_geometry.specs.declared.chunk_header.ChunkHeader.{ChunkHeader}
use Rattle.page_geometry.specs.Header.{packed}
use Rattle.page_geometry.specs.PageBits.{HasState}
use Rattle.chunk_plain.specs.Setup.{Setup, spot, id_at}
use Rattle.chunk_plain.specs.Views.{At, Head, Content, BegunChunk, Completed, Look, ServiceView, taken_of}
use Rattle.chunk_plain.specs.World.{World, writer}
use Rattle.chunk_plain.specs.Owned.{IsOwned}
use Rattle.chunk_plain.specs.Shows.{IsHeader}
use Rattle.chunk_plain.specs.Plain.{first_world}
use Rattle.chunk_schedules.specs.Schedules.{Leads}
use Rattle.chunk_words.specs.Knows.{Tale, Desk, with_mark}

-- what was completed is completed still, as it was
abbrev pub StaysCompleted : List BegunChunk → List BegunChunk → Type 0
StaysCompleted was is = (position chunk : ℕ) (content : Content) → At was position (Completed chunk content)
    → At is position (Completed chunk content)

-- the look found its chunk complete, with this writer and the id of this position in its header
pub record ShowsComplete (setup : Setup) (place position : ℕ) (look : Look) : Type 0 where
  pub complete : HasState look.word (spot setup look.chunk).place Complete
  pub head : Head
  pub header : IsHeader setup look.header place position head

-- Each look since the tale at a chunk that it tells of shows the chunk complete, as long as its position isn't taken.
abbrev pub ShowsTold : Setup → ServiceView → Tale → Type 0
ShowsTold setup view tale = (n position : ℕ) (look : Look) (content : Content) → tale.looks ≤ n → At view.looks n look
    → At tale.begun position (Completed look.chunk content) → slice_index_or look.taken tale.place 0 ≤ position
    → ShowsComplete setup tale.place position look

-- and so do all looks of all that was told
abbrev pub ShowsAllTold : Setup → ServiceView → Desk → Type 0
ShowsAllTold setup view desk = (i : ℕ) (tale : Tale) → At desk.told i tale → ShowsTold setup view tale

-- The service has marked the world of the table: its own view is there what it knows, each chunk is owned by one, a schedule of steps leads
-- there from a table as it is made, and what writers told that they completed they have completed there.
pub record IsMarked (setup : Setup) (view : ServiceView) (old new : Desk) : Type 0 where
  pub world : World
  pub desk_is : new ≡ with_mark old world
  pub view_is : world.service ≡ view
  pub owned : IsOwned world
  pub reached : Leads setup (first_world setup) world
  pub told : (i : ℕ) (tale : Tale) → At old.told i tale → StaysCompleted tale.begun (writer world tale.place).begun

-- The page word shows the chunk complete, where it was told so and its position isn't taken.
abbrev pub TellsComplete : Setup → (chunk word : ℕ) → ServiceView → Desk → Type 0
TellsComplete setup chunk word view desk = (i position : ℕ) (tale : Tale) (content : Content) → At desk.told i tale
    → At tale.begun position (Completed chunk content)
    → (taken_of view tale.place).count ≤ position → HasState word (spot setup chunk).place Complete

-- A look since the tale shows that the chunk isn't the next one to be taken of this writer, of which so many were taken then: it found
-- another state than complete, or another writer or another id in its header.
pub record PassesOver (setup : Setup) (view : ServiceView) (tale : Tale) (count chunk : ℕ) : Type 0 where
  pub n : ℕ
  pub look : Look
  pub header : ChunkHeader
  pub since : tale.looks ≤ n
  pub at : At view.looks n look
  pub chunk_is : look.chunk ≡ chunk
  pub taken : slice_index_or look.taken tale.place 0 ≡ count
  pub header_is : look.header ≡ packed header
  pub id_fits : header.chunk_id < 2 ^ 32
  pub writer_fits : header.writer_id < 2 ^ 16
  pub other : HasState look.word (spot setup look.chunk).place Complete → header.writer_id ≡ tale.place + 1
      → header.chunk_id ≡ id_at setup tale.place count → ⊥
