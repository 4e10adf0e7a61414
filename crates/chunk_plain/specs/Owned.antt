-- Ownership in a world: who has each chunk, between any two steps. It is said as facts on one writer and one chunk, on one writer, and on
-- one chunk. Since each status names one writer and one position, that exactly one seat has a chunk is then true by the form.
use Rattle.std.specs.Prelude.{◌≡◌, ℕ, ◌+◌, ◌<◌, ◌≤◌, ◌==◌, true, false, Option, Some, None, List, [], ◌∷◌, length, map, slice_index_or, if◌then◌else◌}
use Rattle.chunk_plain.specs.Setup.{sequence_of}
use Rattle.chunk_plain.specs.Views.{At, Ask, Draft, Content, BegunChunk, chunk_of, Held, Completed, Stamp, WriterView, newcomer, Taken, Look, Found, taken_of}
use Rattle.chunk_plain.specs.World.{World, Status, Unclaimed, Claimed, Stamped, Writing, Ready, Reading, status, writer}
use Rattle.chunk_plain.specs.Drafts.{IsDraft, HasFinished, IsFound, IsThere}

-- how often the number stands in the list
abbrev pub times : ℕ → List ℕ → ℕ
times x [] = 0
times x (y ∷ ys) = if y == x then times x ys + 1 else times x ys

-- how often a writer's view has a chunk of this status as claimed
abbrev pub claims_of : ℕ → Status → ℕ
claims_of place (Claimed other) = if other == place then 1 else 0
claims_of place _ = 0

-- how often the service's view has a chunk of this status as being read
abbrev pub reads_of : Status → ℕ
reads_of (Reading place position content) = 1
reads_of _ = 0

-- One writer and one chunk: the writer's view has the chunk in just the way that its status says. So many chunks of this writer are taken.
pub record Owns (count place : ℕ) (view : WriterView) (chunk : ℕ) (is : Status) : Type 0 where
  -- claimed, once
  pub claimed : times chunk view.claimed ≡ claims_of place is
  pub stamp_is : (position : ℕ) → view.stamped ≡ Some (record { chunk = chunk; position = position }) → is ≡ Stamped place position
  pub stamped_is : (position : ℕ) → is ≡ Stamped place position → view.stamped ≡ Some (record { chunk = chunk; position = position })
  -- held, at one position and with one draft
  pub held_is : (position : ℕ) (draft : Draft) → At view.begun position (Held chunk draft) → is ≡ Writing place position draft
  pub writing_is : (position : ℕ) (draft : Draft) → is ≡ Writing place position draft → At view.begun position (Held chunk draft)
  -- completed and not taken: the chunk has this content
  pub completed_is : (position : ℕ) (content : Content) → At view.begun position (Completed chunk content) → count ≤ position
      → is ≡ Ready place position content
  pub ready_is : (position : ℕ) (content : Content) → is ≡ Ready place position content
      → At view.begun position (Completed chunk content) × (count ≤ position)
  -- taken, and still read
  pub reading_is : (position : ℕ) (content : Content) → is ≡ Reading place position content
      → At view.begun position (Completed chunk content) × (position < count)

-- the chunk whose header is stored and which isn't begun yet, if there is one
abbrev pub stamped_chunks : Option Stamp → List ℕ
stamped_chunks None = []
stamped_chunks (Some stamp) = stamp.chunk ∷ []

-- how many chunks a writer holds
abbrev pub held_count : List BegunChunk → ℕ
held_count [] = 0
held_count (Held chunk draft ∷ begun) = held_count begun + 1
held_count (Completed chunk content ∷ begun) = held_count begun

-- the chunks that the claims won, in their order
abbrev pub won_chunks : List Ask → List ℕ
won_chunks [] = []
won_chunks (ask ∷ asks) = if ask.won then ask.chunk ∷ won_chunks asks else won_chunks asks

-- One writer: its positions are those of the chunks that it began, and the service took the first ones of them.
pub record Counts (taken : Taken) (place : ℕ) (view : WriterView) : Type 0 where
  -- each claim that it won is of a chunk that it has claimed or whose header it stored, or of one that it began at a position of its own:
  -- of each chunk there are as many of these as of those
  pub wins : (chunk : ℕ) → times chunk (won_chunks view.asked)
      ≡ times chunk view.claimed + times chunk (stamped_chunks view.stamped) + times chunk (map chunk_of view.begun)
  pub next : (stamp : Stamp) → view.stamped ≡ Some stamp → stamp.position ≡ length view.begun
  -- a completed chunk's image has its position and the writer's sequence
  pub named : (position chunk : ℕ) (content : Content) → At view.begun position (Completed chunk content)
      → (content.image.chunk_id ≡ position) × (content.image.sequence ≡ sequence_of place)
  -- the bytes of each chunk read as its finished fragments
  pub drafts : (position chunk : ℕ) (draft : Draft) → At view.begun position (Held chunk draft) → IsDraft draft
  pub wholes : (position chunk : ℕ) (content : Content) → At view.begun position (Completed chunk content) → HasFinished content
  pub completed : (position : ℕ) → position < taken.count
      → (chunk : ℕ) × (content : Content) × At view.begun position (Completed chunk content)
  -- the contents that the service has are those that the writer completed
  pub learnt : (position : ℕ) (content : Content) → At taken.contents position content
      → (chunk : ℕ) × At view.begun position (Completed chunk content)
  pub level : length taken.contents ≤ taken.count

-- some writer's claim won the chunk
abbrev pub Won : World → ℕ → Type 0
Won world chunk = (place i : ℕ) × (ask : Ask) × At (writer world place).asked i ask × (ask.won ≡ true) × (ask.chunk ≡ chunk)

-- a claim, and the place of the writer that tried it
pub record AskOf : Type 0 where
  pub place : ℕ
  pub ask : Ask

-- one writer's claims among those of all, in their order
abbrev pub asks_of : ℕ → List AskOf → List Ask
asks_of place [] = []
asks_of place (one ∷ asks) = if one.place == place then one.ask ∷ asks_of place asks else asks_of place asks

-- one of the claims before this place won the chunk
abbrev pub WonBefore : List AskOf → (n chunk : ℕ) → Type 0
WonBefore asks n chunk = (m : ℕ) × (one : AskOf) × At asks m one × (m < n) × (one.ask.won ≡ true) × (one.ask.chunk ≡ chunk)

-- The claims of all writers stand in one order, each writer's own as they stand in its view. Before each claim in vain there stands one
-- that won the same chunk: so the first claim of a chunk, whoever tried it, won.
pub record AreInOrder (writers : List WriterView) : Type 0 where
  pub order : List AskOf
  pub each : (place : ℕ) → (slice_index_or writers place newcomer).asked ≡ asks_of place order
  pub won_before : (n : ℕ) (one : AskOf) → At order n one → one.ask.won ≡ false → WonBefore order n one.ask.chunk

-- each chunk is owned by exactly one, as a table keeps it between two steps
pub record IsOwned (world : World) : Type 0 where
  pub owns : (place chunk : ℕ) → Owns (taken_of world.service place).count place (writer world place) chunk (status world chunk)
  pub counts : (place : ℕ) → Counts (taken_of world.service place) place (writer world place)
  pub reads : (chunk : ℕ) → times chunk world.service.reading ≡ reads_of (status world chunk)
  -- a chunk that somebody has was won
  pub claimed_won : (chunk : ℕ) → (status world chunk ≡ Unclaimed → ⊥) → Won world chunk
  -- so was one that somebody claimed in vain, and before that claim
  pub ordered : AreInOrder world.writers
  -- what the service found of a chunk that was being written is there still, taken or not
  pub looks : (n : ℕ) (look : Look) (found : Found) → At world.service.looks n look → look.found ≡ Some found
      → IsFound found × IsThere (writer world found.place) look.chunk found
  pub all_taken : length world.service.taken ≡ length world.writers
