-- What a table keeps that threads share, between any two atomic steps of any seats: its words and slots are those of a table of one thread
-- that keeps its world owned, and each seat's view is its part of that world.
use Rattle.std.specs.Prelude.{◌≡◌, ◌≢◌, ℕ, ◌+◌, ◌*◌, ◌^◌, ◌<◌, ◌≤◌, Option, List, length, slice_index_or}
use mathlib.Core.Option.{some}
use lib.ListN.{get_elem?}
use Rattle.atomic_table.specs.Table.{State}
use Rattle.commit_body.specs.declared.body.CommitBody.{CommitBody}
use Rattle.page_geometry.specs.declared.chunk_state.ChunkState.TheVariants.{BeingWritten, Complete}
use Rattle.page_geometry.specs.PageBits.{HasState}
use Rattle.chunk_plain.specs.Setup.{Setup, IsLaid, spot}
use Rattle.chunk_plain.specs.Views.{At, Reply, WriterView, asked_in, ServiceView, newcomer}
use Rattle.chunk_plain.specs.World.{World, Status, Claimed, Stamped, Writing, Ready, Reading, status, writer}
use Rattle.chunk_plain.specs.Letters.{last_reply, last_flush, AreLetters}
use Rattle.chunk_plain.specs.Drafts.{head_of}
use Rattle.chunk_plain.specs.Stored.{Stored, stored_at}
use Rattle.chunk_plain.specs.Shows.{IsHeader}
use Rattle.chunk_plain.specs.Plain.{IsKept, first_world}
use Rattle.chunk_schedules.specs.Schedules.{IsLed}
use Rattle.chunk_words.specs.Knows.{Watch, Nothing, Peeked, Known, Lifted, Stage, Unmade, Away, Here, Tale, Desk, first_desk, Knows, Spent, Writer, Service, Pass, Report, Notice, hand_with}
use Rattle.chunk_words.specs.Told.{StaysCompleted, ShowsTold}
use Rattle.chunk_words.specs.GoesOn.{GoesOn}
use Rattle.chunk_words.specs.Places.{front_place, front_count, payload_start, payload_words, request_place, answer_place, word_total}

-- The words of the table are the page and header words in front, each at its place, and behind them the payload words of each chunk.
-- Nothing is said of the words between those in front.
pub record HoldsWords (setup : Setup) (words front : List ℕ) (slots : List Stored) : Type 0 where
  pub total : length words ≡ word_total setup
  pub front_is : (index : ℕ) → index < front_count setup → slice_index_or words (front_place index) 0 ≡ slice_index_or front index 0
  pub count : (chunk : ℕ) → chunk < length setup.spots → length (stored_at slots chunk).words ≡ payload_words setup chunk
  pub payload_is : (chunk index : ℕ) → chunk < length setup.spots → index < payload_words setup chunk
      → slice_index_or words (payload_start setup chunk + index) 0 ≡ slice_index_or (stored_at slots chunk).words index 0

-- an answer in a word: the number of the request above the number of chunks, which has 32 bits; 0 without an answer
abbrev pub answer_word : List Reply → ℕ
answer_word replies = last_flush replies * 2 ^ 32 + (last_reply replies).chunks

-- The words of letters: that of requests has their number, and each writer's has its last answer.
pub record HoldsMail (setup : Setup) (world : World) (words : List ℕ) : Type 0 where
  pub letters : AreLetters world
  pub few : asked_in world.service.letters < 2 ^ 32
  pub request : slice_index_or words (request_place setup) 0 ≡ asked_in world.service.letters
  pub answer : (place : ℕ) → place < length setup.writers
      → slice_index_or words (answer_place setup place) 0 ≡ answer_word (writer world place).letters.answers

-- Who sits where: the seat of each writer and of the service, whose slots are out with them, how many writers' seats were made, and how
-- many of these the service took in again; where the reading pass is, its seat, and what it knows.
pub record Roll : Type 0 where
  pub seats : ℕ → ℕ
  pub server : ℕ
  pub hands : ℕ → ℕ
  pub hand : ℕ
  pub made : ℕ
  pub joined : ℕ
  pub stage : Stage
  pub keeper : ℕ
  pub passed : ServiceView
  -- the worlds that the service marked, in their order
  pub marks : List World

-- the slot of a chunk is with no seat
pub record IsIn (roll : Roll) (chunk : ℕ) : Type 0 where
  pub with_none : (place : ℕ) → roll.hands place ≢ hand_with chunk
  pub not_service : roll.hand ≢ hand_with chunk

-- each slot that is with no seat has the body that its chunk keeps
pub record HoldsBodies (setup : Setup) (homes : List (mathlib.Core.Option.Option (Option CommitBody))) (slots : List Stored) (roll : Roll) : Type 0 where
  pub count : length homes ≡ length setup.spots
  pub home_is : (chunk : ℕ) → chunk < length setup.spots → IsIn roll chunk
      → get_elem? homes chunk ≡ some (some (stored_at slots chunk).body)

-- the writer may have the slot of a chunk with this status
abbrev pub IsOf : ℕ → Status → Type 0
IsOf place (Claimed other) = other ≡ place
IsOf place (Stamped other position) = other ≡ place
IsOf place (Writing other position draft) = other ≡ place
IsOf place _ = ⊥

-- the service may have it
abbrev pub IsRead : Status → Type 0
IsRead (Reading place position content) = Unit {0}
IsRead _ = ⊥

-- a writer writes the chunk, or has completed it
abbrev pub IsStarted : Status → Type 0
IsStarted (Writing place position draft) = Unit {0}
IsStarted (Ready place position content) = Unit {0}
IsStarted _ = ⊥

-- the chunk is complete
abbrev pub IsCompleteChunk : Status → Type 0
IsCompleteChunk (Ready place position content) = Unit {0}
IsCompleteChunk _ = ⊥

-- the chunk is complete, and this is its header word
abbrev pub HasHeader : Setup → ℕ → Status → Type 0
HasHeader setup header (Ready place position content) = IsHeader setup header place position (head_of content)
HasHeader setup header _ = ⊥

-- What a page word said of the chunk at this place is so still: one that was being written is so or is complete, and one that was complete
-- is complete.
pub record StaysFound (word place : ℕ) (is : Status) : Type 0 where
  pub started : HasState word place BeingWritten → IsStarted is
  pub complete : HasState word place Complete → IsCompleteChunk is

-- what the service found is so still
abbrev pub IsWatched : Setup → World → Watch → Type 0
IsWatched setup world Nothing = Unit {0}
IsWatched setup world (Peeked chunk word) = StaysFound word (spot setup chunk).place (status world chunk)
IsWatched setup world (Known chunk word header) = HasHeader setup header (status world chunk)
IsWatched setup world (Lifted chunk place position content) = status world chunk ≡ Reading place position content

-- these are the views of the first writers, which have no slot
pub record HasJoined (world : World) (roll : Roll) (joined : List WriterView) : Type 0 where
  pub count : length joined ≡ roll.joined
  pub each : (place : ℕ) (view : WriterView) → At joined place view → (view ≡ writer world place) × (roll.hands place ≡ 0)

-- What was told is so still, and the looks since show it. The last answer is to this request or a later one.
abbrev pub IsTrue : Setup → World → Tale → Type 0
IsTrue setup world tale = StaysCompleted tale.begun (writer world tale.place).begun × ShowsTold setup world.service tale
    × (tale.flush ≤ last_flush (writer world tale.place).letters.answers)

-- there is a reading pass
abbrev pub IsMade : Stage → Type 0
IsMade Unmade = ⊥
IsMade _ = Unit {0}

-- a seat knows its part of the world
abbrev pub Fits : Setup → World → Roll → ℕ → Knows → Type 0
Fits setup world roll seat Spent = Unit {0}
Fits setup world roll seat (Writer place hand view) =
    (view ≡ writer world place) × (roll.seats place ≡ seat) × (roll.hands place ≡ hand) × (place < roll.made) × (roll.joined ≤ place)
Fits setup world roll seat (Service hand made desk watch view) =
    (view ≡ world.service) × (roll.server ≡ seat) × (roll.hand ≡ hand) × (roll.made ≡ made) × HasJoined world roll desk.joined
    × IsWatched setup world watch
    × (roll.stage ≡ desk.stage) × ((i : ℕ) (tale : Tale) → At desk.told i tale → IsTrue setup world tale)
    × (roll.marks ≡ desk.marks)
Fits setup world roll seat (Pass view) = (view ≡ roll.passed) × (roll.keeper ≡ seat) × (roll.stage ≡ Away)
Fits setup world roll seat (Report place begun flush) =
    StaysCompleted begun (writer world place).begun × (flush ≤ last_flush (writer world place).letters.answers)
Fits setup world roll seat (Notice requests) = requests ≤ asked_in world.service.letters

-- each writer and the service have one seat, which knows its part of the world
pub record IsManned (setup : Setup) (world : World) (roll : Roll) (views : List Knows) : Type 0 where
  pub most : roll.made ≤ length world.writers
  pub least : roll.joined ≤ roll.made
  -- a writer whose seat isn't made yet has done nothing
  pub fresh : (place : ℕ) → roll.made ≤ place → (writer world place ≡ newcomer) × (roll.hands place ≡ 0)
  pub seated : (place : ℕ) → roll.joined ≤ place → place < roll.made
      → At views (roll.seats place) (Writer place (roll.hands place) (writer world place))
  pub staffed : (desk : Desk) × (watch : Watch) × At views roll.server (Service roll.hand roll.made desk watch world.service)
  pub each : (seat : ℕ) (knows : Knows) → At views seat knows → Fits setup world roll seat knows
  -- a slot that is out is that of a chunk which the seat has
  pub handed : (place chunk : ℕ) → roll.hands place ≡ hand_with chunk → IsOf place (status world chunk)
  pub lifted : (chunk : ℕ) → roll.hand ≡ hand_with chunk → IsRead (status world chunk)
  -- the service's view goes on from that of the reading pass, without a read
  pub goes_on : IsMade roll.stage → GoesOn roll.passed world.service
  pub here : (view : ServiceView) → roll.stage ≡ Here view → view ≡ roll.passed

-- the rule of a table that threads share
pub record IsShared (setup : Setup) (state : State (Option CommitBody) Knows) : Type 0 where
  pub world : World
  pub front : List ℕ
  pub slots : List Stored
  pub roll : Roll
  pub laid : IsLaid setup
  pub kept : IsKept setup front slots world
  -- a schedule of moves leads to the world from a table as it is made, and from each world that the service marked
  pub led : IsLed setup roll.marks world
  pub words : HoldsWords setup state.words front slots
  pub mail : HoldsMail setup world state.words
  pub bodies : HoldsBodies setup state.homes slots roll
  pub manned : IsManned setup world roll state.views

-- the service's seat, which is there first: it makes the others
abbrev pub first_of : Setup → Knows
first_of setup = Service 0 0 first_desk Nothing (first_world setup).service
