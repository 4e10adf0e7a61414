-- What each seat of a table of chunks knows: its view. A view is a history of what the seat did, with what it still holds. No value of it
-- exists when the program runs. Writers are told apart by their place in the list that the table was made with, counted from 0.
use Rattle.std.specs.Prelude.{◌≡◌, ℕ, ◌+◌, Bool, Option, None, List, [], ◌∷◌, slice_index_or}
use mathlib.Core.Option.{some}
use lib.ListN.{get_elem?}
use Rattle.trace_model.specs.Calls.{Call}
use Rattle.trace_model.specs.Images.{Image, Patch}

-- the list has this element at this place
abbrev pub At : {A : Type 0} → List A → ℕ → A → Type 0
At xs i x = get_elem? xs i ≡ some x

-- Writers

-- a claim that a writer tried
pub record Ask : Type 0 where
  pub chunk : ℕ
  -- the page word that it found
  pub found : ℕ
  -- the chunk's claim bit was clear there
  pub won : Bool
  -- how many calls the writer had noted by then
  pub calls : ℕ

-- what the header of a chunk says besides its writer and the chunk's id
pub record Head : Type 0 where
  pub count : ℕ
  pub flags : ℕ

-- the head of a chunk that was just begun
abbrev pub no_head : Head
no_head = record { count = 0; flags = 0 }

-- What stands in a chunk that is written: its header, its payload words, and the ends of the fragments before the last one counted. Its
-- writer knows a word by what it published; a word that it didn't publish is in its view without its knowing the value.
pub record Draft : Type 0 where
  pub head : Head
  pub words : List ℕ
  pub ends : List ℕ

-- a chunk as it is begun, with the words that stand in it
abbrev pub fresh : List ℕ → Draft
fresh words = record { head = no_head; words = words; ends = [] }

-- a draft of nothing
abbrev pub no_draft : Draft
no_draft = fresh []

-- a completed chunk, whole: its image, and the patches and the target in its commit body; image and patches name chunks by their positions
pub record Content : Type 0 where
  pub image : Image
  pub patches : List Patch
  pub target : ℕ

-- what became of a chunk that a writer began: the writer holds it, and this stands in it; or has completed it
pub data BegunChunk : Type 0 where
  Held : (chunk : ℕ) → Draft → BegunChunk
  Completed : (chunk : ℕ) → Content → BegunChunk

-- which chunk it is
abbrev pub chunk_of : BegunChunk → ℕ
chunk_of (Held chunk draft) = chunk
chunk_of (Completed chunk content) = chunk

-- a claimed chunk whose header is stored with the id of this position, and which isn't begun yet
pub record Stamp : Type 0 where
  pub chunk : ℕ
  pub position : ℕ

-- an answer of a writer to a flush request: to this one and those before it, with so many chunks completed and so many calls noted by then
pub record Reply : Type 0 where
  pub flush : ℕ
  pub chunks : ℕ
  pub calls : ℕ

-- what a writer knows of flush requests: how many were made, of those that it heard of; and its answers, in their order
pub record Letters : Type 0 where
  pub known : ℕ
  pub answers : List Reply

-- a writer that heard of no request
abbrev pub no_letters : Letters
no_letters = record { known = 0; answers = [] }

-- what a writer's seat has done
pub record WriterView : Type 0 where
  -- its claims, in their order
  pub asked : List Ask
  -- the chunks that it claimed, and whose header it hasn't stored
  pub claimed : List ℕ
  pub stamped : Option Stamp
  -- the chunks that it began; the position of each is its place here
  pub begun : List BegunChunk
  -- the calls that it noted
  pub calls : List Call
  pub letters : Letters

-- the view of a seat that has done nothing
abbrev pub newcomer : WriterView
newcomer = record { asked = []; claimed = []; stamped = None; begun = []; calls = []; letters = no_letters }

-- The service

-- the chunks of one writer that the service took, whose positions are 0 and up
pub record Taken : Type 0 where
  pub count : ℕ
  -- each one's content, from the last step of its take on
  pub contents : List Content

-- nothing was taken of the writer
abbrev pub none_taken : Taken
none_taken = record { count = 0; contents = [] }

-- A chunk that was found being written: by which writer and at which position, its header, the ends of the fragments before the last one
-- counted, and the bytes of these fragments as they stood.
pub record Found : Type 0 where
  pub place : ℕ
  pub position : ℕ
  pub head : Head
  pub ends : List ℕ
  pub sealed : List ℕ

-- what the service found at a chunk
pub record Look : Type 0 where
  pub chunk : ℕ
  -- its page word and its header word
  pub word : ℕ
  pub header : ℕ
  -- what stood in it, where it was being written
  pub found : Option Found
  -- how many chunks of each writer were taken by then
  pub taken : List ℕ

-- an event of the service as it was noted: chunks are named by their positions
pub data Noted : Type 0 where
  Arrive : (sequence position : ℕ) → Noted
  -- the first fragments of a chunk, so many
  Partial : (sequence position limit : ℕ) → Noted
  Patched : (sequence position : ℕ) → Noted
  Closed : (sequence : ℕ) → Noted
  Read : (sequence limit : ℕ) → Noted
  -- an image came by a commit: it has this place among the commits
  Commit : (place : ℕ) → Noted

-- an image that came by a commit, and the patches given with it, which name chunks by their positions
pub record Committed : Type 0 where
  pub image : Image
  pub patches : List Patch

-- What the service did for flush requests: it made the next one, behind so many events; or it read of the writer at this place this answer,
-- where 0 is the number of none.
pub data Letter : Type 0 where
  Asked : (events : ℕ) → Letter
  Heard : (place flush chunks : ℕ) → Letter

-- how many requests it made
abbrev pub asked_in : List Letter → ℕ
asked_in [] = 0
asked_in (Asked events ∷ letters) = asked_in letters + 1
asked_in (Heard place flush chunks ∷ letters) = asked_in letters

-- what the service's seat has done
pub record ServiceView : Type 0 where
  pub looks : List Look
  -- by writer
  pub taken : List Taken
  -- the chunks that it is reading
  pub reading : List ℕ
  pub events : List Noted
  pub commits : List Committed
  -- what it did for flush requests, in its order
  pub letters : List Letter

-- what was taken of a writer
abbrev pub taken_of : ServiceView → ℕ → Taken
taken_of service writer = slice_index_or service.taken writer none_taken

-- the service before its first step, where nothing was taken of any writer
abbrev pub newcomer_service : ServiceView
newcomer_service = record { looks = []; taken = []; reading = []; events = []; commits = []; letters = [] }
