-- Worked streams. One meets all that the laws ask: three packets in three chunks, of which the second is given up while a length of it is
-- open; its third chunk is committed first, and the buffer has just the bytes for three records. Of two others a premise is broken, and what
-- the laws say of them is false.
use Rattle.std.specs.Prelude.{◌≡◌, ℕ, ◌*◌, ◌≤◌, true, false, List, [], ◌∷◌, ◌++◌, reverse, All, IsPermutation}
use Rattle.trace_base.specs.declared.policy.FullPolicy.TheVariants.{Ring}
use Rattle.trace_model.specs.Buffers.{Buffer, empty_buffer}
use Rattle.trace_model.specs.Calls.{Call, Begun, Number}
use Rattle.trace_model.specs.Cut.{CutsInto, last_runs_on, newest_goes_on}
use Rattle.trace_model.specs.History.{Event, Committed, Closed, delivered_to, reads_of, state_after}
use Rattle.trace_model.specs.Packets.{emissions_of, packets_of, AreCalls}
use Rattle.trace_model.specs.Pages.{Page, image_of}
use Rattle.trace_model.specs.Sequences.{fresh}
use Rattle.trace_model.specs.Tells.{Tells}
use Rattle.trace_model.specs.Walks.{is_accepted}
use Rattle.trace_model.specs.WorkedRows.{no_limit}
use Rattle.trace_model.specs.WorkedWriters.{given_up_calls, given_up_pages, number_page, patched_calls, patched_pages}
use Rattle.commit_laws.specs.Commits.{AreByCommits, ComesByCommits, LastsComeLast, NoneIsRefused, PatchesComeBehind, commits_in, page_commits}
use Rattle.commit_laws.specs.CommitHistories.{patches_to}
use Rattle.commit_laws.specs.Complete.{IsReadOut, TellsAt, commits_to, kept_bodies, kept_places, largest_record}
use Rattle.commit_laws.specs.StreamLaws.{records_in}
use Rattle.commit_laws.specs.Streams.{IsCompletedCut, IsStreamOf}

-- the commit of a page, with the patches of its body
abbrev pub commit_of : ℕ → Page → Event
commit_of chunk_id page = Committed (image_of 2 chunk_id page) page.patches

-- the third of three pages, and then the first and the second
abbrev pub third_first : List Page → List Event
third_first (first ∷ second ∷ third ∷ []) = commit_of 2 third ∷ commit_of 0 first ∷ commit_of 1 second ∷ []
third_first pages = []

-- the second of two pages, and then the first
abbrev pub second_first : List Page → List Event
second_first (first ∷ second ∷ []) = commit_of 1 second ∷ commit_of 0 first ∷ []
second_first pages = []

-- so many bytes for two sequences of which nothing has come
abbrev pub ring_with : ℕ → ℕ → Buffer
ring_with room size = empty_buffer room Ring (fresh 2 size 0 ∷ fresh 3 size 0 ∷ [])

-- the commits, and then the closes
abbrev pub closed_behind : List Event → List Event
closed_behind commits = commits ++ Closed 2 ∷ Closed 3 ∷ []

-- and then the whole buffer is read
abbrev pub read_behind : Buffer → List Event → List Event
read_behind buffer commits = closed_behind commits ++ reads_of no_limit (state_after buffer (closed_behind commits)) (2 ∷ 3 ∷ [])

-- a buffer of just three records
abbrev pub mixed_buffer : Buffer
mixed_buffer = ring_with 6192 2064

-- of the writer that gives its second packet up, the third page, then the first and the second, and then the end
abbrev pub mixed_events : List Event
mixed_events = read_behind mixed_buffer (third_first given_up_pages)

-- A stream in another order than its writer's that meets what the laws ask. What its third page brings is delivered behind what the first one does,
-- and only the packet that was given up is absent.
pub record WorkedStream : Type 0 where
  pub stream : IsStreamOf 2036 given_up_calls given_up_pages 2 mixed_buffer mixed_events
  pub passes : All (λ (body : List ℕ). is_accepted body ≡ true) (kept_bodies (reverse (packets_of given_up_calls)))
  pub by_commits : AreByCommits mixed_events
  pub bytes : commits_to mixed_buffer.sequences mixed_events * largest_record mixed_buffer.sequences ≤ mixed_buffer.room
  pub read : IsReadOut 2 mixed_buffer mixed_events
  pub places : kept_places 0 (reverse (packets_of given_up_calls)) ≡ 0 ∷ 2 ∷ []
  pub delivered : delivered_to 2 mixed_buffer mixed_events
      ≡ record { body = 0x40 ∷ 0x01 ∷ []; marked = true }
      ∷ record { body = 0xD0 ∷ 0x02 ∷ 0x01 ∷ 0x40 ∷ 0x02 ∷ []; marked = true } ∷ []

-- a packet that isn't finished, with a number field so far
abbrev pub held_calls : List Call
held_calls = Begun true ∷ Number 8 5 ∷ []

-- what is written of it, as the image of a chunk that is still held: a cut, without flag 2
abbrev pub held_pages : List Page
held_pages = number_page 5 278 ∷ []

-- a buffer with more than enough
abbrev pub held_buffer : Buffer
held_buffer = ring_with 608 304

-- that image is committed, and then the end
abbrev pub held_events : List Event
held_events = read_behind held_buffer (commit_of 0 (number_page 5 278) ∷ [])

-- Such a stream lacks only that its last page runs on as its newest packet goes on; and a packet is delivered that was not emitted.
pub record WorkedHeld : Type 0 where
  pub possible : AreCalls held_calls
  pub cut : CutsInto 284 (packets_of held_calls) held_pages
  pub each_once : IsPermutation (commits_in 2 held_events) (page_commits 2 0 held_pages)
  pub only : ComesByCommits 2 false held_events
  pub accepted : NoneIsRefused 2 held_buffer held_events
  pub behind : PatchesComeBehind [] (commits_in 2 held_events)
  pub lasts : LastsComeLast (patches_to 2 held_events)
  pub stays : last_runs_on false held_pages ≡ false
  pub goes_on : newest_goes_on (packets_of held_calls) ≡ true
  pub untold : Tells (emissions_of held_calls) 2 (records_in 2 (delivered_to 2 held_buffer held_events)) → ⊥

-- a buffer of just two records
abbrev pub early_buffer : Buffer
early_buffer = ring_with 608 304

-- the page that brings the patch, then the one that the patch names, and then the end
abbrev pub early_events : List Event
early_events = read_behind early_buffer (second_first patched_pages)

-- Such a stream lacks only that the patch comes behind; it is lost, and so is its packet.
pub record WorkedEarly : Type 0 where
  pub cut : IsCompletedCut 284 patched_calls patched_pages
  pub each_once : IsPermutation (commits_in 2 early_events) (page_commits 2 0 patched_pages)
  pub only : ComesByCommits 2 false early_events
  pub accepted : NoneIsRefused 2 early_buffer early_events
  pub before : PatchesComeBehind [] (commits_in 2 early_events) → ⊥
  pub lasts : LastsComeLast (patches_to 2 early_events)
  pub passes : All (λ (body : List ℕ). is_accepted body ≡ true) (kept_bodies (reverse (packets_of patched_calls)))
  pub by_commits : AreByCommits early_events
  pub bytes : commits_to early_buffer.sequences early_events * largest_record early_buffer.sequences ≤ early_buffer.room
  pub read : IsReadOut 2 early_buffer early_events
  pub incomplete :
      TellsAt (emissions_of patched_calls) 2 true 0 (kept_places 0 (reverse (packets_of patched_calls)))
      (records_in 2 (delivered_to 2 early_buffer early_events))
      → ⊥
