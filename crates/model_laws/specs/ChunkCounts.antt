-- How many chunks a writer begins: no more than its packets ask for, whatever was dropped. An image that runs on carries all
-- its payload but at most seven bytes of the packet: four for the fragment's size, and three before a nested length.
use Rattle.std.specs.Prelude.{◌≡◌, ℕ, ◌+◌, ◌<◌, ◌≤◌, true, false, List, [], ◌∷◌, ◌++◌, length}
use Rattle.trace_model.specs.Calls.{Call, Begun}
use Rattle.trace_model.specs.Images.{Image, Patch}
use Rattle.trace_model.specs.Packets.{packets_of, emissions_of, is_writing, AreCalls, lost_count}
use Rattle.trace_model.specs.Pages.{Page}
use Rattle.trace_model.specs.Cut.{CutsInto, IsCut}
use Rattle.trace_model.specs.Enough.{most_chunks}
use Rattle.trace_model.specs.WorkedWriters.{empty_pages, long_calls, long_pages}
use Rattle.trace_model.specs.WorkedRows.{shared_calls, shared_pages}
use Rattle.model_laws.specs.Losses.{Loses}

-- Of possible calls whose newest packet isn't being written: their pages and their lost packets are together no more than the
-- chunks that their packets take at most.
abbrev pub EveryPageIsCounted : Type 0
EveryPageIsCounted =
    (size : ℕ) (calls : List Call) (pages : List Page) → CutsInto size (packets_of calls) pages → AreCalls calls
    → is_writing (packets_of calls) ≡ false → 7 < size
    → length pages + lost_count (packets_of calls) ≤ most_chunks size (emissions_of calls)

-- So a writer between two packets has begun at most as many chunks, the held one among them, as what it was asked to write
-- takes at most, whatever of it was lost: a number that doesn't depend on the schedule.
abbrev pub EveryImageIsCounted : Type 0
EveryImageIsCounted =
    (size sequence : ℕ) (asked noted : List Call) (images : List Image) (patches : List (List Patch)) → Loses asked noted
    → IsCut size sequence noted images patches → AreCalls noted → is_writing (packets_of noted) ≡ false → 7 < size
    → length images ≤ most_chunks size (emissions_of asked)

-- What comes later takes no chunk back: so what a writer takes at most once all its calls are made is a bound at each of them.
abbrev pub MoreCallsTakeMore : Type 0
MoreCallsTakeMore =
    (size : ℕ) (calls more : List Call) → AreCalls (calls ++ more)
    → most_chunks size (emissions_of calls) ≤ most_chunks size (emissions_of (calls ++ more))

-- Calls and pages of which no less is a bound.
pub record IsReached (size : ℕ) (calls : List Call) (pages : List Page) : Type 0 where
  pub cut : CutsInto size (packets_of calls) pages
  pub possible : AreCalls calls
  pub between : is_writing (packets_of calls) ≡ false
  pub reached : length pages + lost_count (packets_of calls) ≡ most_chunks size (emissions_of calls)

-- a packet that was begun, and isn't finished
abbrev pub unfinished_calls : List Call
unfinished_calls = Begun true ∷ []

-- The bound is reached by a packet that runs on, and by three packets of which one was dropped at its begin. A packet that is
-- begun and not finished takes a chunk that no emission accounts for.
pub record ChunkCountsAreReached : Type 0 where
  pub runs_on : IsReached 284 long_calls long_pages
  pub drops : IsReached 4080 shared_calls shared_pages
  pub unfinished : CutsInto 284 (packets_of unfinished_calls) empty_pages
  pub unaccounted : most_chunks 284 (emissions_of unfinished_calls) ≡ 0
