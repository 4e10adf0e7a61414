-- A stream of commits: the images of a writer, all completed, come to a buffer by commits, each once and in whatever order.
use Rattle.std.specs.Prelude.{◌≡◌, ℕ, ◌-◌, ◌<◌, ◌≤◌, false, List, [], ◌∷◌, Some, slice_get, IsPermutation}
use Rattle.trace_base.specs.declared.policy.WriterSpec.{WriterSpec}
use Rattle.trace_model.specs.Buffers.{Buffer}
use Rattle.trace_model.specs.Calls.{Call}
use Rattle.trace_model.specs.Cut.{CutsInto, last_runs_on, newest_goes_on}
use Rattle.trace_model.specs.Fragments.{drop_size}
use Rattle.trace_model.specs.History.{Event}
use Rattle.trace_model.specs.Packets.{packets_of, AreCalls}
use Rattle.trace_model.specs.Pages.{Page}
use Rattle.chunk_plain.specs.Setup.{Setup}
use Rattle.chunk_plain.specs.Views.{BegunChunk, Completed, Held}
use Rattle.world_model.specs.FirstBuffers.{BufferSpec, first_buffers}
use Rattle.commit_laws.specs.Commits.{ComesByCommits, Commit, LastsComeLast, NoneIsRefused, PatchesComeBehind, commits_in, page_commits}
use Rattle.commit_laws.specs.CommitHistories.{patches_to}

-- These pages are a cut of the packets that a writer's calls make, and each was completed: the last one has flag 2 exactly where the newest packet goes
-- on behind it. A payload is smaller than the value of the drop mark.
pub record IsCompletedCut (size : ℕ) (calls : List Call) (pages : List Page) : Type 0 where
  pub possible : AreCalls calls
  pub small : size < drop_size
  pub cut : CutsInto size (packets_of calls) pages
  pub ends : last_runs_on false pages ≡ newest_goes_on (packets_of calls)

-- Of the events that come to the buffer, those of the sequence are a stream of the writer with these calls, which are cut into these pages.
pub record IsStreamOf (size : ℕ) (calls : List Call) (pages : List Page) (sequence : ℕ) (buffer : Buffer) (events : List Event) : Type 0 where
  pub cut : IsCompletedCut size calls pages
  -- each page is committed once, with the patches of its body, in whatever order
  pub each_once : IsPermutation (commits_in sequence events) (page_commits sequence 0 pages)
  -- nothing comes otherwise, or behind a close
  pub only : ComesByCommits sequence false events
  pub accepted : NoneIsRefused sequence buffer events
  -- each patch comes behind the image that it names, and one that is marked as the last behind all others that name the same
  pub behind : PatchesComeBehind [] (commits_in sequence events)
  pub lasts : LastsComeLast (patches_to sequence events)

-- Among the buffers of a service as they are at first this is the one that the writer at a place names. Buffers count from 1.
pub record IsBufferOf (setup : Setup) (buffers : List BufferSpec) (place : ℕ) (buffer : Buffer) : Type 0 where
  pub spec : WriterSpec
  pub writer : slice_get setup.writers place ≡ Some spec
  pub counted : 1 ≤ spec.buffer
  pub there : slice_get (first_buffers setup 1 buffers) (spec.buffer - 1) ≡ Some buffer

-- the commits of what a writer completed, each with the patches of its body
abbrev pub completed_commits : List BegunChunk → List Commit
completed_commits [] = []
completed_commits (Held chunk draft ∷ begun) = completed_commits begun
completed_commits (Completed chunk content ∷ begun) = record { image = content.image; patches = content.patches } ∷ completed_commits begun
