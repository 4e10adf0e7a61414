-- What a stream of frames commits in the name of a source, among the events that its frames give.
use Rattle.std.specs.Prelude.{◌≡◌, ℕ, ◌<◌, List, [], length, Some, slice_get, IsPermutation}
use Rattle.trace_model.specs.Buffers.{Buffer}
use Rattle.trace_model.specs.Calls.{Call}
use Rattle.trace_model.specs.Pages.{Page}
use Rattle.chunk_plain.specs.Setup.{Setup, sequence_of}
use Rattle.service_core.specs.Routing.{buffer_at}
use Rattle.config_text.specs.declared.config.ConfigSource.{ConfigSource}
use Rattle.config_text.specs.Configs.{ConfigOf}
use Rattle.commit_laws.specs.CommitHistories.{patches_to}
use Rattle.commit_laws.specs.Commits.{LastsComeLast, NoneIsRefused, PatchesComeBehind, commits_in, page_commits}
use Rattle.commit_laws.specs.Streams.{IsCompletedCut}
use Rattle.stream_producer.specs.Setups.{config_buffers}
use Rattle.stream_producer.specs.Whole.{stream_events}

-- the configuration has a source at this place, and its buffer; sources and buffers count from 0 here
pub record HasSource (config : ConfigOf) (place : ℕ) : Type 0 where
  pub source : ConfigSource
  pub there : slice_get config.sources place ≡ Some source
  pub target : source.target_buffer < length config.buffers

-- its buffer, as a service has it at first
abbrev pub first_at : (config : ConfigOf) (setup : Setup) (place : ℕ) → HasSource config place → Buffer
first_at config setup place has = buffer_at (config_buffers config setup) has.source.target_buffer

-- What the stream commits in the name of the source at this place is a stream of the writer with these calls, which are cut into these
-- pages. What it commits in the names of others is free, and so is when it reads.
pub record IsSourceStream (config : ConfigOf) (setup : Setup) (stream : List ℕ)
    (place size : ℕ) (calls : List Call) (pages : List Page) : Type 0
  where
    pub has : HasSource config place
    pub cut : IsCompletedCut size calls pages
    -- each page is committed once to the source's buffer, with the patches of its body, in whatever order, and none is refused
    pub each_once : IsPermutation (commits_in (sequence_of place) (stream_events config setup stream))
        (page_commits (sequence_of place) 0 pages)
    pub accepted : NoneIsRefused (sequence_of place) (first_at config setup place has) (stream_events config setup stream)
    -- each patch comes behind the image that it names, and one that is marked as the last behind all others that name the same
    pub behind : PatchesComeBehind [] (commits_in (sequence_of place) (stream_events config setup stream))
    pub lasts : LastsComeLast (patches_to (sequence_of place) (stream_events config setup stream))
