-- The records of a source's sequence tell of what its writer emitted.
use Rattle.chunk_plain.specs.Setup.{sequence_of}
use Rattle.commit_laws.specs.Streams.{IsStreamOf}
use Rattle.stream_frames.specs.Framing.{frames_of}
use Rattle.commit_laws.proofs.StreamsTold.{streams_are_told}
use Rattle.stream_producer.specs.Setups.{config_buffers, config_limits}
use Rattle.stream_producer.specs.Whole.{stream_events}
use Rattle.stream_laws.specs.Laws.{StreamsDeliver}
use Rattle.stream_laws.specs.Sources.{IsSourceStream, first_at}
use Rattle.stream_laws.proofs.EventLemmas.{history_comes}
use Rattle.stream_laws.proofs.SourceLemmas.{asked_specs, is_buffer_of}
use Rattle.std.specs.Prelude.{ℕ, List}
use Rattle.trace_model.specs.Calls.{Call}
use Rattle.trace_model.specs.Pages.{Page}
use Rattle.chunk_plain.specs.Setup.{Setup}
use Rattle.config_text.specs.Configs.{ConfigOf}

-- what the stream commits in the name of the source is a stream of commits
pub source_stream : (config : ConfigOf) (setup : Setup) (stream : List ℕ) (place size : ℕ) (calls : List Call) (pages : List Page)
    → (is : IsSourceStream config setup stream place size calls pages)
    → IsStreamOf size calls pages (sequence_of place) (first_at config setup place is.has) (stream_events config setup stream)
source_stream config setup stream place size calls pages is = record {
  cut = is.cut;
  each_once = is.each_once;
  only = history_comes (sequence_of place) setup (config_limits config) (config_buffers config setup)
      (frames_of (config_limits config) stream);
  accepted = is.accepted;
  behind = is.behind;
  lasts = is.lasts;
}

pub every_stream_delivers : StreamsDeliver
every_stream_delivers config setup made stream place size calls pages is =
    streams_are_told setup (asked_specs config) place (first_at config setup place is.has) (is_buffer_of config setup made place is.has)
    size calls pages (stream_events config setup stream) (source_stream config setup stream place size calls pages is)
