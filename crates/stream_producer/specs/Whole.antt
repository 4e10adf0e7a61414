-- A whole stream, from its first frame to its end.
use Rattle.std.specs.Prelude.{◌≡◌, ℕ, ◌^◌, ◌<◌, List, length, map, Result, Ok, IfOk, OnOk, OnErr}
use Rattle.byte_io.specs.declared.put.WriteFault.{WriteFault}
use Rattle.byte_io.specs.Bytes.{Intake, after_told, TakesPart}
use Rattle.trace_model.specs.Counts.{raised}
use Rattle.trace_model.specs.Delivery.{trace_of}
use Rattle.trace_model.specs.History.{Event, buffers_after, records_after}
use Rattle.chunk_plain.specs.Meaning.{Meaning}
use Rattle.chunk_plain.specs.Setup.{Setup}
use Rattle.trace_buffer.specs.Answers.{counts_of}
use Rattle.config_text.specs.Configs.{ConfigOf}
use Rattle.stream_frames.specs.Framing.{beginning, frames_of, verdict_on}
use Rattle.stream_frames.specs.Values.{limits_of, feeding_of}
use Rattle.stream_producer.specs.declared.producer.StreamCore.{StreamCore}
use Rattle.stream_producer.specs.declared.producer.StreamDone.{StreamDone}
use Rattle.stream_producer.specs.Counting.{counts_from}
use Rattle.stream_producer.specs.Feeding.{IsFeeding}
use Rattle.stream_producer.specs.History.{commits_in, refused_in, stream_history}
use Rattle.stream_producer.specs.Setups.{config_buffers, config_limits}

-- the producer is at the beginning of a stream, and this one has no fault
pub record MayPlayWhole {T W S : Type 0} (means : Meaning T W S) (core : StreamCore T S) (stream : List ℕ) : Type 0 where
  pub feeding : IsFeeding means core
  pub start : feeding_of core.reader ≡ beginning
  pub right : verdict_on (limits_of core.reader) stream ≡ Ok tt
  pub fits : length stream < 2 ^ 64

-- the history of a stream under a configuration, with its end
abbrev pub stream_events : ConfigOf → Setup → List ℕ → List Event
stream_events config setup stream =
    stream_history setup (config_limits config) (config_buffers config setup) (frames_of (config_limits config) stream)

-- the bytes of its records
abbrev pub stream_trace : ConfigOf → Setup → List ℕ → List ℕ
stream_trace config setup stream = trace_of (records_after (config_buffers config setup) (stream_events config setup stream))

-- the counts are those of the buffers behind it, and of its commits
pub record CountsStream (config : ConfigOf) (setup : Setup) (stream : List ℕ) (done : StreamDone) : Type 0 where
  pub buffers : done.buffers.items ≡ map counts_of (buffers_after (config_buffers config setup) (stream_events config setup stream))
  pub sequences : done.sequences.items
      ≡ counts_from (buffers_after (config_buffers config setup) (stream_events config setup stream)) 0 setup.writers
  pub commits : done.commits ≡ raised 0 (commits_in (frames_of (config_limits config) stream))
  pub refused : done.refused
      ≡ raised 0 (refused_in setup (config_limits config) (config_buffers config setup) (frames_of (config_limits config) stream))

-- It was played: the sink took all of its records, and its counts are answered; or a write failed, and the sink took a front part of them.
pub record PlaysWhole (config : ConfigOf) (setup : Setup) (stream : List ℕ) (before : Intake) (answer : Result StreamDone WriteFault) (after : Intake) : Type 0
  where
    pub counts : IfOk answer (CountsStream config setup stream)
    pub all : OnOk answer (after ≡ after_told before (stream_trace config setup stream))
    pub part : OnErr answer (TakesPart before after (stream_trace config setup stream))

-- whatever came of it, the sink took some bytes, and nothing else
pub record TakesBytes (old new : Intake) : Type 0 where
  pub bytes : List ℕ
  pub taken : new ≡ after_told old bytes
