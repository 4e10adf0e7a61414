-- A stream producer between two pieces, and what it does with a piece.
use Rattle.std.specs.Prelude.{◌≡◌, ℕ, ◌+◌, ◌^◌, ◌<◌, ◌≤◌, false, List, [], ◌++◌, length, drop, vec_len, Result, Ok, Err, OnOk, IfErr}
use Rattle.byte_io.specs.Bytes.{Intake, after_told, TakesPart}
use Rattle.trace_base.specs.declared.limits.TheConstants.{MAX_BUFFERS, MAX_WRITERS}
use Rattle.trace_model.specs.Counts.{raised}
use Rattle.trace_model.specs.Delivery.{trace_of}
use Rattle.trace_model.specs.History.{records_after}
use Rattle.chunk_plain.specs.Histories.{history_of}
use Rattle.chunk_plain.specs.Meaning.{Meaning}
use Rattle.chunk_plain.specs.Setup.{Setup}
use Rattle.service_core.specs.Agreement.{first_of}
use Rattle.config_text.specs.Configs.{ConfigOf}
use Rattle.stream_frames.specs.Frames.{Frame}
use Rattle.stream_frames.specs.Framing.{Whole, Progress, beginning, front_of, fed, then_fed, frames_of}
use Rattle.stream_frames.specs.Reads.{IsReading}
use Rattle.stream_frames.specs.Values.{limits_of, feeding_of}
use Rattle.stream_producer.specs.declared.fault.StreamFault.{StreamFault}
use Rattle.stream_producer.specs.declared.fault.StreamFault.TheVariants.{WriteFault, BadFrame, NoEnd}
use Rattle.stream_producer.specs.declared.producer.StreamCore.{StreamCore}
use Rattle.stream_producer.specs.History.{played, commits_in, refused_in}
use Rattle.stream_producer.specs.Setups.{IsSetupFor, config_buffers, config_limits}
use Rattle.stream_producer.specs.Standing.{Stands, FitsSetup, Plays, due_of, view_of}

-- the lists for the counts have their lengths
pub record HasRoom {T W S : Type 0} (means : Meaning T W S) (core : StreamCore T S) : Type 0 where
  pub buffers : vec_len core.done.buffers ≡ length core.player.service.specs.items
  pub few_buffers : vec_len core.done.buffers ≤ MAX_BUFFERS
  pub sequences : vec_len core.done.sequences ≡ length (means.setup core.player.table).writers
  pub few_sequences : vec_len core.done.sequences ≤ MAX_WRITERS

-- what plays stands, and keeps to the limits of the reader
pub record IsReady {T W S : Type 0} (means : Meaning T W S) (core : StreamCore T S) : Type 0 where
  pub stands : Stands means core.player
  pub fits : FitsSetup (limits_of core.reader) (means.setup core.player.table)
  pub room : HasRoom means core
  pub counted : (feeding_of core.reader).at + length (feeding_of core.reader).have < 2 ^ 64

-- No call answered a fault so far.
pub record IsFeeding {T W S : Type 0} (means : Meaning T W S) (core : StreamCore T S) : Type 0 where
  pub ready : IsReady means core
  pub reading : IsReading (limits_of core.reader) (feeding_of core.reader)

-- the stream isn't closed, and the reader has no byte behind its first frame: where one stands there whole, it is all that there is
pub record HasAtMostOneFrame {T W S : Type 0} (means : Meaning T W S) (core : StreamCore T S) : Type 0 where
  pub ready : IsReady means core
  pub opened : (feeding_of core.reader).closed ≡ false
  pub whole : (frame : Frame) (size : ℕ) → front_of (limits_of core.reader) (feeding_of core.reader).have ≡ Whole frame size
      → size ≡ length (feeding_of core.reader).have

-- this came of the stream, and its frames were played
pub record Feeds {T W S : Type 0} (means : Meaning T W S) (progress : Progress) (old new : StreamCore T S)
    (before after : Intake) : Type 0 where
  pub ends : progress.ends ≡ Ok (feeding_of new.reader)
  pub limits : limits_of new.reader ≡ limits_of old.reader
  pub feeding : IsFeeding means new
  pub plays : Plays means (limits_of old.reader) progress.frames old.player new.player before after

-- A fault: the first frame that is none, and those before it were played; or a write that failed, and the sink took a front part of what is
-- due.
abbrev pub Stops : {T W S : Type 0} → Meaning T W S → Progress → StreamCore T S → StreamCore T S → Intake → Intake → StreamFault → Type 0
Stops means progress old new before after WriteFault =
    TakesPart before after (due_of means (limits_of old.reader) old.player progress.frames)
Stops means progress old new before after (BadFrame offset) =
    (progress.ends ≡ Err offset) × Plays means (limits_of old.reader) progress.frames old.player new.player before after
Stops means progress old new before after (NoEnd offset) = ⊥

-- so many bytes of the piece were taken; what comes of the piece is what comes of the bytes behind them
pub record FeedsSome {T W S : Type 0} (means : Meaning T W S) (piece : List ℕ) (count : ℕ) (old new : StreamCore T S)
    (before after : Intake) : Type 0 where
  pub some : 0 < count
  pub within : count ≤ length piece
  pub progress : Progress
  pub rest : fed (limits_of old.reader) (feeding_of old.reader) piece
      ≡ then_fed progress (λ next. fed (limits_of old.reader) next (drop count piece))
  pub feeds : Feeds means progress old new before after
  pub counted : (feeding_of new.reader).at + length (feeding_of new.reader).have
      ≡ (feeding_of old.reader).at + length (feeding_of old.reader).have + count

-- ---- the stream so far

-- the producer is at the beginning of a stream, with this configuration
pub record IsMadeFor {T W S : Type 0} (means : Meaning T W S) (config : ConfigOf) (core : StreamCore T S) : Type 0 where
  pub setup : IsSetupFor config (means.setup core.player.table)
  pub limits : limits_of core.reader ≡ config_limits config
  pub first : first_of (means.setup core.player.table) core.player.service ≡ config_buffers config (means.setup core.player.table)
  pub feeding : feeding_of core.reader ≡ beginning
  pub history : history_of (view_of means core.player) ≡ []
  pub commits : core.player.commits ≡ 0
  pub refused : core.player.refused ≡ 0

-- The producer has taken this stream, in whatever pieces: it has noted the history that the stream's frames give, and counted its commits.
pub record HasTaken {T W S : Type 0} (means : Meaning T W S) (config : ConfigOf) (stream : List ℕ) (core : StreamCore T S) : Type 0 where
  pub setup : IsSetupFor config (means.setup core.player.table)
  pub limits : limits_of core.reader ≡ config_limits config
  pub first : first_of (means.setup core.player.table) core.player.service ≡ config_buffers config (means.setup core.player.table)
  pub feeding : (fed (config_limits config) beginning stream).ends ≡ Ok (feeding_of core.reader)
  pub counted : (feeding_of core.reader).at + length (feeding_of core.reader).have ≡ length stream
  pub history : history_of (view_of means core.player)
      ≡ played (means.setup core.player.table) (config_limits config) (config_buffers config (means.setup core.player.table))
      (frames_of (config_limits config) stream)
  pub commits : core.player.commits ≡ raised 0 (commits_in (frames_of (config_limits config) stream))
  pub refused : core.player.refused
      ≡ raised 0 (refused_in (means.setup core.player.table) (config_limits config) (config_buffers config (means.setup core.player.table))
      (frames_of (config_limits config) stream))

-- the bytes of the records of the history that the stream's frames give, which are those before a fault
abbrev pub trace_so_far : ConfigOf → Setup → List ℕ → List ℕ
trace_so_far config setup stream =
    trace_of (records_after (config_buffers config setup)
    (played setup (config_limits config) (config_buffers config setup) (frames_of (config_limits config) stream)))

-- the sink has taken them
abbrev pub IsTraceOf : {T W S : Type 0} → Meaning T W S → ConfigOf → List ℕ → StreamCore T S → (start taken : Intake) → Type 0
IsTraceOf means config stream core start taken =
    taken ≡ after_told start (trace_so_far config (means.setup core.player.table) stream)

-- A fault of the whole stream: where its first frame begins that is none, and the sink took the records of those before it; or a write
-- that failed, and the sink took a front part of the records of its frames.
abbrev pub StopsStream : {T W S : Type 0} → Meaning T W S → ConfigOf → List ℕ → StreamCore T S → (start taken : Intake) → StreamFault → Type 0
StopsStream means config stream core start taken WriteFault =
    TakesPart start taken (trace_so_far config (means.setup core.player.table) stream)
StopsStream means config stream core start taken (BadFrame offset) =
    ((fed (config_limits config) beginning stream).ends ≡ Err offset) × IsTraceOf means config stream core start taken
StopsStream means config stream core start taken (NoEnd offset) = ⊥

-- a producer, and what its sink has taken
pub record FeedMoment (T S : Type 0) : Type 0 where
  pub core : StreamCore T S
  pub taken : Intake

-- the moment at which these stand so
abbrev pub at_feed : {T S : Type 0} → StreamCore T S → Intake → FeedMoment T S
at_feed core taken = record { core = core; taken = taken }

-- This stream was taken before the piece, and now with the piece: so has the sink its records. A fault is one of the whole stream.
pub record FeedsStream {T W S : Type 0} (means : Meaning T W S) (config : ConfigOf) (stream piece : List ℕ) (before : FeedMoment T S)
    (answer : Result (Unit {0}) StreamFault) (behind : FeedMoment T S) : Type 0 where
  pub taken : OnOk answer (HasTaken means config (stream ++ piece) behind.core)
  pub trace : (start : Intake) → IsTraceOf means config stream before.core start before.taken
      → OnOk answer (IsTraceOf means config (stream ++ piece) behind.core start behind.taken)
  pub stops : (start : Intake) → IsTraceOf means config stream before.core start before.taken
      → IfErr answer (StopsStream means config (stream ++ piece) before.core start behind.taken)
