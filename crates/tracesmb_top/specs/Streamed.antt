-- What `stream` does with an input: a configuration text, a line `==`, and the frames of a stream of commits.
use Rattle.std.specs.Prelude.{◌≡◌, ℕ, ◌+◌, ◌-◌, ◌==◌, ◌⊎◌, List, [], ◌++◌, length, not, Bool, false, count_by, slice_get, Option, Some, None, Result, Ok, Err, IfOk, OnOk, OnErr, codes}
use Rattle.byte_io.specs.declared.put.WriteFault.{WriteFault}
use Rattle.byte_io.specs.Bytes.{Intake, after_told, TakesPart, HandsOn}
use Rattle.trace_model.specs.Counts.{one_if}
use Rattle.chunk_plain.specs.Setup.{Setup}
use Rattle.loss_report.specs.Report.{report_text}
use Rattle.config_text.specs.declared.reason.ConfigReason.{ConfigReason}
use Rattle.config_text.specs.declared.reason.ConfigReason.TheVariants as reasons
use Rattle.config_text.specs.Configs.{ConfigOf}
use Rattle.config_text.specs.Grammar.{SpellsConfig, IsFaulty}
use Rattle.stream_frames.specs.declared.check.FrameFault.{FrameFault}
use Rattle.stream_frames.specs.declared.check.FrameFault.TheVariants as frames
use Rattle.stream_frames.specs.Framing.{verdict_on}
use Rattle.stream_producer.specs.declared.producer.StreamDone.{StreamDone}
use Rattle.stream_producer.specs.Setups.{IsSetupFor, config_limits}
use Rattle.stream_producer.specs.Whole.{CountsStream, stream_trace}
use Rattle.tune_lines.specs.Lines.{field_text}
use Rattle.tracesmb_top.specs.Checked.{divider_of, text_before, trace_behind}
use Rattle.tracesmb_top.specs.Refusals.{reason_line, offset_line}

-- ---- the report

-- `stream commits N refused N`, with its line feed
unfoldable pub commits_line : (commits refused : ℕ) → List ℕ
commits_line commits refused =
    codes "stream " ++ field_text (codes "commits ") commits ++ field_text (codes " refused ") refused ++ codes "\n"

-- the lines of buffers and sequences, and of the commits
abbrev pub stream_text : StreamDone → List ℕ
stream_text done = report_text done.buffers.items done.sequences.items [] ++ commits_line done.commits done.refused

-- ---- the refusals

-- what is said of a text
unfoldable pub reason_words : ConfigReason → List ℕ
reason_words reasons.BadText = codes "bad text"
reason_words reasons.WrongKind = codes "wrong kind"
reason_words reasons.MissingSize = codes "missing size"
reason_words reasons.OutOfRange = codes "out of range"
reason_words reasons.TooMany = codes "too many"
reason_words reasons.NoSuchBuffer = codes "no such buffer"
reason_words reasons.ChunkLargerThanBuffer = codes "chunk larger than buffer"

-- the line of a text's fault
abbrev pub config_fault_line : ℕ × ConfigReason → List ℕ
config_fault_line fault = reason_line fault.0 (reason_words fault.1)

-- the line of a fault of a stream's frames
unfoldable pub frame_fault_line : FrameFault → List ℕ
frame_fault_line (frames.BadFrame offset) = offset_line offset (codes "bad frame")
frame_fault_line (frames.NoEnd offset) = offset_line offset (codes "no end")

-- the byte is there, and is no line feed
abbrev pub is_unended : Option ℕ → Bool
is_unended None = false
is_unended (Some byte) = not (byte == 10)

-- how many lines a text has: a rest without line feed is one
unfoldable pub line_count : List ℕ → ℕ
line_count text = count_by (λ byte. byte == 10) text + one_if (is_unended (slice_get text (length text - 1)))

-- the line of an input that has no stream: one behind its lines
unfoldable pub no_stream_line : List ℕ → List ℕ
no_stream_line input = reason_line (line_count input + 1) (codes "no stream")

-- the line says what is wrong with a text
pub record RefusesConfig (text line : List ℕ) : Type 0 where
  pub fault : ℕ × ConfigReason
  pub is : IsFaulty text fault
  pub line_is : line ≡ config_fault_line fault

-- the line says what is wrong with a stream's frames, under a configuration
pub record HasFault (config : ConfigOf) (stream line : List ℕ) : Type 0 where
  pub fault : FrameFault
  pub is : verdict_on (config_limits config) stream ≡ Err fault
  pub line_is : line ≡ frame_fault_line fault

-- under that which a text spells
pub record RefusesFrames (text stream line : List ℕ) : Type 0 where
  pub config : ConfigOf
  pub spells : SpellsConfig text config
  pub frames : HasFault config stream line

-- a text's fault comes before those of the frames
abbrev pub RefusesDivided : (text stream line : List ℕ) → Type 0
RefusesDivided text stream line = RefusesConfig text line ⊎ RefusesFrames text stream line

-- the line refuses an input that is divided here, or isn't
abbrev pub RefusesStreamAt : List ℕ → Option ℕ → List ℕ → Type 0
RefusesStreamAt input None line = line ≡ no_stream_line input
RefusesStreamAt input (Some at) line = RefusesDivided (text_before at input) (trace_behind at input) line

-- the line says why an input isn't played
abbrev pub IsStreamRefusal : List ℕ → List ℕ → Type 0
IsStreamRefusal input line = RefusesStreamAt input (divider_of input) line

-- ---- what is played

-- the text spells the configuration, and the stream has no fault under it
pub record IsStreamFor (text stream : List ℕ) (config : ConfigOf) : Type 0 where
  pub spells : SpellsConfig text config
  pub right : verdict_on (config_limits config) stream ≡ Ok tt

-- The stream was played to its end: the trace took the records of its history, and nothing else, and these bytes are the report.
pub record PlaysStream (text stream : List ℕ) (old new : Intake) (report : List ℕ) : Type 0 where
  pub config : ConfigOf
  pub is_for : IsStreamFor text stream config
  pub setup : Setup
  pub made : IsSetupFor config setup
  pub done : StreamDone
  pub counts : CountsStream config setup stream done
  pub report_is : report ≡ stream_text done
  pub taken : new ≡ after_told old (stream_trace config setup stream)

-- It was played, and the last pieces of its trace wait: the sink took its records but for those, or a front part where a write failed.
pub record GathersStream (config : ConfigOf) (setup : Setup) (stream : List ℕ) (old : Intake) (answer : Result StreamDone WriteFault) (new : Intake)
    (waits : List ℕ) : Type 0 where
  pub counts : IfOk answer (CountsStream config setup stream)
  pub all : OnOk answer (HandsOn old new (stream_trace config setup stream) waits)
  pub part : OnErr answer (TakesPart old new (stream_trace config setup stream))

-- The trace took a front part of the records.
pub record PlaysFront (text stream : List ℕ) (old new : Intake) : Type 0 where
  pub config : ConfigOf
  pub is_for : IsStreamFor text stream config
  pub setup : Setup
  pub made : IsSetupFor config setup
  pub part : TakesPart old new (stream_trace config setup stream)

-- the input is divided, and its stream was played
pub record IsStreamed (input : List ℕ) (old new : Intake) (report : List ℕ) : Type 0 where
  pub at : ℕ
  pub divides : divider_of input ≡ Some at
  pub plays : PlaysStream (text_before at input) (trace_behind at input) old new report

-- the input is divided, and the trace took a front part
pub record IsStreamedShort (input : List ℕ) (old new : Intake) : Type 0 where
  pub at : ℕ
  pub divides : divider_of input ≡ Some at
  pub plays : PlaysFront (text_before at input) (trace_behind at input) old new
