-- What the service's job does of a scenario's lines.
use Rattle.std.specs.Prelude.{◌≡◌, ◌+◌, List, ◌++◌}
use Rattle.std.specs.List.{flat_map}
use Rattle.byte_io.specs.Bytes.{Loan, Intake, told, untold, after_told, TakesPart}
use Rattle.trace_model.specs.Buffers.{Buffer}
use Rattle.trace_model.specs.Delivery.{Delivered, trace_of}
use Rattle.trace_model.specs.History as model
use Rattle.trace_model.specs.History.{buffers_after, records_after}
use Rattle.chunk_plain.specs.Histories.{history_of}
use Rattle.chunk_plain.specs.Setup.{Setup}
use Rattle.chunk_plain.specs.Views.{ServiceView, asked_in}
use Rattle.scenario_text.specs.declared.scenario.LineKind.{LineKind}
use Rattle.scenario_text.specs.declared.scenario.NumberedLine.{NumberedLine}
use Rattle.service_core.specs.Reading.{noted_read}
use Rattle.replay_model.specs.Flushes.{request_count, requests_in}
use Rattle.run_model.specs.Reads.{reads_by, GoesByReads, GoesUpTo, ReadsUpTo}
use Rattle.thread_service.specs.Reading.{GoesUnread}

-- the loans on which a sink hands its bytes on
abbrev pub loans_of : Intake → List Loan
loans_of (told bytes loans) = loans
loans_of (untold loans) = loans

-- A sink hands its bytes on as before, also where a write failed.
abbrev pub KeepsLoans : (before after : Intake) → Type 0
KeepsLoans before after = loans_of after ≡ loans_of before

-- The sink took exactly the records that the pass knows more.
pub record TellsMore (first : List Buffer) (old new : ServiceView) (before after : Intake) : Type 0 where
  pub more : List Delivered
  pub records : records_after first (history_of new) ≡ records_after first (history_of old) ++ more
  pub taken : after ≡ after_told before (trace_of more)

-- The history that the pass knew went on, and these are its reads since; the sink took their records.
pub record TellsReads (first : List Buffer) (events : List model.Event) (old new : ServiceView) (before after : Intake) : Type 0 where
  pub since : List model.Event
  pub history : history_of new ≡ history_of old ++ since
  pub reads : flat_map noted_read since ≡ flat_map noted_read events
  pub tells : TellsMore first old new before after

-- The reads of these lines were done with the pass, in their order, and nothing else was read; the sink took their records. The pass knows of one flush
-- request more for each of them that makes one.
pub record TellsLines (setup : Setup) (first : List Buffer) (lines : List NumberedLine) (old new : ServiceView) (before after : Intake) : Type 0 where
  pub reads : GoesByReads setup first lines (history_of old) (history_of new)
  pub requests : asked_in new.letters ≡ asked_in old.letters + requests_in lines
  pub tells : TellsMore first old new before after

-- The reads of one line were, and what the pass knows ends with them; and its flush request was made, where it makes one.
pub record TellsLine (setup : Setup) (first : List Buffer) (line : LineKind) (old new : ServiceView) (before after : Intake) : Type 0 where
  pub here : List model.Event
  pub goes : GoesUnread (history_of old) here
  pub reads : history_of new ≡ here ++ reads_by setup (buffers_after first here) line
  pub requests : asked_in new.letters ≡ asked_in old.letters + request_count line
  pub tells : TellsMore first old new before after

-- ---- a write failed

-- The sink took the records that the pass knows more, and then at most a front part of the next one.
pub record TellsUpTo (first : List Buffer) (old new : ServiceView) (next : Delivered) (before after : Intake) : Type 0 where
  pub more : List Delivered
  pub records : records_after first (history_of new) ≡ records_after first (history_of old) ++ more
  pub part : TakesPart (after_told before (trace_of more)) after next.bytes

-- A write failed in the reads of one of these lines, behind those of the lines before it. They went as far as the record whose write it was, with the
-- pass, and nothing else was read. The sink took their records, and then at most a front part of that one.
pub record FailsLines (setup : Setup) (first : List Buffer) (lines : List NumberedLine) (old new : ServiceView) (before after : Intake) : Type 0 where
  pub next : Delivered
  pub reads : GoesUpTo setup first lines (history_of old) (history_of new) next
  pub tells : TellsUpTo first old new next before after

-- One failed in the reads of one line.
pub record FailsLine (setup : Setup) (first : List Buffer) (line : LineKind) (old new : ServiceView) (before after : Intake) : Type 0 where
  pub next : Delivered
  pub here : List model.Event
  pub goes : GoesUnread (history_of old) here
  pub reads : ReadsUpTo setup first line here (history_of new) next
  pub tells : TellsUpTo first old new next before after
