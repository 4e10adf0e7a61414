-- What a writer's answer to a flush request does, and what acts leave that no line asks of a writer.
use Rattle.std.specs.Prelude.{◌≡◌, ℕ, suc, ◌+◌, ◌<◌, ◌≤◌, true, List, [], ◌∷◌, ◌++◌, length, map, drop, Some, slice_get, slice_index, slice_set, vec_len, if◌then◌else◌}
use Rattle.byte_io.specs.Bytes.{Intake}
use Rattle.trace_model.specs.Calls.{Call}
use Rattle.trace_model.specs.Packets.{packets_of, is_writing}
use Rattle.model_laws.specs.Losses.{Loses}
use Rattle.scenario_text.specs.declared.scenario.NumberedLine.{NumberedLine}
use Rattle.scenario_text.specs.Scenario.{Parts}
use Rattle.scenario_text.specs.Accepted.{calls_asked}
use Rattle.chunk_plain.specs.Meaning.{Meaning}
use Rattle.trace_writer.specs.declared.writer.WriterCore.{WriterCore}
use Rattle.service_core.specs.Agreement.{first_of}
use Rattle.replay_model.specs.Acts.{Act, Answer, Request}
use Rattle.replay_model.specs.ActNotes.{ActNote, Requested, Answered}
use Rattle.replay_model.specs.Schedule.{open_places}
use Rattle.replay_host.specs.declared.host.Host.{Host}
use Rattle.replay_host.specs.Asking.{AreReady}
use Rattle.replay_host.specs.Lines.{IsGoing, is_open_at}
use Rattle.replay_host.specs.Playing.{IsHost, HasDone}
use Rattle.replay_host.specs.Tally.{IsTally}

-- what goes on is as before: each writer has noted what lines asked of it, and accepts what it did; the same producers count as open, the
-- session has as many requests, and no commit was answered
pub record KeepsGoing {T W S : Type 0} (means : Meaning T W S) (old new : Host T W S) : Type 0 where
  pub setup_is : means.setup new.table ≡ means.setup old.table
  pub first : first_of (means.setup old.table) new.helper.service ≡ first_of (means.setup old.table) old.helper.service
  pub opened : new.open_producers ≡ old.open_producers
  pub many : length new.writers.items ≡ length old.writers.items
  pub wrote : (place : ℕ) (was is : WriterCore W) → slice_get old.writers.items place ≡ Some was
      → slice_get new.writers.items place ≡ Some is
      → (asked : List Call) → Loses asked (means.view old.table was.seat).calls → Loses asked (means.view new.table is.seat).calls
  pub ready : (coming : ℕ → List Call) → AreReady means old.table old.writers.items coming
      → AreReady means new.table new.writers.items coming
  pub made : new.flushes.made ≡ old.flushes.made
  pub room : vec_len new.flushes.chunks ≡ vec_len old.flushes.chunks
  pub told : new.flushes.answers ≡ old.flushes.answers
  pub state : new.helper.service.session.state ≡ old.helper.service.session.state
  pub requests : new.helper.service.session.requests ≡ old.helper.service.session.requests

-- some lines are played, and the others are to come
pub record IsAmid {T W S : Type 0} (means : Meaning T W S) (host : Host T W S) : Type 0 where
  pub scenario : Parts
  pub before : List NumberedLine
  pub rest : List NumberedLine
  pub notes : List ActNote
  pub going : IsGoing means scenario before rest notes host

-- and the writer at this place, whose producer is open, may be asked to answer
pub record MayAnswer {T W S : Type 0} (means : Meaning T W S) (place : ℕ) (host : Host T W S) : Type 0 where
  pub amid : IsAmid means host
  pub below : place < length amid.scenario.writers
  pub opened : is_open_at amid.scenario amid.before place ≡ true

-- these acts were done, with these notes, and what goes on is as before
pub record GoesOn {T W S : Type 0} (means : Meaning T W S) (acts : List Act) (later : List ActNote) (old new : Host T W S) : Type 0 where
  pub host : IsHost means new
  pub keeps : KeepsGoing means old new
  pub tally : (notes : List ActNote) (writers : ℕ) → IsTally notes writers old.flushes → IsTally (notes ++ later) writers new.flushes
  pub done : (taken : Intake) → HasDone means acts later old taken new taken

-- the writer at this place answered all requests so far, with so many chunks completed
pub record HasAnswered {T W S : Type 0} (means : Meaning T W S) (place : ℕ) (old new : Host T W S) : Type 0 where
  pub chunks : ℕ
  pub goes : GoesOn means (Answer place ∷ []) (Answered place chunks ∷ []) old new
  pub answered : new.flushes.answered.items ≡ slice_set old.flushes.answered.items place old.flushes.made

-- or it didn't, where a packet of it is begun
pub record HasAnsweredBetween {T W S : Type 0} (means : Meaning T W S) (place : ℕ) (old new : Host T W S) : Type 0 where
  pub later : List ActNote
  pub goes : GoesOn means (Answer place ∷ []) later old new
  pub answered : (core : WriterCore W) → slice_get old.writers.items place ≡ Some core
      → new.flushes.answered.items ≡ (if is_writing (packets_of (means.view old.table core.seat).calls) then old.flushes.answered.items
      else slice_set old.flushes.answered.items place old.flushes.made)

-- Each writer of an open producer was asked to answer, one after another. Behind it such a writer has answered all requests, unless it has
-- a packet begun.
pub record HaveAnswered {T W S : Type 0} (means : Meaning T W S) (scenario : Parts) (before : List NumberedLine)
    (old new : Host T W S) : Type 0 where
  pub later : List ActNote
  pub goes : GoesOn means (map Answer (open_places before 0 scenario.writers)) later old new
  pub answered : (place : ℕ) → place < length scenario.writers → is_open_at scenario before place ≡ true
      → slice_index new.flushes.answered.items place
      ≡ (if is_writing (packets_of (calls_asked (suc place) before))
      then slice_index old.flushes.answered.items place else old.flushes.made)

-- the same of the writers before this place; the others are as they were
pub record HaveAnsweredTo {T W S : Type 0} (means : Meaning T W S) (scenario : Parts) (before : List NumberedLine) (end : ℕ)
    (old new : Host T W S) : Type 0 where
  pub acts : List Act
  pub rest : map Answer (open_places before 0 scenario.writers) ≡ acts ++ map Answer (open_places before end (drop end scenario.writers))
  pub later : List ActNote
  pub goes : GoesOn means acts later old new
  pub answered : (place : ℕ) → place < end → is_open_at scenario before place ≡ true
      → slice_index new.flushes.answered.items place
      ≡ (if is_writing (packets_of (calls_asked (suc place) before))
      then slice_index old.flushes.answered.items place else old.flushes.made)
  pub others : (place : ℕ) → end ≤ place → slice_index new.flushes.answered.items place ≡ slice_index old.flushes.answered.items place

-- a flush request was made, and is noted; no writer has answered it yet
pub record HasRequested {T W S : Type 0} (means : Meaning T W S) (old new : Host T W S) : Type 0 where
  pub host : IsHost means new
  pub table : new.table ≡ old.table
  pub writers : new.writers ≡ old.writers
  pub opened : new.open_producers ≡ old.open_producers
  pub first : first_of (means.setup old.table) new.helper.service ≡ first_of (means.setup old.table) old.helper.service
  pub tally : (notes : List ActNote) (writers : ℕ) → IsTally notes writers old.flushes
      → IsTally (notes ++ Requested ∷ []) writers new.flushes
  pub made : new.flushes.made ≡ old.flushes.made + 1
  pub room : vec_len new.flushes.chunks ≡ vec_len old.flushes.chunks
  pub told : new.flushes.answers ≡ old.flushes.answers
  pub answered : new.flushes.answered ≡ old.flushes.answered
  pub state : new.helper.service.session.state ≡ old.helper.service.session.state
  pub requests : new.helper.service.session.requests ≡ old.helper.service.session.requests + 1
  pub done : (taken : Intake) → HasDone means (Request ∷ []) (Requested ∷ []) old taken new taken
