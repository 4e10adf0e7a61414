-- What plays a scenario, between two of its lines.
use Rattle.std.specs.Prelude.{◌≡◌, ℕ, suc, ◌+◌, ◌-◌, ◌<◌, ◌≤◌, nat_lt, Bool, true, false, not, ◌&&◌, List, [], ◌∷◌, ◌++◌, length, Some, slice_get, slice_index, slice_index_or, vec_len, vec_capacity, if◌then◌else◌}
use Rattle.byte_io.specs.Bytes.{Intake}
use Rattle.trace_base.specs.declared.limits.TheConstants.{MAX_PRODUCERS}
use Rattle.trace_model.specs.Calls.{Call, Flushed}
use Rattle.trace_model.specs.Packets.{packets_of, is_writing}
use Rattle.model_laws.specs.Losses.{Loses}
use Rattle.session_core.specs.declared.answers.SessionState.TheVariants.{Started}
use Rattle.scenario_text.specs.declared.scenario.NumberedLine.{NumberedLine}
use Rattle.scenario_text.specs.Scenario.{Parts}
use Rattle.scenario_text.specs.Accepted.{calls_asked, is_closed_by}
use Rattle.scenario_text.specs.Reach.{IsInReach}
use Rattle.chunk_plain.specs.Meaning.{Meaning}
use Rattle.trace_writer.specs.declared.writer.WriterCore.{WriterCore}
use Rattle.service_core.specs.Agreement.{first_of, spec_at}
use Rattle.replay_model.specs.ActNotes.{ActNote}
use Rattle.replay_model.specs.Flushes.{requests_in}
use Rattle.replay_model.specs.Played.{IsSetupOf, buffers_of}
use Rattle.replay_model.specs.Schedule.{is_due, acts_of}
use Rattle.replay_host.specs.declared.host.Host.{Host}
use Rattle.replay_host.specs.Asking.{AreReady}
use Rattle.replay_host.specs.Playing.{IsHost, HasDone}
use Rattle.replay_host.specs.Raws.{raws_in}
use Rattle.replay_host.specs.Tally.{IsTally}

-- a request's number has 32 bits
abbrev pub MOST_REQUESTS : ℕ
MOST_REQUESTS = 4294967295

-- no line of these closes the producer of the writer at this place
abbrev pub is_open_at : Parts → List NumberedLine → (place : ℕ) → Bool
is_open_at scenario lines place = not (is_closed_by lines (spec_at scenario.writers place).producer)

-- the flush of the end, which comes where the producer is open then
abbrev pub last_flush : Bool → List Call
last_flush open_then = if open_then then Flushed ∷ [] else []

-- the calls that are still to come for the writer at this place: those of these lines, and the last flush
abbrev pub coming_at : Parts → (rest : List NumberedLine) → (place : ℕ) → List Call
coming_at scenario rest place = calls_asked (suc place) rest ++ last_flush (is_open_at scenario scenario.lines place)

-- Behind these lines, with these notes: the set-up is the scenario's, the producers that count as open are those that no line has closed,
-- and what is kept of flush requests and commits is what the notes say.
pub record IsKept {T W S : Type 0} (means : Meaning T W S) (scenario : Parts) (before : List NumberedLine) (notes : List ActNote) (host : Host T W S) : Type 0
  where
    pub is_host : IsHost means host
    pub laid : IsSetupOf scenario (means.setup host.table)
    pub first : first_of (means.setup host.table) host.helper.service ≡ buffers_of scenario (means.setup host.table)
    pub few_producers : length scenario.producers ≤ MAX_PRODUCERS
    pub flags : (producer : ℕ) → 1 ≤ producer → producer ≤ length scenario.producers
        → slice_index_or host.open_producers.items (producer - 1) false ≡ not (is_closed_by before producer)
    pub tally : IsTally notes (length scenario.writers) host.flushes

-- The other lines are still to come: each writer has noted what the lines asked of it, and accepts what is to come, and there is room for
-- the flush requests to come, and for the answers to the commits.
pub record IsGoing {T W S : Type 0} (means : Meaning T W S) (scenario : Parts) (before rest : List NumberedLine) (notes : List ActNote) (host : Host T W S) : Type 0
  where
    pub kept : IsKept means scenario before notes host
    pub wrote : (place : ℕ) (core : WriterCore W) → slice_get host.writers.items place ≡ Some core
        → Loses (calls_asked (suc place) before) (means.view host.table core.seat).calls
    pub ready : AreReady means host.table host.writers.items (coming_at scenario rest)
    pub room : host.flushes.made + requests_in rest ≡ vec_len host.flushes.chunks
    pub few : vec_len host.flushes.chunks < MOST_REQUESTS
    pub told_room : vec_len host.flushes.answers + raws_in rest ≤ vec_capacity host.flushes.answers
    pub started : host.helper.service.session.state ≡ Started
    pub requests : host.helper.service.session.requests ≡ host.flushes.made

-- the writer at this place has a request to answer exactly where one came since it began its packet
abbrev pub IsDueAt : {T W S : Type 0} → Parts → List NumberedLine → (place : ℕ) → Host T W S → Type 0
IsDueAt scenario before place host = nat_lt (slice_index host.flushes.answered.items place) host.flushes.made
    ≡ (is_writing (packets_of (calls_asked (suc place) before)) && is_due (suc place) before)

-- And so has each writer of an open producer: that is how things are between two lines.
pub record IsAt {T W S : Type 0} (means : Meaning T W S) (scenario : Parts) (before rest : List NumberedLine) (notes : List ActNote) (host : Host T W S) : Type 0
  where
    pub going : IsGoing means scenario before rest notes host
    pub due : (place : ℕ) → place < length scenario.writers → is_open_at scenario before place ≡ true → IsDueAt scenario before place host

-- ---- one line

-- where a line stands in its scenario, and what was noted before it
pub record Moment : Type 0 where
  pub scenario : Parts
  pub before : List NumberedLine
  pub line : NumberedLine
  pub rest : List NumberedLine
  pub notes : List ActNote

-- the line comes next, and what it names is there
pub record ComesNext {T W S : Type 0} (means : Meaning T W S) (moment : Moment) (host : Host T W S) : Type 0 where
  pub at : IsAt means moment.scenario moment.before (moment.line ∷ moment.rest) moment.notes host
  pub reach : IsInReach moment.scenario.buffers moment.scenario.producers moment.scenario.writers moment.before moment.line.what

-- the line was played: what comes next is as it should be, and the line's acts were done
pub record IsLinePlayed {T W S : Type 0} (means : Meaning T W S) (moment : Moment) (old : Host T W S) (taken : Intake) (new : Host T W S) (left : Intake) : Type 0
  where
    pub later : List ActNote
    pub at : IsAt means moment.scenario (moment.before ++ moment.line ∷ []) moment.rest (moment.notes ++ later) new
    pub done : HasDone means (acts_of moment.scenario moment.before moment.line.what) later old taken new left
