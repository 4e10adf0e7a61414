-- What runs a scenario on threads, before its threads begin, once they are done, and once all is settled.
use Rattle.std.specs.Prelude.{◌≡◌, ℕ, suc, ◌+◌, ◌^◌, ◌<◌, ◌≤◌, false, List, [], ◌∷◌, ◌++◌, length, Option, Some, IfSome, IsSomeAnd, slice_get, slice_index_or, vec_len, vec_capacity}
use Rattle.trace_base.specs.declared.limits.TheConstants.{MAX_BUFFERS}
use Rattle.trace_model.specs.Calls.{Call, Flushed}
use Rattle.chunk_plain.specs.Letters.{last_flush}
use Rattle.chunk_plain.specs.Views.{At, Heard, ServiceView, asked_in, newcomer}
use Rattle.chunk_plain.specs.World.{World, writer}
use Rattle.chunk_plain.specs.Plain.{first_world}
use Rattle.chunk_schedules.specs.Schedules.{Leads}
use Rattle.chunk_words.specs.declared.host.HostTable.{HostTable}
use Rattle.chunk_words.specs.declared.seats.WriterSeat.{WriterSeat}
use Rattle.chunk_words.specs.Sits.{Passes, setup_in, known_by, known_by_pass}
use Rattle.chunk_words.specs.Told.{StaysCompleted}
use Rattle.world_model.specs.FirstBuffers.{payload_at}
use Rattle.trace_writer.specs.Core.{in_packet, holds_chunk, is_stalled}
use Rattle.scenario_text.specs.declared.scenario.NumberedLine.{NumberedLine}
use Rattle.scenario_text.specs.Scenario.{Parts}
use Rattle.scenario_text.specs.Accepted.{calls_asked, is_closed_by}
use Rattle.service_core.specs.Agreement.{first_of}
use Rattle.session_core.specs.declared.answers.SessionState.TheVariants.{Started}
use Rattle.replay_model.specs.Flushes.{requests_in}
use Rattle.replay_model.specs.Played.{IsSetupOf, buffers_of}
use Rattle.replay_host.specs.Asking.{IsReadyFor}
use Rattle.replay_host.specs.Lines.{MOST_REQUESTS}
use Rattle.run_model.specs.Answered.{run_sums}
use Rattle.run_model.specs.Scraped.{ScrapedByLines}
use Rattle.run_model.specs.Settled.{HasDoneLines}
use Rattle.thread_service.specs.declared.service.Service.{Service}
use Rattle.thread_service.specs.Reading.{IsKnownWhole}
use Rattle.thread_service.specs.Serving as serving
use Rattle.thread_service.specs.Serving.{Serves}
use Rattle.thread_writer.specs.declared.writer.TraceWriter.{TraceWriter}
use Rattle.thread_writer.specs.Writing.{core_of, view_in, Writes}
use Rattle.thread_service.specs.Settling.{TakesAllOut}
use Rattle.thread_host.specs.Growing.{IsHearing}
use Rattle.thread_host.specs.Keeping.{AllOpen}
use Rattle.thread_host.specs.Ending.{AreDoneSeats, AreTakenOut}
use Rattle.thread_host.specs.Tally.{AreHeardInOrder, IsTally, KeepsAnswers}
use Rattle.thread_host.specs.declared.host.Host.{Host}
use Rattle.thread_host.specs.declared.settled.Settled.{Settled}

-- ---- a writer

-- The writer has this place at the table, nothing was asked of it, and it accepts what the lines ask of it, and then a flush.
pub record IsReady (lines : List NumberedLine) (table : HostTable) (place : ℕ) (writer : TraceWriter) : Type 0 where
  pub writes : Writes table writer
  pub place_is : (core_of writer).seat.place ≡ place
  pub fresh : view_in writer ≡ newcomer
  pub going : is_stalled (core_of writer) ≡ false
  pub ready : IsReadyFor (payload_at (setup_in table) place) (view_in writer) (calls_asked (suc place) lines ++ Flushed ∷ [])

-- It has done its lines and flushed, once for each of these: it isn't stalled, no packet is begun, and no chunk is held.
pub record HasPlayed (lines : List NumberedLine) (endings : List Call) (table : HostTable) (place : ℕ) (writer : TraceWriter) : Type 0 where
  pub writes : Writes table writer
  pub place_is : (core_of writer).seat.place ≡ place
  pub going : is_stalled (core_of writer) ≡ false
  pub done : HasDoneLines (setup_in table) lines endings place (view_in writer)
  pub none_begun : in_packet (view_in writer) ≡ false
  pub none_held : holds_chunk (core_of writer) ≡ false

-- the writers of the table, in their order, of which nothing was asked
pub record AreReady (lines : List NumberedLine) (table : HostTable) (writers : List TraceWriter) : Type 0 where
  pub many : length writers ≡ length (setup_in table).writers
  pub each : (place : ℕ) (writer : TraceWriter) → slice_get writers place ≡ Some writer → IsReady lines table place writer

-- and which have done their lines, with such flushes at the end
pub record HavePlayed (lines : List NumberedLine) (endings : List Call) (table : HostTable) (writers : List TraceWriter) : Type 0 where
  pub many : length writers ≡ length (setup_in table).writers
  pub each : (place : ℕ) (writer : TraceWriter) → slice_get writers place ≡ Some writer → HasPlayed lines endings table place writer

-- each of them has answered so many requests, by its last answer
abbrev pub HaveAnswered : (requests : ℕ) → List TraceWriter → Type 0
HaveAnswered requests writers =
    (place : ℕ) (writer : TraceWriter) → slice_get writers place ≡ Some writer → requests ≤ last_flush (view_in writer).letters.answers

-- the writers from a place on, of which nothing was asked
pub record AreReadyFrom (lines : List NumberedLine) (table : HostTable) (from : ℕ) (writers : List TraceWriter) : Type 0 where
  pub room : from + length writers < 2 ^ 64
  pub each : (index : ℕ) (any : TraceWriter) → index < length writers → IsReady lines table (from + index) (slice_index_or writers index any)

-- and which have done their jobs: their lines, and the flush behind them
pub record HavePlayedFrom (lines : List NumberedLine) (table : HostTable) (from : ℕ) (old new : List TraceWriter) : Type 0 where
  pub many : length new ≡ length old
  pub each : (index : ℕ) (any : TraceWriter) → index < length old → HasPlayed lines (Flushed ∷ []) table (from + index) (slice_index_or new index any)

-- no line closes a producer
abbrev pub ClosesNone : List NumberedLine → Type 0
ClosesNone lines = (producer : ℕ) → is_closed_by lines producer ≡ false

-- ---- the service

-- The service is one of the table, with the scenario's buffers, and its session is started. No sequence is closed, and no image came by a commit.
-- Finished fragments of a chunk before it was complete were noted only where a line scrapes the writer's producer. No more flush requests were
-- made than lines ask for. The answers of each writer were read in order, and the session keeps of each just the newest one that was read.
pub record IsServed (scenario : Parts) (table : HostTable) (service : Service) : Type 0 where
  pub serves : Serves table service
  pub opened : AllOpen (setup_in table) service
  pub began : first_of (setup_in table) (serving.core_of service) ≡ buffers_of scenario (setup_in table)
  pub own : (serving.view_in service).commits ≡ []
  pub scraped : ScrapedByLines (setup_in table) scenario.lines (serving.view_in service)
  pub started : (serving.core_of service).session.state ≡ Started
  pub few : asked_in (serving.view_in service).letters ≤ requests_in scenario.lines
  pub in_order : AreHeardInOrder (serving.view_in service).letters
  pub kept : KeepsAnswers (length (setup_in table).writers) (serving.view_in service).letters (serving.core_of service).session

-- ---- the host

-- The host of a scenario: its table is laid out for it, its service is there and serves it, and it has the reading pass. There is room for the seats of
-- its writers and for the counts of its report, and the sums of requests are those of the answers that the service has read.
pub record IsHost (scenario : Parts) (host : Host) : Type 0 where
  pub laid : IsSetupOf scenario (setup_in host.table)
  pub specs : host.specs.items ≡ (setup_in host.table).writers
  pub producers : host.producers ≡ length (setup_in host.table).ranges
  pub served : IsSomeAnd host.service (IsServed scenario host.table)
  pub pass : Passes host.table host.pass
  pub known : IsKnownWhole (known_by_pass host.pass)
  pub tallied : IsSomeAnd host.tally (λ tally. IsSomeAnd host.service (λ service.
      IsTally (requests_in scenario.lines) (length (setup_in host.table).writers) (serving.view_in service).letters tally))
  pub few_requests : requests_in scenario.lines < MOST_REQUESTS
  pub no_seats : host.seats.items ≡ []
  pub room : length (setup_in host.table).writers ≤ vec_capacity host.seats
  pub few_buffers : length scenario.buffers ≤ MAX_BUFFERS
  pub buffers : vec_len host.counts.buffers ≡ length scenario.buffers
  pub sequences : vec_len host.counts.sequences ≡ length scenario.writers
  pub flushes : host.counts.flushes.items ≡ []
  pub raws : host.counts.raws.items ≡ []

-- ---- all settled

-- Where there is a flush request, an answer to the last one was read of each writer of the table.
abbrev pub HasReadAnswers : HostTable → ServiceView → Type 0
HasReadAnswers table view = 0 < asked_in view.letters → (place : ℕ) → place < length (setup_in table).writers
    → (n : ℕ) × (chunks : ℕ) × At view.letters n (Heard place (asked_in view.letters) chunks)

-- The writers have done their lines, and there is a world in which they were done: a schedule of steps leads to it from a table as it is made,
-- and it is among those that the service marked. All that they completed was taken, what was left then producer by producer in rising number. Their seats
-- are there, in their order, and with each what its writer counted. Where all flush requests were made, their sums are those of the answers that the service has read.
pub record IsSettled (scenario : Parts) (settled : Settled) : Type 0 where
  pub laid : IsSetupOf scenario (setup_in settled.table)
  pub producers : settled.producers ≡ length (setup_in settled.table).ranges
  pub served : IsServed scenario settled.table settled.service
  pub many : length settled.seats.items ≡ length (setup_in settled.table).writers
  pub done : AreDoneSeats scenario.lines settled.table settled.seats.items settled.counts.sequences.items
  pub taken : AreTakenOut (serving.view_in settled.service) settled.seats.items
  -- the world once the writers were done, which the service marked
  pub stood : World
  pub number : ℕ
  pub marked : At (serving.desk_in settled.service).marks number stood
  pub reached : Leads (setup_in settled.table) (first_world (setup_in settled.table)) stood
  pub completed : (place : ℕ) (seat : WriterSeat) → slice_get settled.seats.items place ≡ Some seat
      → StaysCompleted (known_by seat).begun (writer stood place).begun
  pub settles : TakesAllOut (setup_in settled.table) (length (setup_in settled.table).ranges) stood.service (serving.view_in settled.service)
  pub pass : Passes settled.table settled.pass
  pub known : IsKnownWhole (known_by_pass settled.pass)
  pub few_buffers : length scenario.buffers ≤ MAX_BUFFERS
  pub buffers : vec_len settled.counts.buffers ≡ length scenario.buffers
  pub sequences : vec_len settled.counts.sequences ≡ length scenario.writers
  pub flushes : asked_in (serving.view_in settled.service).letters ≡ requests_in scenario.lines
      → settled.counts.flushes.items ≡ run_sums (length (setup_in settled.table).writers) (serving.view_in settled.service).letters
  pub raws : settled.counts.raws.items ≡ []

-- So it is, and what the service knew in the world that it marked is what it knew before, and one answer more that was read of each writer.
abbrev pub IsSettledBehind : Parts → (before : Option Service) → Settled → Type 0
IsSettledBehind scenario before settled =
    (is : IsSettled scenario settled)
    × IfSome before (λ service. IsHearing (length (setup_in settled.table).writers) (serving.view_in service) is.stood.service)
