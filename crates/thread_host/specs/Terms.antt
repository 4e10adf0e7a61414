-- What the jobs of a run are given, and what they leave.
use Rattle.std.specs.Prelude.{◌≡◌, ℕ, ◌+◌, ◌<◌, ◌≤◌, true, List, length, vec_len, Option, IfSome, Result, OnOk, MatchResult}
use Rattle.std.specs.declared.sync.ledger.Blank.{Blank}
use Rattle.atomic_table.specs.Seated.{TableId}
use Rattle.trace_base.specs.declared.policy.WriterSpec.{WriterSpec}
use Rattle.byte_io.specs.Bytes.{Intake, CountsFaults}
use Rattle.trace_model.specs.Buffers.{Buffer}
use Rattle.trace_model.specs.History as model
use Rattle.chunk_plain.specs.declared.tokens.TheConstants.{POSITION_LIMIT}
use Rattle.chunk_plain.specs.Histories.{completed_images}
use Rattle.chunk_plain.specs.Setup.{Setup}
use Rattle.chunk_plain.specs.Views.{ServiceView, asked_in}
use Rattle.chunk_words.specs.declared.host.HostTable.{HostTable}
use Rattle.chunk_words.specs.declared.seats.ReadPass.{ReadPass}
use Rattle.chunk_words.specs.declared.seats.WriterSeat.{WriterSeat}
use Rattle.chunk_words.specs.Knows.{Away, with_stage}
use Rattle.chunk_words.specs.Sits.{Passes, Sits, known_by, known_by_pass, setup_in}
use Rattle.scenario_text.specs.declared.scenario.LineKind.{LineKind}
use Rattle.scenario_text.specs.declared.scenario.LineKind.TheVariants as line
use Rattle.scenario_text.specs.declared.scenario.NumberedLine.{NumberedLine}
use Rattle.scenario_text.specs.Scenario.{Parts}
use Rattle.replay_host.specs.Lines.{MOST_REQUESTS}
use Rattle.replay_model.specs.Flushes.{requests_in}
use Rattle.service_core.specs.Agreement.{KeepsRest, KeepsTaking}
use Rattle.service_core.specs.Reading.{NotesReads}
use Rattle.run_model.specs.Collected.{may_be_collected}
use Rattle.run_model.specs.Lines.{PlaysAll, PlaysSome, is_service_line}
use Rattle.run_model.specs.Scraped.{is_scraped_by}
use Rattle.run_model.specs.Settled.{last_flushes}
use Rattle.thread_service.specs.declared.service.Service.{Service}
use Rattle.thread_service.specs.Reading.{IsKnownWhole, PassReads}
use Rattle.thread_service.specs.Serving.{core_of, view_in, desk_in, IsOnlySeat, Serves}
use Rattle.thread_writer.specs.declared.writer.TraceWriter.{TraceWriter}
use Rattle.thread_writer.specs.Writing as writing
use Rattle.thread_host.specs.declared.host.Host.{Host}
use Rattle.thread_host.specs.declared.settled.Settled.{Settled}
use Rattle.thread_host.specs.declared.tally.Tally.{Tally}
use Rattle.thread_host.specs.Growing.{Grows, IsRequesting}
use Rattle.thread_host.specs.Hosts.{AreReadyFrom, HaveAnswered, HavePlayed, IsHost}
use Rattle.thread_host.specs.Jobs.{FailsLines, KeepsLoans, TellsLine, TellsLines}
use Rattle.thread_host.specs.Keeping.{AllOpen, BeganWith, HasOwn, IsNamed, IsStarted, IsWhole, ServesNamed}
use Rattle.thread_host.specs.Tally.{IsTally, KeepsAnswers, KeepsSession}
use Rattle.thread_host.specs.Turns.{IsNext}

-- ---- what is given

-- a blank of the ledger with this name, which has so many parts
pub record IsBlankOf (name parts : ℕ) (blank : Blank) : Type 0 where
  pub name_is : blank.name ≡ name
  pub parts_are : blank.parts ≡ parts
  pub some : 0 < parts

-- the table, the writers' specs and the lines are those that a name stands for
pub record AreNamed (id : TableId) (setup : Setup) (named : List NumberedLine) (table : HostTable) (specs : List WriterSpec) (lines : List NumberedLine) : Type 0 where
  pub table_is : IsNamed id setup table
  pub specs_are : specs ≡ setup.writers
  pub lines_are : lines ≡ named

-- So they are, and the writers from a place on are those of the table, of which nothing was asked.
pub record AreReadyNamed (id : TableId) (setup : Setup) (named : List NumberedLine) (table : HostTable) (specs : List WriterSpec) (lines : List NumberedLine)
    (from : ℕ) (writers : List TraceWriter) : Type 0 where
  pub named_are : AreNamed id setup named table specs lines
  pub ready : AreReadyFrom lines table from writers

-- The reading pass is the table's, and what it knows is known whole.
pub record KnowsWhole (table : HostTable) (pass : ReadPass) : Type 0 where
  pub passes : Passes table pass
  pub known : IsKnownWhole (known_by_pass pass)

-- What the service's own lines are played with: the table and the lines that a name stands for, all parts of its ledger, and a pass that knows of no
-- flush request. The lines make no more of them than can be counted.
pub record MayPlay (parts all : ℕ) (id : TableId) (setup : Setup) (named : List NumberedLine) (table : HostTable) (lines : List NumberedLine) (pass : ReadPass) : Type 0 where
  pub whole : IsWhole parts all
  pub table_is : IsNamed id setup table
  pub lines_are : lines ≡ named
  pub few : requests_in named < MOST_REQUESTS
  pub pass_is : KnowsWhole table pass
  pub none_asked : asked_in (known_by_pass pass).letters ≡ 0

-- All parts of the ledger are there, and where so many turns were taken the next line is this one.
pub record HasTurn (parts all : ℕ) (lines : List NumberedLine) (turns : ℕ) (kind : LineKind) : Type 0 where
  pub whole : IsWhole parts all
  pub next : IsNext lines turns kind

-- the pass knows of fewer flush requests than the lines make, and these can be counted
pub record MayRequest (lines : List NumberedLine) (pass : ReadPass) : Type 0 where
  pub room : asked_in (known_by_pass pass).letters < requests_in lines
  pub few : requests_in lines < MOST_REQUESTS

-- A line of this kind may be played by whoever has all parts of the ledger, where so many turns were taken: if it is one of the service's own, it is the
-- next one of these. Somebody may have collected what it collects, and one of the lines scrapes what it scrapes. Where it makes a flush request, the pass
-- knows of fewer than the lines make; and these can be counted.
pub record MayPlayLine (parts all : ℕ) (setup : Setup) (lines : List NumberedLine) (turns : ℕ) (kind : LineKind) (pass : ReadPass) : Type 0 where
  pub whole : IsWhole parts all
  pub next : is_service_line kind ≡ true → IsNext lines turns kind
  pub collected : (producer : ℕ) → kind ≡ line.Collect producer → may_be_collected setup lines producer ≡ true
  pub scraped : (producer : ℕ) → kind ≡ line.Scrape producer → is_scraped_by lines producer ≡ true
  pub room : kind ≡ line.Request → asked_in (known_by_pass pass).letters < requests_in lines
  pub few : requests_in lines < MOST_REQUESTS

-- ---- what the lock keeps

-- The service is one of the table that a name stands for, none of whose sequences is closed, and no image came by a commit. What it knows is what it knew
-- at the start, and what these lines and the writers' helpers may have added, and of flush requests no more than the lines make; its session is started.
-- The tally is of the answers that it has read, and its session keeps just the newest of them.
pub record IsKept (id : TableId) (setup : Setup) (first : List Buffer) (lines : List NumberedLine) (start : ServiceView) (service : Service) (tally : Tally) : Type 0 where
  pub serves : ServesNamed id setup service
  pub opened : AllOpen setup service
  pub began : BeganWith setup first service
  pub own : HasOwn service
  pub grows : Grows setup lines start (view_in service)
  pub started : IsStarted service
  pub few : asked_in (view_in service).letters ≤ requests_in lines
  pub tallied : IsTally (requests_in lines) (length setup.writers) (view_in service).letters tally
  pub kept : KeepsAnswers (length setup.writers) (view_in service).letters (core_of service).session

-- So it is at the start of a run.
pub record Begins (id : TableId) (setup : Setup) (first : List Buffer) (lines : List NumberedLine) (start : ServiceView) (service : Service) (tally : Tally) : Type 0 where
  pub kept_is : IsKept id setup first lines start service tally
  pub start_is : view_in service ≡ start

-- the service's own lines were played, all of them, or up to the write that failed
abbrev pub PlaysFar : {A E : Type 0} → Setup → List Buffer → List NumberedLine → (start now : ServiceView) → Result A E → Type 0
PlaysFar setup first lines start now result = MatchResult result (λ _. PlaysAll setup first lines start now) (λ _. PlaysSome setup first lines start now)

-- So it is kept at the end of a run, whose own lines of the service were played: all of them, or up to the write that failed.
pub record ComesBack {A E : Type 0} (id : TableId) (setup : Setup) (first : List Buffer) (lines : List NumberedLine) (start : ServiceView) (service : Service) (tally : Tally)
    (result : Result A E) : Type 0 where
  pub kept_is : IsKept id setup first lines start service tally
  pub played : PlaysFar setup first lines start (view_in service) result

-- ---- what calls leave

-- The sink hands its bytes on as before, a write that failed is counted, and where none did it may be written to.
pub record LeavesSink {A E : Type 0} (before after : Intake) (faults now : ℕ) (may : Type 0) (result : Result A E) : Type 0 where
  pub stands : KeepsLoans before after
  pub count : CountsFaults faults now result
  pub goes_on : OnOk result may

-- the pass, what the sink has taken, and the count of its faults, at some time
pub record Moment : Type 0 where
  pub pass : ReadPass
  pub taken : Intake
  pub faults : ℕ

-- Between these moments the reads of the lines were done, all of them or up to the write that failed, and the sink took their records.
pub record PlaysJob {A E : Type 0} (setup : Setup) (first : List Buffer) (lines : List NumberedLine) (table : HostTable) (old new : Moment) (may : Type 0) (result : Result A E) : Type 0 where
  pub pass_is : KnowsWhole table new.pass
  pub told : MatchResult result
      (λ _. TellsLines setup first lines (known_by_pass old.pass) (known_by_pass new.pass) old.taken new.taken)
      (λ _. FailsLines setup first lines (known_by_pass old.pass) (known_by_pass new.pass) old.taken new.taken)
  pub sink : LeavesSink old.taken new.taken old.faults new.faults may result

-- A flush request was made with the pass, which knows of it and of all else that the service knows.
pub record HasRequested (setup : Setup) (first : List Buffer) (old new : Service) (passed pass : ReadPass) : Type 0 where
  pub requests : IsRequesting (view_in old) (view_in new)
  pub knows : known_by_pass pass ≡ view_in new
  pub told : (taken : Intake) → TellsLine setup first line.Request (known_by_pass passed) (known_by_pass pass) taken taken
  pub desk : with_stage (desk_in new) Away ≡ with_stage (desk_in old) Away

-- A buffer was read with the pass: it knows the reads that the service noted, and of the service nothing else changed.
pub record ReadsWith (setup : Setup) (table : HostTable) (old new : Service) (passed pass : ReadPass) : Type 0 where
  pub pass_is : KnowsWhole table pass
  pub desk : with_stage (desk_in new) Away ≡ with_stage (desk_in old) Away
  pub keeps : KeepsRest setup (core_of old) (core_of new)
  pub passes : (events : List model.Event) → NotesReads setup (core_of old) events (view_in old) (view_in new)
      → PassReads setup (core_of old) events (known_by_pass passed) (known_by_pass pass)

-- A line took so many turns; where a write failed it took one, and the fault is counted; where none did the sink may be written to.
pub record EndsTurn {A E : Type 0} (many turns after faults now : ℕ) (may : Type 0) (result : Result A E) : Type 0 where
  pub turns_are : MatchResult result (λ _. after ≡ turns + many) (λ _. after ≡ turns + 1)
  pub count : CountsFaults faults now result
  pub goes_on : OnOk result may

-- The session is started, and the tally is of the answers that the service has read, with room for all requests that were made.
pub record HasTally (table : HostTable) (service : Service) (tally : Tally) : Type 0 where
  pub started : IsStarted service
  pub tallied : (requests : ℕ) × IsTally requests (length (setup_in table).writers) (view_in service).letters tally
  pub room : asked_in (view_in service).letters ≤ vec_len tally.sums

-- Answers were read: the tally is of these too, where the one before was of those that were read before; the session keeps just the newest of them where it
-- did before; and of the service nothing else changed.
pub record LeavesTally (table : HostTable) (old new : Service) (before after : Tally) : Type 0 where
  pub desk : desk_in new ≡ desk_in old
  pub keeps : KeepsTaking (record (core_of old) { seat = (core_of new).seat }) (core_of new)
  pub session : KeepsSession (core_of old).session (core_of new).session
  pub kept : KeepsAnswers (length (setup_in table).writers) (view_in old).letters (core_of old).session
      → KeepsAnswers (length (setup_in table).writers) (view_in new).letters (core_of new).session
  pub tallied : (requests : ℕ) → IsTally requests (length (setup_in table).writers) (view_in old).letters before
      → IsTally requests (length (setup_in table).writers) (view_in new).letters after

-- The service may have been told something: it still serves the table and knows what it knew, and nothing of it changed but its seat.
pub record OnlyLearns (table : HostTable) (old new : Service) : Type 0 where
  pub serves : Serves table new
  pub view : view_in new ≡ view_in old
  pub only : IsOnlySeat (core_of old) (core_of new)

-- The seat is the writer's, and knows what the writer knew, whose completed chunks have positions that can be counted.
pub record LeavesSeat (table : HostTable) (writer : TraceWriter) (seat : WriterSeat) : Type 0 where
  pub sits : Sits table seat
  pub knows : known_by seat ≡ writing.view_in writer
  pub place_is : seat.place ≡ (writing.core_of writer).seat.place
  pub few : length (completed_images (writing.view_in writer).begun) ≤ POSITION_LIMIT

-- Buffers were read: the service still serves the table, and of it nothing else changed.
pub record StaysServing (table : HostTable) (old new : Service) : Type 0 where
  pub serves : Serves table new
  pub keeps : KeepsRest (setup_in table) (core_of old) (core_of new)
  pub marks : (desk_in new).marks ≡ (desk_in old).marks

-- ---- what a run leaves

-- what was settled has the host's table, and its pass knows what the host's knew
pub record StaysSettled (host : Host) (settled : Settled) : Type 0 where
  pub table : settled.table ≡ host.table
  pub pass : known_by_pass settled.pass ≡ known_by_pass host.pass

-- the host is still one of the scenario, with the table that it had
pub record StaysHost (scenario : Parts) (old new : Host) : Type 0 where
  pub host : IsHost scenario new
  pub table : new.table ≡ old.table

-- What the service knows grew, and its own lines were played, up to the write that failed where one did.
pub record ServiceRuns {A E : Type 0} (setup : Setup) (first : List Buffer) (lines : List NumberedLine) (before after : Option Service) (result : Result A E) : Type 0 where
  pub grows : IfSome before (λ old. IfSome after (λ new. Grows setup lines (view_in old) (view_in new)))
  pub played : MatchResult result
      (λ _. IfSome before (λ old. IfSome after (λ new. PlaysAll setup first lines (view_in old) (view_in new))))
      (λ _. IfSome before (λ old. IfSome after (λ new. PlaysSome setup first lines (view_in old) (view_in new))))

-- the writers have done their lines, and each answered the last of so many flush requests, where some were made
pub record HaveRun (lines : List NumberedLine) (table : HostTable) (requests : ℕ) (writers : List TraceWriter) : Type 0 where
  pub played : HavePlayed lines last_flushes table writers
  pub answered : HaveAnswered requests writers
