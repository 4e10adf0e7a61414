-- Acts of the service, where no writer is asked: what they leave, and what it takes to do them.
use Rattle.std.specs.Prelude.{◌≡◌, ℕ, suc, ◌≤◌, false, List, [], ◌++◌, length, map, drop, slice_index_or}
use Rattle.byte_io.specs.Bytes.{Intake}
use Rattle.scenario_text.specs.declared.scenario.NumberedLine.{NumberedLine}
use Rattle.scenario_text.specs.Scenario.{Parts}
use Rattle.scenario_text.specs.Accepted.{closes}
use Rattle.chunk_plain.specs.Meaning.{Meaning}
use Rattle.replay_model.specs.Acts.{Act, Collect, CloseProducer}
use Rattle.replay_model.specs.ActNotes.{ActNote}
use Rattle.replay_model.specs.Schedule.{acts_of, open_producers}
use Rattle.replay_host.specs.declared.host.Host.{Host}
use Rattle.replay_host.specs.Asks.{AsksNothing}
use Rattle.replay_host.specs.Lines.{IsKept, Moment, ComesNext}
use Rattle.replay_host.specs.Playing.{IsHost, HasDone, LeavesWriters}

-- the line that comes next asks no writer, and these are its acts
pub record ComesServing {T W S : Type 0} (means : Meaning T W S) (moment : Moment) (acts : List Act) (host : Host T W S) : Type 0 where
  pub next : ComesNext means moment host
  pub wants : AsksNothing moment.line.what
  pub acts_are : acts_of moment.scenario moment.before moment.line.what ≡ acts
  pub closes_none : (producer : ℕ) → closes producer moment.line.what ≡ false

-- the service did these acts: the writers, what is kept of flush requests and commits, the session and the flags are as before
pub record HasServed {T W S : Type 0} (means : Meaning T W S) (acts : List Act) (old new : Host T W S) : Type 0 where
  pub host : IsHost means new
  pub writers : LeavesWriters means old new
  pub opened : new.open_producers ≡ old.open_producers
  pub session : new.helper.service.session ≡ old.helper.service.session
  pub done : (taken : Intake) → HasDone means acts [] old taken new taken

-- some lines were played, and it is known which producers they closed
pub record HasFlags {T W S : Type 0} (means : Meaning T W S) (host : Host T W S) : Type 0 where
  pub scenario : Parts
  pub before : List NumberedLine
  pub notes : List ActNote
  pub kept : IsKept means scenario before notes host

-- the complete chunks of the open producers before this number were taken
pub record HaveCollectedTo {T W S : Type 0} (means : Meaning T W S) (scenario : Parts) (before : List NumberedLine) (end : ℕ) (old new : Host T W S) : Type 0 where
  pub acts : List Act
  pub rest : map Collect (open_producers before 1 scenario.producers) ≡ acts ++ map Collect (open_producers before (suc end) (drop end scenario.producers))
  pub served : HasServed means acts old new

-- all open producers were closed: the writers are as before
pub record HaveClosed {T W S : Type 0} (means : Meaning T W S) (acts : List Act) (old new : Host T W S) : Type 0 where
  pub host : IsHost means new
  pub writers : LeavesWriters means old new
  pub done : (taken : Intake) → HasDone means acts [] old taken new taken

-- those before this number; the flags of the others are as they were
pub record HaveClosedTo {T W S : Type 0} (means : Meaning T W S) (scenario : Parts) (before : List NumberedLine) (end : ℕ) (old new : Host T W S) : Type 0 where
  pub acts : List Act
  pub rest : map CloseProducer (open_producers before 1 scenario.producers)
      ≡ acts ++ map CloseProducer (open_producers before (suc end) (drop end scenario.producers))
  pub closed : HaveClosed means acts old new
  pub many : length new.open_producers.items ≡ length old.open_producers.items
  pub others : (index : ℕ) → end ≤ index → slice_index_or new.open_producers.items index false ≡ slice_index_or old.open_producers.items index false
