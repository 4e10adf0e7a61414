-- Lines that ask a writer for calls, and lines that ask none.
use Rattle.std.specs.Prelude.{◌≡◌, ◌≢◌, ℕ, suc, false, List, [], ◌&&◌, Bool}
use Rattle.std.specs.List.{fold}
use Rattle.trace_model.specs.Calls.{Call}
use Rattle.trace_model.specs.Packets.{Account, noted, is_writing}
use Rattle.scenario_text.specs.declared.scenario.LineKind.{LineKind}
use Rattle.scenario_text.specs.Accepted.{line_calls, closes, AreAccepted}
use Rattle.scenario_text.specs.Reach.{NamesWriter}
use Rattle.chunk_plain.specs.Meaning.{Meaning}
use Rattle.replay_model.specs.Acts.{asks}
use Rattle.replay_model.specs.Schedule.{acts_of, is_due_after}
use Rattle.replay_host.specs.declared.host.Host.{Host}
use Rattle.replay_model.specs.Flushes.{request_count}
use Rattle.replay_host.specs.Lines.{Moment, ComesNext}

-- the line asks the writer at this place for these calls, and no other writer for any; it is no flush request, and closes no producer
pub record AsksFor (line : LineKind) (place : ℕ) (calls : List Call) : Type 0 where
  pub own : line_calls (suc place) line ≡ calls
  pub others : (number : ℕ) → number ≢ suc place → line_calls number line ≡ []
  pub no_request : request_count line ≡ 0
  pub closes_none : (producer : ℕ) → closes producer line ≡ false

-- a request is due behind the line where one was before it
pub record LeavesDue (line : LineKind) (place : ℕ) (calls : List Call) : Type 0 where
  pub others : (number : ℕ) (due : Bool) → number ≢ suc place → is_due_after number due line ≡ due
  pub own : (account : Account) → AreAccepted account calls → (due : Bool)
      → (is_writing (fold noted account calls).packets && is_due_after (suc place) due line) ≡ (is_writing account.packets && due)

-- the line that comes next asks the writer at this place for these calls: that is all that it does
pub record ComesAsking {T W S : Type 0} (means : Meaning T W S) (moment : Moment) (place : ℕ) (calls : List Call) (host : Host T W S) : Type 0 where
  pub next : ComesNext means moment host
  pub wants : AsksFor moment.line.what place calls
  pub due : LeavesDue moment.line.what place calls
  pub acts : acts_of moment.scenario moment.before moment.line.what ≡ asks place calls
  pub names : NamesWriter moment.scenario.writers moment.before (suc place)

-- the line asks no writer for a call, and is no flush request
pub record AsksNothing (line : LineKind) : Type 0 where
  pub none : (number : ℕ) → line_calls number line ≡ []
  pub no_request : request_count line ≡ 0
  pub due : (number : ℕ) (due : Bool) → is_due_after number due line ≡ due
