-- The end, behind the last line.
use Rattle.std.specs.Prelude.{◌≡◌, ℕ, zero, suc, nat_lt, List, [], ◌∷◌, ◌++◌, length, map, drop, if◌then◌else◌}
use Rattle.byte_io.specs.Bytes.{Intake}
use Rattle.trace_model.specs.Calls.{Call, Flushed}
use Rattle.trace_model.specs.Counts.{last_count}
use Rattle.scenario_text.specs.Scenario.{Parts}
use Rattle.chunk_plain.specs.Meaning.{Meaning}
use Rattle.replay_model.specs.Acts.{Act, Ask, ReadAll}
use Rattle.replay_model.specs.ActNotes.{ActNote}
use Rattle.replay_model.specs.Schedule.{open_places}
use Rattle.replay_host.specs.declared.host.Host.{Host}
use Rattle.replay_host.specs.Asking.{AreReady}
use Rattle.replay_host.specs.Lines.{IsGoing, last_flush, is_open_at}
use Rattle.replay_host.specs.Playing.{IsHost, HasDone}

-- all lines of a scenario are played
pub record IsOver {T W S : Type 0} (means : Meaning T W S) (host : Host T W S) : Type 0 where
  pub scenario : Parts
  pub notes : List ActNote
  pub going : IsGoing means scenario scenario.lines [] notes host

-- acts were done that leave the flags and what is kept of flush requests and commits
pub record HaveFlushed {T W S : Type 0} (means : Meaning T W S) (acts : List Act) (old new : Host T W S) : Type 0 where
  pub host : IsHost means new
  pub opened : new.open_producers ≡ old.open_producers
  pub flushes : new.flushes ≡ old.flushes
  pub many : length new.writers.items ≡ length old.writers.items
  pub done : (taken : Intake) → HasDone means acts [] old taken new taken

-- what is still to come for the writer at this place, where the writers before another one have flushed
abbrev pub flushing : Parts → (end place : ℕ) → List Call
flushing scenario end place = if nat_lt place end then [] else last_flush (is_open_at scenario scenario.lines place)

-- each writer of an open producer before this place has flushed
pub record HaveFlushedTo {T W S : Type 0} (means : Meaning T W S) (scenario : Parts) (end : ℕ) (old new : Host T W S) : Type 0 where
  pub acts : List Act
  pub rest : map (λ place. Ask place Flushed) (open_places scenario.lines 0 scenario.writers)
      ≡ acts ++ map (λ place. Ask place Flushed) (open_places scenario.lines end (drop end scenario.writers))
  pub flushed : HaveFlushed means acts old new
  pub ready : AreReady means new.table new.writers.items (flushing scenario end)

-- the reading of so many buffers, the first of which has the number 1, each without limit
abbrev pub reads_to : (count : ℕ) → List Act
reads_to zero = []
reads_to (suc count) = reads_to count ++ ReadAll (suc count) last_count ∷ []

-- these acts were done, and what is kept of flush requests and commits is as before
pub record HasEnded {T W S : Type 0} (means : Meaning T W S) (acts : List Act) (old : Host T W S) (taken : Intake) (new : Host T W S) (left : Intake) : Type 0 where
  pub host : IsHost means new
  pub flushes : new.flushes ≡ old.flushes
  pub done : HasDone means acts [] old taken new left
