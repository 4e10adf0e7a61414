-- A scenario's lines, played one behind another.
use Rattle.std.specs.Prelude.{◌≡◌, ℕ, List, [], ◌++◌, take, drop}
use Rattle.byte_io.specs.Bytes.{Intake}
use Rattle.scenario_text.specs.Scenario.{Parts}
use Rattle.scenario_text.specs.Reach.{AreInReach}
use Rattle.chunk_plain.specs.Meaning.{Meaning}
use Rattle.replay_model.specs.Acts.{Act}
use Rattle.replay_model.specs.ActNotes.{ActNote}
use Rattle.replay_model.specs.Schedule.{acts_from}
use Rattle.replay_host.specs.declared.host.Host.{Host}
use Rattle.replay_host.specs.Lines.{IsAt}
use Rattle.replay_host.specs.Playing.{HasDone}

-- no line is played yet, and what each line names is there
pub record Begins {T W S : Type 0} (means : Meaning T W S) (scenario : Parts) (host : Host T W S) : Type 0 where
  pub at : IsAt means scenario [] scenario.lines [] host
  pub reach : AreInReach scenario.buffers scenario.producers scenario.writers scenario.lines

-- all lines were played
pub record HavePlayed {T W S : Type 0} (means : Meaning T W S) (scenario : Parts) (old : Host T W S) (taken : Intake) (new : Host T W S) (left : Intake) : Type 0
  where
    pub notes : List ActNote
    pub at : IsAt means scenario scenario.lines [] notes new
    pub done : HasDone means (acts_from scenario [] scenario.lines) notes old taken new left

-- the lines before one were played
pub record HavePlayedTo {T W S : Type 0} (means : Meaning T W S) (scenario : Parts) (end : ℕ) (old : Host T W S) (taken : Intake) (new : Host T W S) (left : Intake) : Type 0
  where
    pub acts : List Act
    pub rest : acts_from scenario [] scenario.lines ≡ acts ++ acts_from scenario (take end scenario.lines) (drop end scenario.lines)
    pub notes : List ActNote
    pub at : IsAt means scenario (take end scenario.lines) (drop end scenario.lines) notes new
    pub done : HasDone means acts notes old taken new left
