-- What a scenario is played with: what is made for it before its first line.
use Rattle.std.specs.Prelude.{◌≡◌, ℕ, ◌≤◌, Bool, List, [], length, vec_len, vec_capacity}
use Rattle.trace_model.specs.Buffers.{Buffer}
use Rattle.chunk_plain.specs.Meaning.{Meaning}
use Rattle.scenario_text.specs.declared.scenario.Scenario.{Scenario}
use Rattle.scenario_text.specs.Scenario.{IsScenario, parts_of}
use Rattle.loss_report.specs.declared.counts.Done.{Done}
use Rattle.replay_model.specs.Clones.{AreMadeFor}
use Rattle.replay_host.specs.declared.host.Host.{Host}
use Rattle.replay_host.specs.declared.raws.PayloadRoom.{PayloadRoom}
use Rattle.replay_host.specs.Making.{IsMade}
use Rattle.replay_host.specs.Raws.{AreMarked, HasRoom, raws_in}

-- The scenario is one by its limits, the host has all lines before it, writers are marked in whose names lines commit chunks, there is room for
-- payloads, clones and counts, and for the answers of lines `raw`, of which there are none yet.
pub record IsReady {T W S : Type 0} (means : Meaning T W S) (scenario : Scenario) (host : Host T W S) (marks : List Bool) (payloads : PayloadRoom)
    (clones : List Buffer) (done : Done) : Type 0
  where
    pub within : IsScenario scenario
    pub made : IsMade means (parts_of scenario) host
    pub marked : AreMarked scenario.lines (length scenario.writers.items) marks
    pub payload_room : HasRoom (means.setup host.table).sizes payloads
    pub cloned : AreMadeFor (parts_of scenario) clones
    pub buffers : vec_len done.buffers ≡ vec_len scenario.buffers
    pub sequences : vec_len done.sequences ≡ vec_len scenario.writers
    pub unanswered : done.raws.items ≡ []
    pub answer_room : raws_in scenario.lines ≤ vec_capacity done.raws
