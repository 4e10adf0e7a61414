-- Clones of buffers while a scenario is played.
use Rattle.std.specs.Prelude.{◌≡◌, ℕ, ◌-◌, List, map, Some}
use Rattle.byte_io.specs.Bytes.{Intake}
use Rattle.trace_model.specs.Buffers.{Buffer}
use Rattle.trace_model.specs.History.{buffers_after}
use Rattle.trace_buffer.specs.Clones.{made_from, cloned}
use Rattle.scenario_text.specs.declared.scenario.NumberedLine.{NumberedLine}
use Rattle.scenario_text.specs.Clones.{clones_in}
use Rattle.scenario_text.specs.Scenario.{Parts}
use Rattle.chunk_plain.specs.Histories.{history_of}
use Rattle.chunk_plain.specs.Meaning.{Meaning}
use Rattle.chunk_plain.specs.World.{World}
use Rattle.loss_report.specs.declared.counts.Done.{Done}
use Rattle.loss_report.specs.Raws.{done_text}
use Rattle.service_core.specs.Agreement.{first_of}
use Rattle.service_core.specs.Routing.{buffer_at}
use Rattle.replay_model.specs.Clones.{MakeClones, ReplaysCloning}
use Rattle.replay_host.specs.declared.host.Host.{Host}

-- each clone of these lines is as its buffer was at first
abbrev pub AreAsMade : {T W S : Type 0} → Meaning T W S → Host T W S → List NumberedLine → List Buffer → Type 0
AreAsMade means host lines clones =
    clones ≡ map (λ number. buffer_at (first_of (means.setup host.table) host.helper.service) (number - 1)) (clones_in lines)

-- the clone was made with as many bytes and for the same sequences as the buffer with this number
pub record FitsClone {T W S : Type 0} (host : Host T W S) (number : ℕ) (clone : Buffer) : Type 0 where
  pub room : clone.room ≡ (buffer_at host.helper.service.buffers.items (number - 1)).room
  pub sequences : map made_from clone.sequences ≡ map made_from (buffer_at host.helper.service.buffers.items (number - 1)).sequences

-- the clone of the buffer with this number, by what the service has noted
abbrev pub clone_now : {T W S : Type 0} → Meaning T W S → Host T W S → (number : ℕ) → Buffer
clone_now means host number =
    cloned (buffer_at (buffers_after (first_of (means.setup host.table) host.helper.service)
    (history_of (means.service_view host.table host.helper.service.seat))) (number - 1))

-- in the worlds that are told, the lines behind these lead from the one table's to the other's, and make these clones
abbrev pub HaveCloned : {T W S : Type 0} → Meaning T W S → Parts → (before lines : List NumberedLine) → (old new : Host T W S) → List Buffer → Type 0
HaveCloned means scenario before lines old new clones =
    (was : World) → means.told old.table ≡ Some was → (is : World) × (means.told new.table ≡ Some is)
    × MakeClones scenario (means.setup old.table) before lines was is clones

-- the scenario was replayed with these clones, and this is what its report says
abbrev pub HasReplayedCloning : Parts → (old new : Intake) → Done → List Buffer → Type 0
HasReplayedCloning scenario old new done clones = ReplaysCloning scenario old new (done_text done) clones
