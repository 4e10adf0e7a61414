-- What plays a scenario, as it is made: nothing is played yet.
use Rattle.std.specs.Prelude.{◌≡◌, ℕ, ◌*◌, false, [], Some}
use Rattle.trace_base.specs.declared.limits.TheConstants.{BYTES_PER_KB}
use Rattle.scenario_text.specs.declared.scenario.BufferLine.{BufferLine}
use Rattle.scenario_text.specs.Scenario.{Parts}
use Rattle.chunk_plain.specs.Meaning.{Meaning}
use Rattle.chunk_plain.specs.Plain.{first_world}
use Rattle.chunk_plain.specs.Setup.{Setup}
use Rattle.chunk_plain.specs.Views.{newcomer}
use Rattle.chunk_plain.specs.declared.plain_seats.PlainWriter.{PlainWriter}
use Rattle.trace_buffer.specs.declared.answers.BufferSpec.{BufferSpec}
use Rattle.trace_writer.specs.declared.writer.WriterCore.{WriterCore}
use Rattle.trace_writer.specs.Core.{CoreAgrees, is_stalled}
use Rattle.replay_host.specs.declared.host.Host.{Host}
use Rattle.replay_host.specs.Lines.{IsAt}

-- what a buffer is made from
abbrev pub buffer_asked : BufferLine → BufferSpec
buffer_asked line = record { size = line.kb * BYTES_PER_KB; policy = line.policy }

-- a writer with the seat of this place, of which nothing was asked
pub record IsNewcomer (setup : Setup) (place : ℕ) (core : WriterCore PlainWriter) : Type 0 where
  pub place_is : core.seat.place ≡ place
  pub agrees : CoreAgrees setup place newcomer core
  pub going : is_stalled core ≡ false

-- All lines are to come, the table tells its first world, and nothing is noted.
pub record IsMade {T W S : Type 0} (means : Meaning T W S) (scenario : Parts) (host : Host T W S) : Type 0 where
  pub at : IsAt means scenario [] scenario.lines [] host
  pub told : means.told host.table ≡ Some (first_world (means.setup host.table))
  pub unnoted : (means.service_view host.table host.helper.service.seat).events ≡ []
