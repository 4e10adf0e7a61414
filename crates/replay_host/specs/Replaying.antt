-- What the replay of a scenario answers, and why one stops.
use Rattle.std.specs.Prelude.{◌≡◌, ℕ, ◌≤◌, Result, MatchResult}
use Rattle.byte_io.specs.Bytes.{Intake, Faulted}
use Rattle.trace_model.specs.Delivery.{IsFaithfulOf}
use Rattle.chunk_plain.specs.Plain.{first_world}
use Rattle.chunk_plain.specs.Setup.{Setup}
use Rattle.loss_report.specs.declared.counts.Done.{Done}
use Rattle.loss_report.specs.Raws.{done_text}
use Rattle.scenario_text.specs.Scenario.{Parts}
use Rattle.scenario_text.specs.Emissions.{emitted_in}
use Rattle.scenario_text.specs.Raws.{HasNoRaw}
use Rattle.replay_model.specs.Played.{IsSetupOf, buffers_of, Replays}
use Rattle.replay_model.specs.Schedule.{schedule_of}
use Rattle.replay_host.specs.declared.fault.HostFault.{HostFault}
use Rattle.replay_host.specs.declared.fault.HostFault.TheVariants.{OutOfMemory, WriteFault, Stalled}
use Rattle.replay_host.specs.Stopping.{StopsAt}

-- the scenario was replayed, and this is what its report says
abbrev pub HasReplayed : Parts → (old new : Intake) → Done → Type 0
HasReplayed scenario old new done = Replays scenario old new (done_text done)

-- The acts of the scenario stopped at one: a writer stalled in it, or a write failed in its read. What the trace has taken is said with it:
-- records that are faithful to what the scenario has its writers emit, of each in whose name no line commits a chunk; all of these records,
-- or where a write failed a front part of them.
pub record HasStopped (scenario : Parts) (fault : HostFault) (old new : Intake) : Type 0 where
  pub setup : Setup
  pub setup_is : IsSetupOf scenario setup
  pub stops : StopsAt setup (buffers_of scenario setup) (schedule_of scenario) (first_world setup) fault old new
  pub faithful : IsFaithfulOf (HasNoRaw scenario.lines) (emitted_in scenario) stops.records

-- why a scenario isn't played to its end; memory is free to run out, before anything is written
abbrev pub EndsEarly : Parts → HostFault → (old new : Intake) → Type 0
EndsEarly scenario OutOfMemory old new = new ≡ old
EndsEarly scenario fault old new = HasStopped scenario fault old new

-- the sink's faults rose where a write failed, and nowhere else
abbrev pub CountsOne : HostFault → (old new : ℕ) → Type 0
CountsOne WriteFault old new = Faulted old new
CountsOne fault old new = new ≡ old

-- a call that succeeded left the sink's faults as they were, and one that stopped counts so
abbrev pub CountsStop : {A : Type 0} → (old new : ℕ) → Result A HostFault → Type 0
CountsStop old new result = MatchResult result (λ _. new ≡ old) (λ fault. (old ≤ new) × CountsOne fault old new)

-- a writer stalled: no write failed
abbrev pub IsStall : HostFault → Type 0
IsStall (Stalled writer) = Unit {0}
IsStall fault = ⊥
