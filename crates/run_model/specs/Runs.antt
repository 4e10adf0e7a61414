-- The run of a scenario on threads, end to end: the account that its threads led to, and the trace and the report that are functions of it.
use Rattle.std.specs.Prelude.{◌≡◌, ℕ, List, [], ◌∷◌, ◌++◌, length, Some, slice_get}
use Rattle.byte_io.specs.Bytes.{Intake, after_told, TakesPart}
use Rattle.trace_model.specs.Balance.{PacketCounts}
use Rattle.trace_model.specs.Delivery.{Delivered, IsFaithful, IsComplete, trace_of}
use Rattle.chunk_plain.specs.Setup.{Setup}
use Rattle.chunk_plain.specs.World.{World}
use Rattle.scenario_text.specs.Scenario.{Parts}
use Rattle.scenario_text.specs.Emissions.{emitted_in}
use Rattle.scenario_text.specs.Raws.{HasNoRaw}
use Rattle.replay_model.specs.Enough.{HasEnough}
use Rattle.replay_model.specs.Played.{records_in, packet_counts, report_with, AreBalanced, CountsPackets}
use Rattle.run_model.specs.Answered.{run_sums}
use Rattle.run_model.specs.Settled.{IsRun}
use Rattle.run_model.specs.Stopped.{StopsBefore}

-- The scenario was run: there is a world that its threads led to. The trace has taken that world's records and nothing else, and the text is its
-- report, with the chunks of each flush request by the answers that the service read. The records are faithful to what the scenario has its
-- writers emit, and the report counts every packet once, under its cause. Where chunks and bytes are enough, by the lines alone, no packet is
-- missing.
pub record Runs (scenario : Parts) (old new : Intake) (text : List ℕ) : Type 0 where
  pub setup : Setup
  pub world : World
  pub run : IsRun scenario setup world
  pub trace : new ≡ after_told old (trace_of (records_in scenario setup world))
  pub report : text ≡ report_with scenario setup world (run_sums (length setup.writers) world.service.letters)
  pub faithful : IsFaithful (emitted_in scenario) (records_in scenario setup world)
  pub balanced : AreBalanced scenario.lines (packet_counts scenario setup world)
  pub counted : (place : ℕ) (counts : PacketCounts) → HasNoRaw scenario.lines place
      → slice_get (packet_counts scenario setup world) place ≡ Some counts
      → CountsPackets scenario setup world place counts
  pub complete : HasEnough scenario → IsComplete (emitted_in scenario) (records_in scenario setup world)

-- A write failed, in the reads of the scenario's lines or in those of the end. There is a world that its threads led to, whose reads end before the
-- record that was next. The trace has taken that world's records whole, then at most a front part of that record, and nothing else. The world's records
-- with that record behind them are faithful to what the scenario has its writers emit.
pub record FailsRun (scenario : Parts) (old new : Intake) : Type 0 where
  pub setup : Setup
  pub world : World
  pub next : Delivered
  pub run : StopsBefore scenario setup world next
  pub trace : TakesPart (after_told old (trace_of (records_in scenario setup world))) new next.bytes
  pub faithful : IsFaithful (emitted_in scenario) (records_in scenario setup world ++ next ∷ [])
