-- What the lines lead to is a replay, as it is said of the program.
use Rattle.std.proofs.Common.{◌≡◌, ℕ, ◌≤◌, List, length}
use Rattle.byte_io.specs.Bytes.{Intake, after_told}
use Rattle.trace_model.specs.Counts.{last_count}
use Rattle.trace_model.specs.Delivery.{trace_of}
use Rattle.chunk_plain.specs.Setup.{Setup}
use Rattle.chunk_plain.specs.World.{World}
use Rattle.scenario_text.specs.declared.scenario.Scenario.{Scenario}
use Rattle.scenario_text.specs.Scenario.{Parts, IsScenario, parts_of}
use Rattle.scenario_text.specs.Accepted.{ScenariosAreAccepted}
use Rattle.scenario_text.specs.Limits.{ScenariosAreSetUp}
use Rattle.replay_model.specs.Enough.{IsPlayable}
use Rattle.replay_model.specs.ActNotes.{ActNote}
use Rattle.replay_model.specs.Played.{IsPlayed, Replays, records_in, report_of}
use Rattle.replay_model.proofs.BalanceLemmas.{every_report_is_balanced}
use Rattle.replay_model.proofs.WholeLemmas.{every_enough_replay_is_complete}
use Rattle.replay_model.proofs.CountLemmas.{every_report_counts_packets}
use Rattle.replay_model.proofs.PlayedLemmas.{every_replay_is_faithful}

-- what the grammar gives can be played
pub scenario_is_playable : (scenario : Scenario) → IsScenario scenario → length scenario.lines ≤ last_count → ScenariosAreSetUp → ScenariosAreAccepted
    → IsPlayable (parts_of scenario)
scenario_is_playable scenario is few set_up accepted = record { few = few; set_up = set_up scenario is; asks = accepted scenario is }

abbrev pub replays_of : (scenario : Parts) (setup : Setup) (world : World) (notes : List ActNote) (old new : Intake) (text : List ℕ) → IsPlayed scenario setup world notes
    → IsPlayable scenario → new ≡ after_told old (trace_of (records_in scenario setup world)) → text ≡ report_of scenario setup world notes
    → Replays scenario old new text
replays_of scenario setup world notes old new text played playable trace report = record {
  setup = setup;
  world = world;
  notes = notes;
  played = played;
  trace = trace;
  report = report;
  faithful = every_replay_is_faithful scenario setup world notes played;
  balanced = every_report_is_balanced scenario setup world notes played playable.few playable.set_up;
  counted = every_report_counts_packets scenario setup world notes played playable.few playable.set_up;
  complete = every_enough_replay_is_complete scenario setup world notes played playable;
}
