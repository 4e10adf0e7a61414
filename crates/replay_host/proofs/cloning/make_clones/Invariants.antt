-- The clones of the lines before those that are still to come are made.
use Rattle.std.proofs.Common.{◌≡◌, ◌++◌, List, length, map}
use Rattle.scenario_text.specs.declared.scenario.NumberedLine.{NumberedLine}
use Rattle.scenario_text.specs.Clones.{clones_in}
use Rattle.scenario_text.specs.Scenario.{parts_of}
use Rattle.chunk_plain.specs.Setup.{Setup}
use Rattle.replay_model.specs.Clones.{first_of_number}
use Rattle.replay_model.specs.Played.{IsSetupOf}
use Rattle.replay_host.proofs.cloning.make_clones.Given as goal

abbrev pub invariant-lines : goal.invariant-lines
invariant-lines l = record {
  before : List NumberedLine;
  split : l.fn.scenario.lines ≡ before ++ l.walk;
  made : (setup : Setup) → IsSetupOf (parts_of l.fn.scenario) setup
      → l.clones.items ++ map (first_of_number (parts_of l.fn.scenario) setup) (clones_in l.walk)
      ≡ map (first_of_number (parts_of l.fn.scenario) setup) (clones_in l.fn.scenario.lines);
}

abbrev pub decreases-lines : goal.decreases-lines
decreases-lines l = length l.walk
