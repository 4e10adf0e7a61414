use Rattle.std.proofs.Common.{◌≡◌, ◌-◌, ◌≤◌}
use Rattle.trace_model.specs.Reading.{reading_of, fragments_of}
use Rattle.sequence_reader.specs.Spots.{start_from}
use Rattle.sequence_reader.proofs.spot.start_of.Given as goal

abbrev pub invariant-loop-passed : goal.invariant-loop-passed
invariant-loop-passed l = record {
  few : l.passed ≤ l.number;
  at : l.at ≡ start_from 0 l.passed (fragments_of (reading_of l.count l.payload));
}

abbrev pub decreases-loop-passed : goal.decreases-loop-passed
decreases-loop-passed l = l.number - l.passed
