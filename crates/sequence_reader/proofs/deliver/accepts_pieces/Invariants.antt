use Rattle.std.proofs.Common.{◌-◌, ◌^◌}
use Rattle.sequence_reader.specs.Spots.{reach_of}
use Rattle.sequence_reader.proofs.CheckingLemmas.{IsChecking}
use Rattle.sequence_reader.proofs.deliver.accepts_pieces.Given as goal

abbrev pub invariant-loop-piece : goal.invariant-loop-piece
invariant-loop-piece l = IsChecking l.buffer l.bounds l.fn.spot l.piece l.check

abbrev pub decreases-loop-piece : goal.decreases-loop-piece
decreases-loop-piece l = 2 ^ 59 - reach_of l.piece.behind
