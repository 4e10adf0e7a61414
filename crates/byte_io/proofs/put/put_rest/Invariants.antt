use Rattle.std.proofs.Common.{◌≡◌, length}
use Rattle.byte_io.specs.Bytes.{TakesUpTo}
use Rattle.byte_io.proofs.put.put_rest.Given as goal

abbrev pub invariant-loop-rest : goal.invariant-loop-rest
invariant-loop-rest g l =
    TakesUpTo (g.O.Sink.taken l.fn.out) (g.O.Sink.taken l.out) l.fn.piece l.rest
    × (g.O.Sink.faults l.out ≡ g.O.Sink.faults l.fn.out) × g.O.Sink.may_write l.out

abbrev pub decreases-loop-rest : goal.decreases-loop-rest
decreases-loop-rest g l = length l.rest
