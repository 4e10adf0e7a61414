use Rattle.std.proofs.Common.{◌≡◌, ◌-◌}
use Rattle.byte_io.specs.Bytes.{TakesUpTo}
use Rattle.byte_io.specs.Buffered.{pending_bytes}
use Rattle.byte_io.proofs.buffered.PendingBytes.pass_on.Given as goal

abbrev pub invariant-loop-self : goal.invariant-loop-self
invariant-loop-self g l =
    TakesUpTo (g.O.Sink.taken l.fn.inner) (g.O.Sink.taken l.inner) (pending_bytes l.fn.self) (pending_bytes l.self)
    × (g.O.Sink.faults l.inner ≡ g.O.Sink.faults l.fn.inner) × g.O.Sink.may_write l.inner

abbrev pub decreases-loop-self : goal.decreases-loop-self
decreases-loop-self g l = l.self.filled - l.self.passed
