use Rattle.std.proofs.Common.{◌≡◌, ℕ, Some, IsSome}
use Rattle.ring_bytes.specs.Value.{stored_at}
use Rattle.ring_bytes.proofs.tests.live_at.Given as goal

abbrev pub invariant-loop : goal.invariant-loop
invariant-loop l = (at : ℕ) → l.at ≡ Some at → IsSome (stored_at l.ring at)
