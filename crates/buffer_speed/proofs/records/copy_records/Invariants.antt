use Rattle.std.proofs.Common.{◌≡◌, ◌≤◌, length}
use Rattle.ring_bytes.specs.declared.ring.TheConstants.{MAX_RING_SIZE}
use Rattle.buffer_speed.proofs.records.copy_records.Given as goal

abbrev pub invariant-loop : goal.invariant-loop
invariant-loop l = (length l.bytes.items ≡ MAX_RING_SIZE) × (l.next ≤ MAX_RING_SIZE) × (l.last ≤ MAX_RING_SIZE)
