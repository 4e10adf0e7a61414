use Rattle.std.proofs.Common.{◌≡◌}
use Rattle.ring_bytes.specs.declared.ring.TheConstants.{MAX_RING_SIZE}
use Rattle.buffer_speed.proofs.records.write_records.Given as goal

abbrev pub invariant-loop-chunk_id : goal.invariant-loop-chunk_id
invariant-loop-chunk_id l = l.ring.room ≡ MAX_RING_SIZE
