use Rattle.std.proofs.Common.{◌≡◌}
use Rattle.ring_bytes.proofs.tests.headers_are_byte_by_byte.Given as goal

abbrev pub invariant-loop-chunk_id : goal.invariant-loop-chunk_id
invariant-loop-chunk_id g l = l.ring.room ≡ 4096
