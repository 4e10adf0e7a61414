use Rattle.std.proofs.Common.{◌≡◌}
use Rattle.std.specs.FinMap.{len}
use Rattle.chunk_index.proofs.tests.keys_with_one_home_are_kept_apart.Given as goal

abbrev pub invariant-loop-position : goal.invariant-loop-position
invariant-loop-position g l = (len l.index.places ≡ l.position-index) × (l.index.capacity ≡ 16)
