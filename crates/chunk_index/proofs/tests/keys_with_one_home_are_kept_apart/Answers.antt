use Rattle.std.proofs.Common.{ℕ, ap, ◌∙◌}
use Rattle.std.specs.FinMap.{len, len-empty}
use Rattle.std.specs.Ordering.{nat_cmp}
use Rattle.chunk_index.specs.Value.{IndexValue}
use Rattle.chunk_index.proofs.tests.keys_with_one_home_are_kept_apart.Goals as goal

pub loop-position-init : goal.loop-position-init
loop-position-init g c = (
  ap (λ (i : IndexValue). len i.places) c.in_ok-index.ensures ∙ len-empty nat_cmp ℕ,
  ap (λ (i : IndexValue). i.capacity) c.in_ok-index.ensures,
)
