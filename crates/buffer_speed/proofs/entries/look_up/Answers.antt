use Rattle.std.proofs.Common.{ℕ, ap, ◌∙◌, arith}
use Rattle.std.specs.FinMap.{len, len-empty}
use Rattle.std.specs.Ordering.{nat_cmp}
use Rattle.chunk_index.specs.Value.{IndexValue}
use Rattle.buffer_speed.proofs.entries.look_up.Goals as goal

pub loop-entry-init : goal.loop-entry-init
loop-entry-init c =
    let none = ap (λ (i : IndexValue). len i.places) c.in-Ok.ensures ∙ len-empty nat_cmp ℕ in
    (omega (arith, none), ap (λ (i : IndexValue). i.capacity) c.in-Ok.ensures)
