use Rattle.std.proofs.Common.{◌≡◌, ◌+◌, ◌-◌, ◌≤◌, vec_len}
use Rattle.byte_io.specs.Bytes.{before_told}
use Rattle.byte_io.proofs.fill.fill_all.Given as goal

abbrev pub invariant-pieces : goal.invariant-pieces
invariant-pieces g l =
    (g.S.Source.left l.fn.src ≡ before_told l.bytes.items (g.S.Source.left l.src))
    × (g.S.Source.faults l.src ≡ g.S.Source.faults l.fn.src) × (vec_len l.bytes ≤ l.limit + 1)
    × g.S.Source.may_ask l.src

abbrev pub decreases-pieces : goal.decreases-pieces
decreases-pieces g l = l.limit + 1 - vec_len l.bytes
