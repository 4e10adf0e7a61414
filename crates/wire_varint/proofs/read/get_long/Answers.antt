use Rattle.std.proofs.Common.{arith}
use Rattle.wire_varint.proofs.Scanning.{scale_fits, read_more, read_last, none_end, none_over}
use Rattle.wire_varint.proofs.read.get_long.Goals as goal
use Rattle.wire_varint.proofs.read.get_long.Goals.{else-at-eq9-via-then-at-eq9+else-byte-gt-TENTH_BYTE_MAX, else-at-eq9-via-else-at-eq9}

pub returns-then-byte-gt-TENTH_BYTE_MAX-clause-none : goal.returns-then-byte-gt-TENTH_BYTE_MAX-clause-none
returns-then-byte-gt-TENTH_BYTE_MAX-clause-none c = none_over _ _ _ _ c.loop-at.invariant c.loop-at-test.true c.if-byte-gt-TENTH_BYTE_MAX.true c.if-at-eq9.true

pub returns-then-byte-lt128-clause-found : goal.returns-then-byte-lt128-clause-found
returns-then-byte-lt128-clause-found c =
    read_last _ _ _ _ _ c.loop-at.invariant c.loop-at-test.true c.if-byte-lt128.true c.from.ensures (λ nine. elim c.else-at-eq9.branch [
      | else-at-eq9-via-then-at-eq9+else-byte-gt-TENTH_BYTE_MAX w ↦ w.if-byte-gt-TENTH_BYTE_MAX.false
      | else-at-eq9-via-else-at-eq9 w ↦ absurd (w.if-at-eq9.false nine)
    ])

pub overflow_mul-scale : goal.overflow_mul-scale
overflow_mul-scale c =
    omega (
      arith,
      scale_fits _ _ _ _ c.loop-at.invariant (λ nine. elim c.else-at-eq9.branch [
        | else-at-eq9-via-then-at-eq9+else-byte-gt-TENTH_BYTE_MAX w ↦ omega arith
        | else-at-eq9-via-else-at-eq9 w ↦ w.if-at-eq9.false nine
      ]),
    )

pub loop-at-preserved : goal.loop-at-preserved
loop-at-preserved c =
    read_more _ _ _ _ _ c.loop-at.invariant c.loop-at-test.true c.if-byte-lt128.false c.from.ensures (λ nine. elim c.else-at-eq9.branch [
      | else-at-eq9-via-then-at-eq9+else-byte-gt-TENTH_BYTE_MAX w ↦ omega arith
      | else-at-eq9-via-else-at-eq9 w ↦ w.if-at-eq9.false nine
    ])

pub returns-clause-none : goal.returns-clause-none
returns-clause-none c = none_end _ _ _ _ c.loop-at.invariant c.loop-at-test.false
