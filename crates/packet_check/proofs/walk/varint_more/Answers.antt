use Rattle.std.proofs.Common.{◌≢◌, ◌+◌, ◌*◌, ◌^◌, ◌<◌, arith}
use Rattle.packet_check.proofs.StepLemmas.{value_fits, scale_fits}
use Rattle.packet_check.proofs.walk.varint_more.Goals as goal
use Rattle.packet_check.proofs.walk.varint_more.Goals.{else-count-eq9-via-then-count-eq9+else-byte-gt-TENTH_BYTE_MAX, else-count-eq9-via-else-count-eq9}

pub overflow_mul-value : goal.overflow_mul-value
overflow_mul-value c =
    let fits = value_fits c.args.value c.args.scale c.args.count c.args.byte c.requires.varint (λ nine. elim c.else-count-eq9.branch [
      | else-count-eq9-via-then-count-eq9+else-byte-gt-TENTH_BYTE_MAX w ↦ w.if-byte-gt-TENTH_BYTE_MAX.false
      | else-count-eq9-via-else-count-eq9 w ↦ absurd (w.if-count-eq9.false nine)
    ]) in
    let same : c.args.value + c.args.scale * c.from.result < 2 ^ 64 = rw c.from.ensures fits in
    omega (arith, same)

pub overflow_add-value : goal.overflow_add-value
overflow_add-value c =
    let fits = value_fits c.args.value c.args.scale c.args.count c.args.byte c.requires.varint (λ nine. elim c.else-count-eq9.branch [
      | else-count-eq9-via-then-count-eq9+else-byte-gt-TENTH_BYTE_MAX w ↦ w.if-byte-gt-TENTH_BYTE_MAX.false
      | else-count-eq9-via-else-count-eq9 w ↦ absurd (w.if-count-eq9.false nine)
    ]) in
    let same : c.args.value + c.args.scale * c.from.result < 2 ^ 64 = rw c.from.ensures fits in
    omega (arith, same)

pub overflow_mul-scale : goal.overflow_mul-scale
overflow_mul-scale c =
    let before : c.args.count ≢ 9 = (λ nine. elim c.else-count-eq9.branch [
      | else-count-eq9-via-then-count-eq9+else-byte-gt-TENTH_BYTE_MAX w ↦ omega (arith, w.if-byte-gt-TENTH_BYTE_MAX.false, c.if-byte-lt128.false)
      | else-count-eq9-via-else-count-eq9 w ↦ w.if-count-eq9.false nine
    ]) in
    omega (arith, scale_fits c.args.value c.args.scale c.args.count c.requires.varint before)
