use Rattle.std.proofs.Common.{◌/◌, ◌<◌, ◌≤◌, arith}
use Rattle.wire_varint.proofs.Counting.{counted_nothing, counted_more, counted_last}
use Rattle.wire_varint.proofs.write.varint_len.Goals as goal

pub loop-rest-init : goal.loop-rest-init
loop-rest-init c =
    let large : 128 ≤ c.args.value = omega arith in
    let larger : 128 ≤ c.args.value / 128 = omega arith in
    let largest : 128 ≤ c.args.value / 128 / 128 = omega arith in
    counted_more _ _ _ (counted_more _ _ _ (counted_more _ _ _ (counted_nothing c.args.value c.ranges.value.fits) large) larger) largest

pub loop-rest-preserved : goal.loop-rest-preserved
loop-rest-preserved c = counted_more _ _ _ c.loop-rest.invariant c.loop-rest-test.true

pub returns-clause-is : goal.returns-clause-is
returns-clause-is c = counted_last _ _ _ c.loop-rest.invariant c.loop-rest-test.false

pub returns-then-value-lt128-clause-is : goal.returns-then-value-lt128-clause-is
returns-then-value-lt128-clause-is c = counted_last _ _ _ (counted_nothing c.args.value c.ranges.value.fits) c.if-value-lt128.true

pub returns-then-value-lt16384-clause-is : goal.returns-then-value-lt16384-clause-is
returns-then-value-lt16384-clause-is c =
    let large : 128 ≤ c.args.value = omega arith in
    let small : c.args.value / 128 < 128 = omega arith in
    counted_last _ _ _ (counted_more _ _ _ (counted_nothing c.args.value c.ranges.value.fits) large) small

pub returns-then-value-lt2097152-clause-is : goal.returns-then-value-lt2097152-clause-is
returns-then-value-lt2097152-clause-is c =
    let large : 128 ≤ c.args.value = omega arith in
    let larger : 128 ≤ c.args.value / 128 = omega arith in
    let small : c.args.value / 128 / 128 < 128 = omega arith in
    counted_last _ _ _ (counted_more _ _ _ (counted_more _ _ _ (counted_nothing c.args.value c.ranges.value.fits) large) larger) small
