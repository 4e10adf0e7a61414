use Rattle.std.proofs.Common.{ap, length, arith, sym, ◌∙◌}
use Rattle.text_form.proofs.GapLemmas.{gap_begins, gap_feed, gap_blank, gap_comment, gap_refused}
use Rattle.text_form.proofs.gap.behind_gap.Goals as goal

pub bytes-init : goal.bytes-init
bytes-init c = gap_begins _ _

pub overflow_add-line : goal.overflow_add-line
overflow_add-line c =
    let long = ap length c.in-Some.ensures in
    let lines = c.bytes.invariant.leaves.lines in
    omega (arith, long, c.requires)

pub bytes-smaller-then-byte-eq10 : goal.bytes-smaller-then-byte-eq10
bytes-smaller-then-byte-eq10 c = let long = ap length c.in-Some.ensures in omega (arith, long)

pub bytes-preserved-then-byte-eq10 : goal.bytes-preserved-then-byte-eq10
bytes-preserved-then-byte-eq10 c = gap_feed _ _ _ _ _ _ c.bytes.invariant c.in-Some.ensures c.if-byte-eq10.true

pub bytes-smaller-then-is_blank : goal.bytes-smaller-then-is_blank
bytes-smaller-then-is_blank c = let long = ap length c.in-Some.ensures in omega (arith, long)

pub bytes-preserved-then-is_blank : goal.bytes-preserved-then-is_blank
bytes-preserved-then-is_blank c =
    gap_blank _ _ _ _ _ _ c.bytes.invariant c.in-Some.ensures c.if-byte-eq10.false (sym c.is_blank.ensures ∙ c.if-is_blank.true)

pub returns-in_default-behind_comment-clause-refuses : goal.returns-in_default-behind_comment-clause-refuses
returns-in_default-behind_comment-clause-refuses c =
    gap_refused _ _ _ _ _ _ c.bytes.invariant c.in-Some.ensures c.if-byte-eq35.true c.in_default-behind_comment.ensures

pub bytes-smaller : goal.bytes-smaller
bytes-smaller c =
    let long = ap length c.in-Some.ensures in
    let short = c.in-Some-behind_comment.ensures.0 in
    omega (arith, long, short)

pub bytes-preserved : goal.bytes-preserved
bytes-preserved c = gap_comment _ _ _ _ _ _ _ c.bytes.invariant c.in-Some.ensures c.if-byte-eq35.true c.in-Some-behind_comment.ensures

pub returns-else-byte-eq35-clause-passes : goal.returns-else-byte-eq35-clause-passes
returns-else-byte-eq35-clause-passes c = c.bytes.invariant

pub returns-clause-passes : goal.returns-clause-passes
returns-clause-passes c = c.bytes.invariant
