use Rattle.std.proofs.Common.{arith, None, [], ◌∷◌, sym, subst}
use Rattle.field_tree.specs.Machine.{TextReading, beginning}
use Rattle.field_tree.specs.Scanning.{RunsOver}
use Rattle.field_tree.specs.Views.{reading}
use Rattle.field_tree.proofs.AnswerLemmas.{nodes_fit}
use Rattle.field_tree.proofs.LoopLemmas.{depth_before, valid_before, back_before, read_more, reads_on, refused_at, ends_at}
use Rattle.field_tree.proofs.ScanLemmas.{stays_here, over_both}
use Rattle.field_tree.proofs.parser.read.Goals as goal

pub bytes-init : goal.bytes-init
bytes-init c = (
  subst (λ (r : TextReading). RunsOver beginning c.args.text.now r c.args.text.now) (sym c.start.ensures.reading) (stays_here beginning c.args.text.now),
  c.start.ensures.kept,
)

pub read_on-requires-clause-valid : goal.read_on-requires-clause-valid
read_on-requires-clause-valid c = valid_before _ _ (reading c.bytes.parser c.bytes.mode) c.bytes.invariant.0

pub read_on-requires-clause-depth : goal.read_on-requires-clause-depth
read_on-requires-clause-depth c =
    let deep = depth_before _ _ (reading c.bytes.parser c.bytes.mode) c.bytes.invariant.0 in
    omega arith

pub bytes-preserved-then-left-rest : goal.bytes-preserved-then-left-rest
bytes-preserved-then-left-rest c = (over_both _ _ _ _ _ _ c.bytes.invariant.0 c.in-Ok.ensures.over, c.in-Ok.ensures.kept)

pub end-requires-clause-depth : goal.end-requires-clause-depth
end-requires-clause-depth c =
    let deep = depth_before _ _ (reading c.read_on.new.self c.in-Ok.to) (over_both _ _ _ _ _ _ c.bytes.invariant.0 c.in-Ok.ensures.over) in
    omega arith

pub end-requires-clause-valid : goal.end-requires-clause-valid
end-requires-clause-valid c =
    valid_before _ _ (reading c.read_on.new.self c.in-Ok.to) (over_both _ _ _ _ _ _ c.bytes.invariant.0 c.in-Ok.ensures.over)

pub returns-in-Ok-true : goal.returns-in-Ok-true
returns-in-Ok-true c =
    let over = reads_on _ _ _ [] _ _ c.bytes.invariant.0 c.in-Ok.ensures.over c.in_default-first_byte.ensures in
    let given = ends_at c.args.text.now _ _ over (rw c.in-Ok-true.field-0-test at c.in-Ok-true.ensures.ended) in
    record {
      nodes = (given, record { are = c.in-Ok-true.ensures.kept.written; fit = nodes_fit c.args.text.now _ given });
      found = c.in-Ok-true.ensures.kept.surveyed;
    }

pub returns-in-Ok-false : goal.returns-in-Ok-false
returns-in-Ok-false c =
    let over = reads_on _ _ _ [] _ _ c.bytes.invariant.0 c.in-Ok.ensures.over c.in_default-first_byte.ensures in
    record {
      nodes = rw c.bad_field.ensures (ends_at c.args.text.now _ None over (rw c.in-Ok-false.field-0-test at c.in-Ok-false.ensures.ended));
      found = tt;
    }

pub step-requires-clause-depth : goal.step-requires-clause-depth
step-requires-clause-depth c =
    let deep = depth_before _ _ (reading c.read_on.new.self c.in-Ok.to) (over_both _ _ _ _ _ _ c.bytes.invariant.0 c.in-Ok.ensures.over) in
    omega arith

pub step-requires-clause-valid : goal.step-requires-clause-valid
step-requires-clause-valid c =
    valid_before _ _ (reading c.read_on.new.self c.in-Ok.to) (over_both _ _ _ _ _ _ c.bytes.invariant.0 c.in-Ok.ensures.over)

pub bytes-preserved : goal.bytes-preserved
bytes-preserved c =
    let over = reads_on _ _ _ (c.in-Some.byte ∷ c.in-Some.behind.now) _ _ c.bytes.invariant.0 c.in-Ok.ensures.over c.in-Some.ensures in
    let goes = rw c.in-Ok-true-step.field-0-test at c.in-Ok-true-step.ensures.taken in
    (read_more _ _ c.in-Some.byte _ _ over goes, c.in-Ok-true-step.ensures.kept)

pub overflow_sub-column-in-Ok-false-step : goal.overflow_sub-column-in-Ok-false-step
overflow_sub-column-in-Ok-false-step c =
    let over = reads_on _ _ _ (c.in-Some.byte ∷ c.in-Some.behind.now) _ _ c.bytes.invariant.0 c.in-Ok.ensures.over c.in-Some.ensures in
    let refused = rw c.in-Ok-false-step.field-0-test at c.in-Ok-false-step.ensures.taken in
    let within = back_before _ _ c.in-Some.byte _ over refused in
    rw c.taken_back.ensures (omega (arith, within))

pub returns-in-Ok-false-step : goal.returns-in-Ok-false-step
returns-in-Ok-false-step c =
    let over = reads_on _ _ _ (c.in-Some.byte ∷ c.in-Some.behind.now) _ _ c.bytes.invariant.0 c.in-Ok.ensures.over c.in-Some.ensures in
    let refused = rw c.in-Ok-false-step.field-0-test at c.in-Ok-false-step.ensures.taken in
    record {
      nodes = rw (c.bad_field-in-Ok-false-step.ensures, c.taken_back.ensures) (refused_at _ _ c.in-Some.byte _ over refused);
      found = tt;
    }
