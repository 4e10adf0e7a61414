use Rattle.std.proofs.Common.{arith, inl, inr}
use Rattle.std.proofs.lemmas.List.{take_rest}
use Rattle.trace_file.specs.Faults.{IsGroup, IsBadTag}
use Rattle.trace_file.specs.Values.{value_of}
use Rattle.trace_model.proofs.FieldLemmas.{spells}
use Rattle.trace_file.proofs.FieldLemmas.{is_group, is_bad, lacks_behind, no_group, good_tag}
use Rattle.trace_file.proofs.field.first_field.Goals as goal
use Rattle.trace_file.proofs.field.first_field.Goals.{then-wire-eq3-via-then-wire-eq3, then-wire-eq3-via-else-wire-eq3+then-wire-eq4, then-number-eq0-via-then-number-eq0, then-number-eq0-via-else-number-eq0+then-number-from, then-number-eq0-via-else-number-eq0+else-number-from+then-wire-gt5}

pub returns-then-wire-eq3-clause-lacks : goal.returns-then-wire-eq3-clause-lacks
returns-then-wire-eq3-clause-lacks c =
    let group : IsGroup c.in_ok-tag.tag = elim c.then-wire-eq3.branch [
      | then-wire-eq3-via-then-wire-eq3 w ↦ inl (omega arith)
      | then-wire-eq3-via-else-wire-eq3+then-wire-eq4 w ↦ inr (omega arith)
    ] in
    is_group c.args.bytes.now c.in_ok-tag.width c.in_ok-tag.tag c.in_ok-tag.ensures.varint group

pub returns-then-number-eq0-clause-lacks : goal.returns-then-number-eq0-clause-lacks
returns-then-number-eq0-clause-lacks c =
    let bad : IsBadTag c.in_ok-tag.tag = elim c.then-number-eq0.branch [
      | then-number-eq0-via-then-number-eq0 w ↦ inl (omega arith)
      | then-number-eq0-via-else-number-eq0+then-number-from w ↦ inr (inl (omega (arith, w.from.ensures)))
      | then-number-eq0-via-else-number-eq0+else-number-from+then-wire-gt5 w ↦ inr (inr (omega arith))
    ] in
    is_bad c.args.bytes.now c.in_ok-tag.width c.in_ok-tag.tag c.in_ok-tag.ensures.varint
    (no_group c.in_ok-tag.tag c.if-wire-eq3.false c.if-wire-eq4.false) bad

pub returns-in-Err-clause-lacks : goal.returns-in-Err-clause-lacks
returns-in-Err-clause-lacks c =
    let behind = rw (take_rest c.args.bytes.now c.in_ok-tag.width) at c.in-Err.ensures.lacks in
    lacks_behind c.args.bytes.now c.in-Err.fault c.in_ok-tag.width c.in_ok-tag.tag c.in_ok-tag.ensures.varint
    (no_group c.in_ok-tag.tag c.if-wire-eq3.false c.if-wire-eq4.false)
    (good_tag c.in_ok-tag.tag c.if-number-eq0.false (omega (arith, c.from.ensures)) (omega arith)) behind

pub returns-in-Ok-clause-field : goal.returns-in-Ok-clause-field
returns-in-Ok-clause-field c =
    let value = rw (take_rest c.args.bytes.now c.in_ok-tag.width) at c.in-Ok.ensures.value in
    spells c.args.bytes.now c.in_ok-tag.width c.in_ok-tag.tag c.in-Ok.len (value_of c.in-Ok.value) c.in_ok-tag.ensures.varint
    (omega arith) (omega (arith, c.from.ensures)) c.in-Ok.ensures.wire value
