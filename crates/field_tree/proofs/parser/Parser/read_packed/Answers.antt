use Rattle.std.proofs.Common.{◌≡◌, Some, refl, sym}
use Rattle.field_tree.specs.declared.node.FieldNode.TheVariants.{Bytes}
use Rattle.field_tree.specs.declared.mode.Mode.TheVariants.{Packed, After}
use Rattle.field_tree.specs.Judged.{level}
use Rattle.field_tree.specs.Machine.{settled_as}
use Rattle.field_tree.specs.Views.{reading}
use Rattle.field_tree.proofs.EndLemmas.{ended_first}
use Rattle.field_tree.proofs.ScanLemmas.{stays_here, over_front}
use Rattle.field_tree.proofs.parser.Parser.read_packed.Goals as goal

pub returns-in_ok-end_field-in-Some-clause-over : goal.returns-in_ok-end_field-in-Some-clause-over
unfolding level
returns-in_ok-end_field-in-Some-clause-over c =
    let old = c.args.self.now in
    let mid = c.push_once.new.self in
    let pushed = c.in_ok-push_once-in-Some.ensures.pushed in
    let from = reading old (Packed c.args.field) in
    let to = reading c.end_field.new.self c.in_ok-end_field-in-Some.field-0 in
    let settles : reading mid After ≡ settled_as (Some (Bytes c.args.field 1)) from = rw (pushed.0, pushed.1, pushed.2) refl in
    over_front c.in-Some.byte from to to c.args.bytes.now c.in-Some.behind.now c.in-Some.behind.now c.in-Some.ensures
    (ended_first from (reading mid After) to (Bytes c.args.field 1) c.in-Some.byte refl (sym c.if-ends_here.ensures) settles
    c.in_ok-end_field-in-Some.ensures.next)
    (stays_here to c.in-Some.behind.now)

pub returns-in_default-clause-over : goal.returns-in_default-clause-over
returns-in_default-clause-over c = stays_here (reading c.args.self.now (Packed c.args.field)) c.args.bytes.now
