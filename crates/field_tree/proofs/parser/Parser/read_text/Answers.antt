use Rattle.std.proofs.Common.{◌≡◌, Some, refl, sym}
use Rattle.field_tree.specs.declared.node.FieldNode.TheVariants.{Bytes}
use Rattle.field_tree.specs.declared.mode.Mode.TheVariants.{After}
use Rattle.field_tree.specs.Judged.{level}
use Rattle.field_tree.specs.Machine.{settled_as, with_text}
use Rattle.field_tree.specs.Views.{reading}
use Rattle.field_tree.proofs.EndLemmas.{ended_first}
use Rattle.field_tree.proofs.ScanLemmas.{stays_here, over_front}
use Rattle.field_tree.proofs.parser.Parser.read_text.Goals as goal

pub returns-in_ok-end_field-in-Some-clause-over : goal.returns-in_ok-end_field-in-Some-clause-over
unfolding level
returns-in_ok-end_field-in-Some-clause-over c =
    let old = c.args.self.now in
    let scanned = c.args.scanned in
    let node = Bytes c.args.field c.args.times in
    let mid = c.push_text.new.self in
    let pushed = c.in_ok-push_text-in-Some.ensures.pushed in
    let from = with_text scanned.text.now (reading old scanned.mode) in
    let to = reading c.end_field.new.self c.in_ok-end_field-in-Some.field-0 in
    let settles : reading mid After ≡ settled_as (Some node) from = rw (pushed.0, pushed.1, pushed.2) refl in
    over_front c.in-Some.byte from to to scanned.behind.now c.in-Some.behind.now c.in-Some.behind.now c.in-Some.ensures
    (ended_first from (reading mid After) to node c.in-Some.byte c.requires.pending (sym c.if-ends_here.ensures) settles
    c.in_ok-end_field-in-Some.ensures.next)
    (stays_here to c.in-Some.behind.now)
