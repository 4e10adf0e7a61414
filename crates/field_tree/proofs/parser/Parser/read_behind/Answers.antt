use Rattle.field_tree.specs.declared.mode.Mode.TheVariants.{After}
use Rattle.field_tree.specs.Views.{reading}
use Rattle.field_tree.proofs.ScanLemmas.{stays_here, over_front}
use Rattle.field_tree.proofs.parser.Parser.read_behind.Goals as goal

pub returns-in_ok-end_field-in-Some-clause-over : goal.returns-in_ok-end_field-in-Some-clause-over
returns-in_ok-end_field-in-Some-clause-over c =
    let to = reading c.end_field.new.self c.in_ok-end_field-in-Some.field-0 in
    over_front c.in-Some.byte (reading c.args.self.now After) to to c.args.bytes.now c.in-Some.behind.now c.in-Some.behind.now c.in-Some.ensures
    c.in_ok-end_field-in-Some.ensures.next (stays_here to c.in-Some.behind.now)

pub returns-in_default-clause-over : goal.returns-in_default-clause-over
returns-in_default-clause-over c = stays_here (reading c.args.self.now After) c.args.bytes.now
