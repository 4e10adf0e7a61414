-- What a line gives its packet, in the grammar's words.
use Rattle.std.specs.Prelude.{◌≡◌, ℕ, List, Some, Result, Ok, Err}
use Rattle.field_tree.specs.declared.fault.FieldFault.{FieldFault}
use Rattle.field_tree.specs.Nodes.{Shown}
use Rattle.scenario_text.specs.declared.fields.Addition.{Addition}
use Rattle.scenario_text.specs.declared.form.WriterStep.{WriterStep}
use Rattle.scenario_text.specs.declared.line_fault.LineFault.{LineFault}
use Rattle.scenario_text.specs.declared.line_fault.LineFault.TheVariants.{OutOfMemory, Refused}
use Rattle.scenario_text.specs.Answers.{reason_given}
use Rattle.scenario_text.specs.Reasons.{step_len}

-- an answer has the nodes and their length, and a refusal the reason that their fault is
abbrev pub GivesAddition : ℕ → WriterStep → Result Addition LineFault → Result (List Shown) FieldFault → Type 0
GivesAddition before step (Ok addition) given = (given ≡ Ok addition.fields) × (addition.len ≡ step_len step addition.fields)
GivesAddition before step (Err OutOfMemory) given = Unit {0}
GivesAddition before step (Err (Refused reason)) given = reason_given before given ≡ Some reason
