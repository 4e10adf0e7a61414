-- What the faults of FIELDS are for their line.
use Rattle.std.proofs.Common.{◌≡◌, ℕ, ◌+◌, ◌≤◌, List, length, Some, Result, Err, refl, arith}
use Rattle.field_tree.specs.declared.fault.FieldFault.{FieldFault}
use Rattle.field_tree.specs.declared.fault.FieldFault.TheVariants as faults
use Rattle.field_tree.specs.Nodes.{Shown}
use Rattle.field_tree.specs.Answers.{Means}
use Rattle.scenario_text.specs.Answers.{FaultFits, fault_reason, reason_given}

-- its column is one of the text, or the place behind its end
pub fault_fits : (depth before : ℕ) (text : List ℕ) (fault : FieldFault) → Means depth text (Err fault)
    → before + length text ≤ 67108864 → FaultFits before fault
fault_fits depth before text (faults.BadField column) means short =
    let inside = means.inside in
    omega (arith, inside.1)
fault_fits depth before text (faults.Reserved field) means short = tt
fault_fits depth before text faults.TooDeep means short = tt
fault_fits depth before text faults.PacketTooLong means short = tt

pub reason_from : (before : ℕ) (given : Result (List Shown) FieldFault) (fault : FieldFault) → given ≡ Err fault
    → reason_given before given ≡ Some (fault_reason before fault)
unfolding reason_given
reason_from before given fault is = rw is refl
