-- What the answers of the reader say in the grammar's words. Memory is free to run out.
use Rattle.std.specs.Prelude.{◌≡◌, ℕ, ◌+◌, ◌^◌, ◌<◌, List, Option, Some, None, Result, Ok, Err}
use Rattle.field_tree.specs.declared.fault.FieldFault.{FieldFault}
use Rattle.field_tree.specs.declared.fault.FieldFault.TheVariants as faults
use Rattle.field_tree.specs.Nodes.{Shown}
use Rattle.scenario_text.specs.declared.reason.Reason.{Reason}
use Rattle.scenario_text.specs.declared.reason.Reason.TheVariants as reasons
use Rattle.scenario_text.specs.declared.line_fault.LineFault.{LineFault}
use Rattle.scenario_text.specs.declared.line_fault.LineFault.TheVariants.{OutOfMemory, Refused}
use Rattle.scenario_text.specs.State.{State}

-- the reason that a fault of FIELDS is, where they begin behind so many bytes of their line
unfoldable pub fault_reason : ℕ → FieldFault → Reason
fault_reason before (faults.BadField column) = reasons.BadField (before + column)
fault_reason before (faults.Reserved field) = reasons.ReservedField field
fault_reason before faults.TooDeep = reasons.TooDeep
fault_reason before faults.PacketTooLong = reasons.PacketTooLong

-- the reason that a fault of FIELDS gives
unfoldable pub reason_given : ℕ → Result (List Shown) FieldFault → Option Reason
reason_given before (Ok nodes) = None
reason_given before (Err fault) = Some (fault_reason before fault)

-- an Ok leads to this state, and a refusal has the reason
abbrev pub LeadsTo : State → Result (Unit {0}) LineFault → Result State Reason → Type 0
LeadsTo state (Ok done) given = given ≡ Ok state
LeadsTo state (Err OutOfMemory) given = Unit {0}
LeadsTo state (Err (Refused reason)) given = given ≡ Err reason

-- the column of a fault in its line can be counted
abbrev pub FaultFits : ℕ → FieldFault → Type 0
FaultFits before (faults.BadField column) = before + column < 2 ^ 32
FaultFits before fault = Unit {0}
