-- Why a trace has no summary.
use Rattle.std.specs.Prelude.{ℕ, List}
use Rattle.trace_file.specs.Traces.{IsFaultIn}
use Rattle.trace_summary.specs.declared.count.SummaryFault.{SummaryFault}
use Rattle.trace_summary.specs.declared.count.SummaryFault.TheVariants.{OutOfMemory, Trace}

-- the fault is the trace's; memory is free to run out
abbrev pub IsFaultOf : List ℕ → SummaryFault → Type 0
IsFaultOf trace OutOfMemory = Unit {0}
IsFaultOf trace (Trace fault) = IsFaultIn trace fault
