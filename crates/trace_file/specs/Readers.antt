-- What callers see of a reader.
use Rattle.std.specs.Prelude.{◌≡◌, ℕ, List, [], Option, Some, None}
use Rattle.trace_file.specs.declared.fault.TraceFault.{TraceFault}
use Rattle.trace_file.specs.Traces.{TracePacket, ReadsFrom}

-- where a reader stands in its trace, the bytes that are left, and the fault that it has met
pub record ReaderView : Type 0 where
  pub at : ℕ
  pub rest : List ℕ
  pub fault : Option TraceFault

-- what a reader has still to answer: the packets from a place on, or again the fault that it met
abbrev pub ReadsBehind : Option TraceFault → ℕ → List ℕ → List TracePacket → Option TraceFault → Type 0
ReadsBehind None at rest packets ending = ReadsFrom at rest packets ending
ReadsBehind (Some fault) at rest packets ending = (packets ≡ []) × (ending ≡ Some fault)

-- what is left reads as these packets, and then the trace ends, or has this fault
abbrev pub StillReads : ReaderView → List TracePacket → Option TraceFault → Type 0
StillReads reading packets ending = ReadsBehind reading.fault reading.at reading.rest packets ending
