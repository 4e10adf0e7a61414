-- What a verdict says.
use Rattle.std.specs.Prelude.{◌≡◌, ℕ, suc, ◌+◌, List, [], ◌∷◌, ◌++◌, length, map, All, Some, slice_get}
use Rattle.trace_model.specs.Delivery.{Delivered, IsFaithful}
use Rattle.trace_file.specs.Apart.{BeginsWithMark}
use Rattle.trace_file.specs.Traces.{TracePacket, ReadsAsTrace, IsFaultIn}
use Rattle.gap_check.specs.declared.verdict.Verdict.{Verdict}
use Rattle.gap_check.specs.declared.verdict.Verdict.TheVariants.{Agrees, Differs}
use Rattle.gap_check.specs.declared.verdict.CheckFault.{CheckFault}
use Rattle.gap_check.specs.declared.verdict.CheckFault.TheVariants.{OutOfMemory, Trace}

-- the record of a packet in a trace, and the sequence that it is of
abbrev pub delivered_as : TracePacket → Delivered
delivered_as packet = record { sequence = packet.sequence; bytes = packet.bytes }

-- the packets of a trace as what was delivered
abbrev pub delivered_by : List TracePacket → List Delivered
delivered_by packets = map delivered_as packets

-- no packet of any writer begins with the mark
abbrev pub AreUnmarked : List (List (List ℕ)) → Type 0
AreUnmarked emitted = (writer : ℕ) (packets : List (List ℕ)) → slice_get emitted writer ≡ Some packets
    → (place : ℕ) (packet : List ℕ) → slice_get packets place ≡ Some packet → BeginsWithMark packet → ⊥

-- the records are faithful to the packets; or the first so many of them are, and with one more, of this sequence, they aren't
pub record AreFaithful (emitted : List (List (List ℕ))) (packets : List TracePacket) (count : ℕ) : Type 0 where
  pub faithful : IsFaithful emitted (delivered_by packets)
  pub counted : count ≡ length packets

-- the packets before this one are faithful to what was emitted, and with it they aren't
pub record IsFirstUntold (emitted : List (List (List ℕ))) (packets : List TracePacket) (number sequence : ℕ) : Type 0 where
  pub told : List TracePacket
  pub untold : TracePacket
  pub others : List TracePacket
  pub cut : packets ≡ told ++ (untold ∷ others)
  pub number_is : number ≡ length told + 1
  pub sequence_is : sequence ≡ untold.sequence
  pub faithful : IsFaithful emitted (delivered_by told)
  pub unfaithful : IsFaithful emitted (delivered_by (told ++ untold ∷ [])) → ⊥

-- the verdict is true
abbrev pub SaysVerdict : List (List (List ℕ)) → List TracePacket → Verdict → Type 0
SaysVerdict emitted packets (Agrees count) = AreFaithful emitted packets count
SaysVerdict emitted packets (Differs number sequence) = IsFirstUntold emitted packets number sequence

-- the verdict on a trace
pub record IsVerdictOn (emitted : List (List (List ℕ))) (trace : List ℕ) (verdict : Verdict) : Type 0 where
  pub packets : List TracePacket
  pub reads : ReadsAsTrace trace packets
  pub says : SaysVerdict emitted packets verdict

-- the fault is the trace's; memory is free to run out
abbrev pub IsFaultOf : List ℕ → CheckFault → Type 0
IsFaultOf trace OutOfMemory = Unit {0}
IsFaultOf trace (Trace fault) = IsFaultIn trace fault
