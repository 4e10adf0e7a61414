-- The faults of a stream.
use Rattle.std.specs.Prelude.{◌≡◌, ℕ, ◌≤◌, Result, Ok, Err, OnOk, IfErr}
use Rattle.byte_io.specs.Bytes.{Faulted}
use Rattle.stream_frames.specs.declared.check.FrameFault.{FrameFault}
use Rattle.stream_frames.specs.declared.check.FrameFault.TheVariants as frames
use Rattle.stream_producer.specs.declared.fault.StreamFault.{StreamFault}
use Rattle.stream_producer.specs.declared.fault.StreamFault.TheVariants.{WriteFault, BadFrame, NoEnd}

-- the fault of a stream's frames
abbrev pub fault_of : FrameFault → StreamFault
fault_of (frames.BadFrame offset) = BadFrame offset
fault_of (frames.NoEnd offset) = NoEnd offset

-- what its frames are
abbrev pub faults_of : Result (Unit {0}) FrameFault → Result (Unit {0}) StreamFault
faults_of (Ok done) = Ok done
faults_of (Err fault) = Err (fault_of fault)

-- a write fault comes only where the count of faults rose, and nothing else raises it
abbrev pub CountsFault : ℕ → ℕ → StreamFault → Type 0
CountsFault old new WriteFault = (old ≤ new) × Faulted old new
CountsFault old new (BadFrame offset) = new ≡ old
CountsFault old new (NoEnd offset) = new ≡ old

-- the same of a call
abbrev pub CountsWrites : {T : Type 0} → ℕ → ℕ → Result T StreamFault → Type 0
CountsWrites old new (Ok done) = new ≡ old
CountsWrites old new (Err fault) = CountsFault old new fault

-- something holds unless a write failed
abbrev pub UnlessFailed : Type 0 → StreamFault → Type 0
UnlessFailed Holds WriteFault = Unit {0}
UnlessFailed Holds (BadFrame offset) = Holds
UnlessFailed Holds (NoEnd offset) = Holds

-- how a call left its sink: its faults are counted, and it may be written to still, but where a write failed
pub record LeavesSink {T : Type 0} (old : ℕ) (answer : Result T StreamFault) (new : ℕ) (MayWrite : Type 0) : Type 0 where
  pub count : CountsWrites old new answer
  pub goes_on : OnOk answer MayWrite
  pub goes_on_behind : IfErr answer (UnlessFailed MayWrite)
