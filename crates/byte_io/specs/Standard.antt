-- What the adapters of the standard streams tell and count.
use Rattle.std.specs.Prelude.{ℕ, List, Option}
use Rattle.std.specs.declared.io.traits.Read.{Ghosts as ReadGhosts}
use Rattle.std.specs.declared.io.traits.Write.{Ghosts as WriteGhosts}
use Rattle.byte_io.specs.Bytes.{Intake}
use Rattle.byte_io.specs.Known.{still_told, taken_in}
use Rattle.byte_io.specs.declared.standard.StdSource.{StdSource}
use Rattle.byte_io.specs.declared.standard.StdSink.{StdSink}

-- the bytes that the source has still to give, where its reader tells them
abbrev pub std_source_left : {R : Type 0} {members : ReadGhosts R} → (R → Option (List ℕ)) → StdSource R members → Option (List ℕ)
std_source_left remaining source = still_told (remaining source.start.value) (remaining source.reader)

-- how many reads failed
abbrev pub std_source_faults : {R : Type 0} {members : ReadGhosts R} → StdSource R members → ℕ
std_source_faults source = source.faults

-- the bytes that the sink has taken, behind those that its writer held before, where the writer tells them
abbrev pub std_sink_taken : {W : Type 0} {members : WriteGhosts W} → (W → Option (List ℕ)) → StdSink W members → Intake
std_sink_taken contents sink = taken_in (still_told (contents sink.start.value) (contents sink.writer))

-- how many writes failed or took none of the bytes
abbrev pub std_sink_faults : {W : Type 0} {members : WriteGhosts W} → StdSink W members → ℕ
std_sink_faults sink = sink.faults
