use Rattle.std.proofs.Common.{◌+◌, length, drop}
use Rattle.trace_file.specs.Values.{packet_of}
use Rattle.trace_file.proofs.ReadLemmas.{reads_on, still_reads}
use Rattle.trace_file.proofs.reader.TraceReader.next.Goals as goal

pub returns-in-Ok-Some-clause-packet : goal.returns-in-Ok-Some-clause-packet
returns-in-Ok-Some-clause-packet c = λ packets ending others.
    let inside = c.self.inside in
    let packet = packet_of c.in-Ok-Some.packet in
    let next = rw c.in-Ok-Some.field-0-is at c.in-Ok-Some.ensures in
    rw (← c.self.view_is)
    (still_reads inside.fault ending ending (packet.at + length packet.bytes) inside.at (drop (packet.at + length packet.bytes) inside.bytes.now) (drop inside.at inside.bytes.now) packets _ c.in-None.is
    (reads_on inside.bytes.now inside.at packet packets ending next.packet) others)
