use Rattle.trace_file.specs.Values.{packet_of}
use Rattle.gap_check.proofs.TraceLemmas.{back_more}
use Rattle.gap_check.proofs.check.read_rest.Goals as goal

pub packets-preserved : goal.packets-preserved
packets-preserved c =
    let next = rw c.in-Ok-Some.field-0-is at c.in-Ok-Some.ensures in
    back_more c.args.reader.now c.packets.reader c.next.new.self (packet_of c.in-Ok-Some._packet) c.packets.invariant next.packet
