use Rattle.std.proofs.Common.{arith}
use Rattle.trace_file.specs.Values.{packet_of}
use Rattle.gap_check.proofs.TraceLemmas.{telling_more, telling_ends, telling_stops}
use Rattle.gap_check.proofs.check.tell_trace.Goals as goal

pub returns-in-Ok-None-clause-verdict : goal.returns-in-Ok-None-clause-verdict
returns-in-Ok-None-clause-verdict c =
    telling_ends c.args.emitted.now c.args.trace.now c.packets.tellers c.packets.reader c.packets.count c.packets.invariant (rw c.in-Ok-None.field-0-is at c.in-Ok-None.ensures).none

pub tell_packet-requires-clause-spells : goal.tell_packet-requires-clause-spells
tell_packet-requires-clause-spells c = (rw c.in-Ok-Some.field-0-is at c.in-Ok-Some.ensures).spells

pub returns-in-Ok-clause-verdict : goal.returns-in-Ok-clause-verdict
returns-in-Ok-clause-verdict c =
    let next = rw c.in-Ok-Some.field-0-is at c.in-Ok-Some.ensures in
    telling_stops c.args.emitted.now c.args.trace.now c.packets.tellers c.packets.reader c.next.new.self c.packets.count (packet_of c.in-Ok-Some.packet) c.packets.invariant next.packet
    (λ delivered taken. c.tell_packet.ensures.untold delivered taken c.if-not-tell_packet.true) c.in-Ok.ensures.ends

pub packets-preserved : goal.packets-preserved
packets-preserved c =
    let next = rw c.in-Ok-Some.field-0-is at c.in-Ok-Some.ensures in
    telling_more c.args.emitted.now c.args.trace.now c.packets.tellers c.tell_packet.new.tellers c.packets.reader c.next.new.self c.packets.count (packet_of c.in-Ok-Some.packet) c.packets.invariant next.packet
    (omega (arith, next.shorter)) (λ delivered taken. c.tell_packet.ensures.told delivered taken c.if-not-tell_packet.false)
