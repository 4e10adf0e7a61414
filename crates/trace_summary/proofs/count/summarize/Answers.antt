use Rattle.std.proofs.Common.{refl, arith}
use Rattle.trace_file.specs.Values.{packet_of}
use Rattle.trace_summary.specs.Tallies.{totals_in}
use Rattle.trace_summary.proofs.CountLemmas.{count_start, count_more, count_end, before_fits, all_fits}
use Rattle.trace_summary.proofs.count.summarize.Goals as goal

pub packets-init : goal.packets-init
packets-init c = record {
  counted = rw (c.new-reader.ensures) (count_start c.args.trace.now (totals_in c.new-tally.result) c.new-tally.ensures.nothing);
  rising = c.new-tally.ensures.rising;
}

pub returns-in-Ok-clause-summary : goal.returns-in-Ok-clause-summary
returns-in-Ok-clause-summary c =
    let summed = c.in-Ok.ensures in
    count_end c.args.trace.now c.packets.reader (totals_in c.packets.tally) c.packets.all _ c.packets.invariant.counted summed.each (summed.rising c.packets.invariant.rising)
    refl refl (rw c.in-Ok-None.field-0-is at c.in-Ok-None.ensures).none

pub count-requires-clause-packets : goal.count-requires-clause-packets
count-requires-clause-packets c =
    let fits = before_fits c.args.trace.now c.packets.reader (totals_in c.packets.tally) c.packets.all c.in-Ok-Some.packet.sequence c.packets.invariant.counted in
    let next = rw c.in-Ok-Some.field-0-is at c.in-Ok-Some.ensures in
    omega (arith, fits.0, next.shorter, c.packets.invariant.counted.small)

pub count-requires-clause-marked : goal.count-requires-clause-marked
count-requires-clause-marked c =
    (before_fits c.args.trace.now c.packets.reader (totals_in c.packets.tally) c.packets.all c.in-Ok-Some.packet.sequence c.packets.invariant.counted).1

pub count-requires-clause-bytes : goal.count-requires-clause-bytes
count-requires-clause-bytes c =
    let fits = before_fits c.args.trace.now c.packets.reader (totals_in c.packets.tally) c.packets.all c.in-Ok-Some.packet.sequence c.packets.invariant.counted in
    let next = rw c.in-Ok-Some.field-0-is at c.in-Ok-Some.ensures in
    omega (arith, fits.2, next.shorter, c.packets.invariant.counted.small)

pub with_packet-all-requires-clause-marked : goal.with_packet-all-requires-clause-marked
with_packet-all-requires-clause-marked c = all_fits c.args.trace.now c.packets.reader (totals_in c.packets.tally) c.packets.all c.packets.invariant.counted

pub packets-preserved : goal.packets-preserved
packets-preserved c =
    let next = rw c.in-Ok-Some.field-0-is at c.in-Ok-Some.ensures in
    record {
      counted = rw (c.with_packet-all.ensures)
          (count_more c.args.trace.now c.packets.reader c.next.new.self (totals_in c.packets.tally) (totals_in c.count.new.self) c.packets.all (packet_of c.in-Ok-Some.packet)
          c.packets.invariant.counted next.packet next.shorter c.in-Ok-count.ensures.each);
      rising = c.count.ensures.rising c.packets.invariant.rising;
    }
