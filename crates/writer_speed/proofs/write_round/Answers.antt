use Rattle.writer_speed.proofs.CollectingLemmas.{collects_beside}
use Rattle.writer_speed.proofs.write_round.Goals as goal

-- few wait: the packet leaves the collector as it was
pub returns-then-saturating_sub-lt-FULL-clause-collects : goal.returns-then-saturating_sub-lt-FULL-clause-collects
returns-then-saturating_sub-lt-FULL-clause-collects g c =
    collects_beside g.W.Words.means c.args.table.now c.args.writer.now.seat c.write_packet.new.table c.write_packet.new.writer.seat c.args.service.now
    c.args.range c.args.taken c.write_packet.ensures.goes.step c.requires.collects

pub collect-requires : goal.collect-requires
collect-requires g c = record {
  collects =
      collects_beside g.W.Words.means c.args.table.now c.args.writer.now.seat c.write_packet.new.table c.write_packet.new.writer.seat c.args.service.now
      c.args.range c.args.taken c.write_packet.ensures.goes.step c.requires.collects;
}
