use Rattle.std.proofs.Common.{arith}
use Rattle.writer_speed.proofs.write_all.Goals as goal

pub write_round-taken-requires-clause-ids : goal.write_round-taken-requires-clause-ids
write_round-taken-requires-clause-ids g c =
    let left = c.ids_left.ensures (g.W.Words.means.setup c.loop.table) (g.W.Words.means.place c.loop.writer.seat) (g.W.Words.means.view c.loop.table c.loop.writer.seat) c.loop.invariant.ready.agrees in
    let enough = c.if-ids_left-lt-PACKET_IDS.false in
    omega (arith, left, enough)
