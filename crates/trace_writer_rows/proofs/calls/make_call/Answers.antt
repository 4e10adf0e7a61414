use Rattle.std.proofs.Common.{◌≡◌, ◌-◌, length, arith}
use Rattle.trace_writer_rows.proofs.calls.make_call.Goals as goal

pub begin-requires-clause-ids : goal.begin-requires-clause-ids
begin-requires-clause-ids g c =
    let view = g.W.Words.means.view c.args.table.now c.args.writer.now.seat in
    let left : c.ids_left.result ≡ 4294967295 - length view.begun =
    c.ids_left.ensures (g.W.Words.means.setup c.args.table.now) (g.W.Words.means.place c.args.writer.now.seat) view c.requires.agrees in
    omega (arith, left, c.if-ids_left-ge-PACKET_IDS.true)
