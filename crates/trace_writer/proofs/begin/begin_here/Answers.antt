use Rattle.std.proofs.Common.{◌≡◌, ◌∙◌, true, refl, sym, ap, arith}
use Rattle.std.specs.Prelude.{vec_len}
use Rattle.trace_writer.specs.Placing.{is_roomy}
use Rattle.trace_writer.specs.Site.{site_of}
use Rattle.trace_writer.specs.States.{has_room}
use Rattle.trace_writer.proofs.packets.Ending.{behind_of, behind_position}
use Rattle.trace_writer.proofs.packets.Starting.{behind_roomy, room_of}
use Rattle.trace_writer.proofs.begin.begin_here.Goals as goal

pub begin_kept-requires-clause-roomy : goal.begin_kept-requires-clause-roomy
begin_kept-requires-clause-roomy g c =
    let setup = g.W.Words.means.setup c.args.table.now in let place = g.W.Words.means.place c.args.seat.now in
    let view = g.W.Words.means.view c.args.table.now c.args.seat.now in
    let chunk = c.in-Between.chunk in
    let was = sym c.take_state.ensures.taken ∙ c.in-Between.is in
    let site = site_of setup place c.args.writer.now.route in
    let behind = behind_of setup place view c.args.writer.now chunk was c.requires.at_work.agrees in
    let position = behind_position _ _ view _ chunk behind in
    let roomy : has_room (vec_len chunk.held.body.payload) chunk ≡ true = sym (ap is_roomy was) ∙ c.requires.roomy in
    behind_roomy site _ view c.args.writer.now.pending chunk (omega (arith, position, c.requires.ids))
    (room_of site chunk (has_room (vec_len chunk.held.body.payload) chunk) behind.whole refl ∙ roomy) behind
