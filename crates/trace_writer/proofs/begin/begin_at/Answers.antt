use Rattle.std.proofs.Common.{ap, subst}
use Rattle.trace_model.specs.Packets.{account_of}
use Rattle.trace_writer.specs.declared.begin.Place.{Place}
use Rattle.trace_writer.specs.declared.state.State.{State}
use Rattle.trace_writer.specs.Site.{site_of}
use Rattle.trace_writer.specs.Placing.{IsPlace}
use Rattle.trace_writer.proofs.packets.Beginnings.{stall_nowhere}
use Rattle.trace_writer.proofs.claims.QuietRows.{quiet_none}
use Rattle.trace_writer.proofs.begin.begin_at.Goals as goal

pub returns-in-Stalls-clause-agrees : goal.returns-in-Stalls-clause-agrees
returns-in-Stalls-clause-agrees g c =
    let setup = g.W.Words.means.setup c.args.table.now in
    let place = g.W.Words.means.place c.args.seat.now in
    let view = g.W.Words.means.view c.args.table.now c.args.seat.now in
    let writer = c.args.writer.now in
    let nowhere = subst (λ (p : Place). IsPlace (site_of setup place writer.route) (account_of view.calls) view writer.pending p) c.in-Nowhere.is c.requires.place in
    stall_nowhere setup place view writer _ c.in-Nowhere.next_position (ap (λ (state : State). record writer { state = state }) c.put_state.ensures)
    c.in-Stalls.is nowhere.0 nowhere.1 c.requires.agrees

pub returns-in-Stalls-clause-quiet : goal.returns-in-Stalls-clause-quiet
returns-in-Stalls-clause-quiet g c =
    quiet_none g.W.Words.means
    c.args.table.now c.args.seat.now c.requires.seat
