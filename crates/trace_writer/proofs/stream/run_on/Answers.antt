use Rattle.trace_writer.specs.Flows.{is_stopped}
use Rattle.trace_writer.proofs.claims.Rounds.{round_is_work}
use Rattle.trace_writer.proofs.stream.run_on.Goals as goal

pub returns-in-Drops-clause-work : goal.returns-in-Drops-clause-work
returns-in-Drops-clause-work g c =
    let e = c.run_on_or_drop.ensures in
    round_is_work g.W.Words.means g.H.HelperOn.needs g.H.HelperOn.helps
    c.args.route.now c.args.help.now c.args.table.now c.args.seat.now c.args.steps.now (is_stopped c.run_on_or_drop.result) c.run_on_or_drop.new.table c.run_on_or_drop.new.seat
    c.run_on_or_drop.new.steps g.met.H.HelperOn.needs_stay c.requires.may_ask.needed c.in-Drops.is e.round e.counts
