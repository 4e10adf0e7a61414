use Rattle.std.proofs.Common.{◌∙◌, sym, ap, length}
use Rattle.trace_writer.specs.Site.{site_of}
use Rattle.trace_writer.proofs.packets.Starting.{new_roomy}
use Rattle.trace_writer.proofs.begin.new_place.Goals as goal
use Rattle.trace_writer.proofs.accounts.Agreeing.{idle_seen}

pub returns-in-Some-clause-place : goal.returns-in-Some-clause-place
returns-in-Some-clause-place g c = λ account pending idle.
    new_roomy (g.W.Words.means.setup c.args.table.now) (g.W.Words.means.place c.args.seat.now) c.args.route.now account (g.W.Words.means.view c.args.table.now c.args.seat.now)
    (g.W.Words.means.view c.claim_next.new.table c.claim_next.new.seat) pending c.in-Some.held c.new.result c.args.next_position
    c.requires.may_claim.asks.route_is c.new.ensures.held c.new.ensures.sealed c.new.ensures.at c.new.ensures.count c.new.ensures.continues c.requires.may_claim.position_is c.requires.ids
    c.in-Some.ensures.won c.in-Some.ensures.begun idle

pub returns-in-None-clause-place : goal.returns-in-None-clause-place
returns-in-None-clause-place g c = λ account pending idle.
    let none = c.in-None.ensures.none in (
      c.requires.may_claim.position_is ∙ sym (ap length none.begun),
      idle_seen (site_of (g.W.Words.means.setup c.args.table.now) (g.W.Words.means.place c.args.seat.now) c.args.route.now) account
          (g.W.Words.means.view c.args.table.now c.args.seat.now) (g.W.Words.means.view c.claim_next.new.table c.claim_next.new.seat) pending none.begun idle,
    )
