use Rattle.std.proofs.Common.{arith, ℕ, ◌<◌, length, refl, subst}
use Rattle.trace_writer.proofs.holding.KeptChunks.{none_counted}
use Rattle.trace_writer.proofs.claims.Asking.{finds_none}
use Rattle.trace_writer.proofs.claims.Rounds.{round_work}
use Rattle.trace_writer.proofs.claim.claim_next.Goals as goal
use Rattle.trace_writer.proofs.claims.RouteIds.{next_id}

pub claim_over-requires-clause-id : goal.claim_over-requires-clause-id
claim_over-requires-clause-id g c =
    let setup = g.W.Words.means.setup c.args.table.now in let place = g.W.Words.means.place c.args.seat.now in
    next_id setup setup place place c.args.route.now c.args.next_position (length (g.W.Words.means.view c.args.table.now c.args.seat.now).begun) c.id_of-id.result c.requires.may_claim.asks.route_is refl refl
    c.requires.may_claim.position_is c.id_of-id.ensures

pub claim_over-requires-clause-few_begun : goal.claim_over-requires-clause-few_begun
claim_over-requires-clause-few_begun g c = subst (λ (n : ℕ). n < 4294967295) c.requires.may_claim.position_is c.requires.may_claim.position_fits

pub returns-in-Drops-clause-none : goal.returns-in-Drops-clause-none
returns-in-Drops-clause-none g c =
    finds_none (g.W.Words.means.setup c.args.table.now) c.args.route.now (g.W.Words.means.view c.args.table.now c.args.seat.now) (g.W.Words.means.view c.claim_over.new.table c.claim_over.new.seat)
    c.claim_over.result c.claim_over.ensures.lost

pub returns-in-Drops-clause-work : goal.returns-in-Drops-clause-work
returns-in-Drops-clause-work g c =
    let e = c.claim_over.ensures in
    round_work g.W.Words.means g.H.HelperOn.needs g.H.HelperOn.helps
    c.args.route.now c.args.help.now c.args.table.now c.args.seat.now c.args.steps.now
    (length (g.W.Words.means.view c.args.table.now c.args.seat.now).begun) c.claim_over.new.table c.claim_over.new.seat c.claim_over.new.steps c.claim_over.result
    g.met.H.HelperOn.needs_stay c.requires.may_claim.asks.needed c.in-Drops.is c.requires.none_held e.step e.won e.steps_won e.told_won e.lost e.steps_lost e.told_lost

pub claim_over-requires-clause-few : goal.claim_over-requires-clause-few
claim_over-requires-clause-few g c =
    let none = none_counted (g.W.Words.means.view c.args.table.now c.args.seat.now).begun c.requires.none_held in
    omega (arith, none)

pub claim_trying-requires-clause-few : goal.claim_trying-requires-clause-few
claim_trying-requires-clause-few g c =
    let none = none_counted (g.W.Words.means.view c.args.table.now c.args.seat.now).begun c.requires.none_held in
    omega (arith, none)

pub returns-in-Stalls-clause-work : goal.returns-in-Stalls-clause-work
returns-in-Stalls-clause-work g c = c.claim_asking.ensures.begins

pub returns-in-StallsThenDrops-clause-work : goal.returns-in-StallsThenDrops-clause-work
returns-in-StallsThenDrops-clause-work g c = c.claim_trying.ensures.begins c.requires.none_held
