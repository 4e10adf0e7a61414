use Rattle.std.proofs.Common.{sym, subst, arith, ℕ, ◌<◌, ◌∙◌, ap, length}
use Rattle.chunk_plain.specs.Views.{WriterView}
use Rattle.trace_writer.specs.Claims.{FindsNone}
use Rattle.trace_writer.specs.OwnSteps.{NoneHeld}
use Rattle.trace_writer.proofs.claims.Asking.{none_yet, none_again, won_counts, lost_counts, gets_chunk, in_vain}
use Rattle.trace_writer.proofs.claims.Trying.{within, trying_none, trying_on, trying_gets, tried_last}
use Rattle.trace_writer.proofs.claim.claim_trying.Goals as goal
use Rattle.trace_writer.proofs.claims.RouteIds.{next_id, begun_as}

pub claim_over-requires-clause-id : goal.claim_over-requires-clause-id
claim_over-requires-clause-id g c =
    let i = c.tries.invariant in
    next_id (g.W.Words.means.setup c.args.table.now) (g.W.Words.means.setup c.tries.table) (g.W.Words.means.place c.args.seat.now) (g.W.Words.means.place c.tries.seat) c.args.route.now
    c.args.next_position (length (g.W.Words.means.view c.tries.table c.tries.seat).begun) c.id_of-id.result c.requires.may_claim.asks.route_is i.trying.others.setup_stays i.trying.others.place_stays
    (c.requires.may_claim.position_is ∙ ap length (sym i.none.begun)) c.id_of-id.ensures

pub claim_over-requires-clause-few_begun : goal.claim_over-requires-clause-few_begun
claim_over-requires-clause-few_begun g c =
    subst (λ (n : ℕ). n < 4294967295) (c.requires.may_claim.position_is ∙ ap length (sym c.tries.invariant.none.begun)) c.requires.may_claim.position_fits

pub returns-in-Some-clause-begun : goal.returns-in-Some-clause-begun
returns-in-Some-clause-begun g c =
    let i = c.tries.invariant in
    begun_as (g.W.Words.means.setup c.args.table.now) (g.W.Words.means.setup c.tries.table) c.in-Some.held.chunk c.args.next_position
    (length (g.W.Words.means.view c.tries.table c.tries.seat).begun) c.in-Some.held i.trying.others.setup_stays (c.requires.may_claim.position_is ∙ ap length (sym i.none.begun)) c.in-Some.ensures.begun

pub tries-init : goal.tries-init
tries-init g c = record {
  none = none_yet (g.W.Words.means.view c.args.table.now c.args.seat.now);
  trying = trying_none g.W.Words.means g.H.HelperOn.needs g.H.HelperOn.helps
      c.args.route.now c.args.tries c.args.help.now c.args.table.now c.args.seat.now c.args.steps.now c.requires.may_claim.asks.seat_sits c.requires.may_claim.asks.needed;
  begins = λ holds. trying_none g.W.Words.means g.H.HelperOn.needs g.H.HelperOn.helps
      c.args.route.now c.args.tries c.args.help.now c.args.table.now c.args.seat.now c.args.steps.now c.requires.may_claim.asks.seat_sits c.requires.may_claim.asks.needed;
}

pub returns-in-Some-clause-work : goal.returns-in-Some-clause-work
returns-in-Some-clause-work g c =
    let route = c.args.route.now in
    trying_gets g.W.Words.means g.H.HelperOn.needs g.H.HelperOn.helps
    route c.args.tries c.args.help.now c.args.table.now c.args.seat.now c.args.steps.now c.tries.left c.tries.help c.tries.table c.tries.seat c.tries.steps
    c.claim_over.new.table c.claim_over.new.seat c.claim_over.new.steps g.met.H.HelperOn.needs_stay c.requires.trying c.tries.invariant.trying
    (gets_chunk g.W.Words.means
    route c.in-Some.held.chunk _ c.tries.table c.tries.seat c.claim_over.new.table c.claim_over.new.seat c.claim_over.ensures.step c.in-Some.ensures.won c.in-Some.ensures.told_won)
    (won_counts (g.W.Words.means.setup c.tries.table) route.arbiter.first route.arbiter.chunks c.in-Some.held.chunk (g.W.Words.means.view c.tries.table c.tries.seat)
    (g.W.Words.means.view c.claim_over.new.table c.claim_over.new.seat) c.tries.steps c.claim_over.new.steps c.in-Some.ensures.won c.in-Some.ensures.steps_won)

pub returns-in-Some-clause-begins : goal.returns-in-Some-clause-begins
returns-in-Some-clause-begins g c holds =
    let route = c.args.route.now in
    trying_gets g.W.Words.means g.H.HelperOn.needs g.H.HelperOn.helps
    route c.args.tries c.args.help.now c.args.table.now c.args.seat.now c.args.steps.now c.tries.left c.tries.help c.tries.table c.tries.seat c.tries.steps
    c.claim_over.new.table c.claim_over.new.seat c.claim_over.new.steps g.met.H.HelperOn.needs_stay c.requires.trying (c.tries.invariant.begins holds)
    (gets_chunk g.W.Words.means
    route c.in-Some.held.chunk _ c.tries.table c.tries.seat c.claim_over.new.table c.claim_over.new.seat c.claim_over.ensures.step c.in-Some.ensures.won c.in-Some.ensures.told_won)
    (won_counts (g.W.Words.means.setup c.tries.table) route.arbiter.first route.arbiter.chunks c.in-Some.held.chunk (g.W.Words.means.view c.tries.table c.tries.seat)
    (g.W.Words.means.view c.claim_over.new.table c.claim_over.new.seat) c.tries.steps c.claim_over.new.steps c.in-Some.ensures.won c.in-Some.ensures.steps_won)

pub tries-preserved : goal.tries-preserved
tries-preserved g c =
    let route = c.args.route.now in
    let old = g.W.Words.means.view c.args.table.now c.args.seat.now in
    let mid = g.W.Words.means.view c.tries.table c.tries.seat in let new = g.W.Words.means.view c.claim_over.new.table c.claim_over.new.seat in
    let h = c.help-worth in
    record {
      none = subst (λ (v : WriterView). FindsNone old v) (sym (h.ensures.leaves.writers_stay c.claim_over.new.seat c.claim_over.ensures.step.seat_stays).1)
          (none_again (g.W.Words.means.setup c.tries.table) route old mid new c.tries.invariant.none c.in_default.ensures.lost);
      trying = trying_on g.W.Words.means g.H.HelperOn.needs g.H.HelperOn.helps
          route c.args.tries c.args.help.now c.args.table.now c.args.seat.now c.args.steps.now c.tries.left c.tries.help c.tries.table c.tries.seat c.tries.steps
          c.claim_over.new.table c.claim_over.new.seat c.claim_over.new.steps h.result h.new.self h.new.table c.tries.invariant.trying c.tries-test.true
          (record {
            vain = in_vain g.W.Words.means
                route c.tries.table c.tries.seat c.claim_over.new.table c.claim_over.new.seat c.claim_over.ensures.step c.in_default.ensures.lost c.in_default.ensures.told_lost;
            none_held = within mid.begun;
          })
          (lost_counts (g.W.Words.means.setup c.tries.table) route.arbiter.first route.arbiter.chunks mid new c.tries.steps c.claim_over.new.steps c.in_default.ensures.lost c.in_default.ensures.steps_lost)
          h.ensures.helps h.ensures.leaves h.ensures.needs;
      begins = λ holds. trying_on g.W.Words.means g.H.HelperOn.needs g.H.HelperOn.helps
          route c.args.tries c.args.help.now c.args.table.now c.args.seat.now c.args.steps.now c.tries.left c.tries.help c.tries.table c.tries.seat c.tries.steps
          c.claim_over.new.table c.claim_over.new.seat c.claim_over.new.steps h.result h.new.self h.new.table (c.tries.invariant.begins holds) c.tries-test.true
          (record {
            vain = in_vain g.W.Words.means
                route c.tries.table c.tries.seat c.claim_over.new.table c.claim_over.new.seat c.claim_over.ensures.step c.in_default.ensures.lost c.in_default.ensures.told_lost;
            none_held = λ is. subst NoneHeld (sym c.tries.invariant.none.begun) holds;
          })
          (lost_counts (g.W.Words.means.setup c.tries.table) route.arbiter.first route.arbiter.chunks mid new c.tries.steps c.claim_over.new.steps c.in_default.ensures.lost c.in_default.ensures.steps_lost)
          h.ensures.helps h.ensures.leaves h.ensures.needs;
    }

pub returns-clause-work : goal.returns-clause-work
returns-clause-work g c =
    let route = c.args.route.now in let last = c.claim_over-2 in let e = last.ensures in
    tried_last g.W.Words.means g.H.HelperOn.needs g.H.HelperOn.helps
    route c.args.tries c.args.help.now c.args.table.now c.args.seat.now c.args.steps.now c.tries.left c.tries.help c.tries.table c.tries.seat c.tries.steps
    (length (g.W.Words.means.view c.tries.table c.tries.seat).begun)
    last.new.table last.new.seat last.new.steps last.result g.met.H.HelperOn.needs_stay c.requires.trying c.tries.invariant.trying
    (let none = c.tries-test.false in omega (arith, none)) (within (g.W.Words.means.view c.tries.table c.tries.seat).begun)
    e.step e.won e.steps_won e.told_won e.lost e.steps_lost e.told_lost

pub returns-clause-begins : goal.returns-clause-begins
returns-clause-begins g c holds =
    let route = c.args.route.now in let last = c.claim_over-2 in let e = last.ensures in
    tried_last g.W.Words.means g.H.HelperOn.needs g.H.HelperOn.helps
    route c.args.tries c.args.help.now c.args.table.now c.args.seat.now c.args.steps.now c.tries.left c.tries.help c.tries.table c.tries.seat c.tries.steps
    (length (g.W.Words.means.view c.tries.table c.tries.seat).begun)
    last.new.table last.new.seat last.new.steps last.result g.met.H.HelperOn.needs_stay c.requires.trying (c.tries.invariant.begins holds)
    (let none = c.tries-test.false in omega (arith, none)) (λ is. subst NoneHeld (sym c.tries.invariant.none.begun) holds)
    e.step e.won e.steps_won e.told_won e.lost e.steps_lost e.told_lost
