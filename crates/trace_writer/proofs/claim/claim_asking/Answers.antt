use Rattle.std.proofs.Common.{Bool, true, false, List, sym, subst, arith, ℕ, ◌<◌, ◌∙◌, ap, length}
use Rattle.chunk_plain.specs.Setup.{Setup}
use Rattle.chunk_plain.specs.Views.{BegunChunk, WriterView}
use Rattle.claim_arbiter.specs.Claiming.{ClaimsInTurn}
use Rattle.trace_writer.specs.Claims.{FindsNone}
use Rattle.trace_writer.specs.OwnSteps.{NoneHeld, IsOutNow}
use Rattle.trace_writer.proofs.claims.Asking.{none_yet, none_again, wins_in_turn, won_counts, lost_counts, gets_chunk, out_now}
use Rattle.trace_writer.proofs.holding.KeptChunks.{none_counted}
use Rattle.trace_writer.proofs.claims.Working.{work_none, work_gets, work_behind, work_helped, work_refused}
use Rattle.trace_writer.proofs.claim.claim_asking.Goals as goal
use Rattle.trace_writer.proofs.claims.RouteIds.{next_id, begun_as}

pub claim_over-requires-clause-id : goal.claim_over-requires-clause-id
claim_over-requires-clause-id g c =
    let i = c.claims.invariant in
    next_id (g.W.Words.means.setup c.args.table.now) (g.W.Words.means.setup c.claims.table) (g.W.Words.means.place c.args.seat.now) (g.W.Words.means.place c.claims.seat) c.args.route.now
    c.args.next_position (length (g.W.Words.means.view c.claims.table c.claims.seat).begun) c.id_of-id.result c.requires.may_claim.asks.route_is i.work.others.setup_stays i.work.others.place_stays
    (c.requires.may_claim.position_is ∙ ap length (sym i.none.begun)) c.id_of-id.ensures

pub claim_over-requires-clause-few_begun : goal.claim_over-requires-clause-few_begun
claim_over-requires-clause-few_begun g c =
    subst (λ (n : ℕ). n < 4294967295) (c.requires.may_claim.position_is ∙ ap length (sym c.claims.invariant.none.begun)) c.requires.may_claim.position_fits

pub returns-in-Some-clause-begun : goal.returns-in-Some-clause-begun
returns-in-Some-clause-begun g c =
    let i = c.claims.invariant in
    begun_as (g.W.Words.means.setup c.args.table.now) (g.W.Words.means.setup c.claims.table) c.in-Some.held.chunk c.args.next_position
    (length (g.W.Words.means.view c.claims.table c.claims.seat).begun) c.in-Some.held i.work.others.setup_stays (c.requires.may_claim.position_is ∙ ap length (sym i.none.begun)) c.in-Some.ensures.begun

pub claims-init : goal.claims-init
claims-init g c = record {
  none = none_yet (g.W.Words.means.view c.args.table.now c.args.seat.now);
  work = work_none g.W.Words.means g.H.HelperOn.needs g.H.HelperOn.helps
      c.args.route.now c.args.help.now c.args.table.now c.args.seat.now c.args.steps.now c.requires.may_claim.asks.seat_sits c.requires.may_claim.asks.needed;
  begins = work_none g.W.Words.means g.H.HelperOn.needs g.H.HelperOn.helps
      c.args.route.now c.args.help.now c.args.table.now c.args.seat.now c.args.steps.now c.requires.may_claim.asks.seat_sits c.requires.may_claim.asks.needed;
}

pub returns-in-Some-clause-won : goal.returns-in-Some-clause-won
returns-in-Some-clause-won g c =
    let setup = g.W.Words.means.setup c.args.table.now in let route = c.args.route.now in
    let mid = g.W.Words.means.view c.claims.table c.claims.seat in let new = g.W.Words.means.view c.claim_over.new.table c.claim_over.new.seat in
    wins_in_turn setup route c.in-Some.held.chunk (g.W.Words.means.view c.args.table.now c.args.seat.now) mid new c.claims.invariant.none
    (subst (λ (s : Setup). ClaimsInTurn s route.arbiter.first route.arbiter.chunks c.in-Some.held.chunk mid new) c.claims.invariant.work.others.setup_stays c.in-Some.ensures.won)

pub returns-in-Some-clause-work : goal.returns-in-Some-clause-work
returns-in-Some-clause-work g c =
    let route = c.args.route.now in
    work_behind g.W.Words.means g.H.HelperOn.needs g.H.HelperOn.helps
    route c.args.help.now c.args.table.now c.args.seat.now c.args.steps.now c.claims.help c.claims.table c.claims.seat c.claims.steps false c.claims.help
    c.claim_over.new.table c.claim_over.new.seat c.claim_over.new.steps c.claims.invariant.work
    (work_gets g.W.Words.means g.H.HelperOn.needs g.H.HelperOn.helps
    route c.claims.help c.claims.table c.claims.seat c.claims.steps c.claim_over.new.table c.claim_over.new.seat c.claim_over.new.steps g.met.H.HelperOn.needs_stay
    c.claims.invariant.work.needed
    (gets_chunk g.W.Words.means
    route c.in-Some.held.chunk _ c.claims.table c.claims.seat c.claim_over.new.table c.claim_over.new.seat c.claim_over.ensures.step c.in-Some.ensures.won c.in-Some.ensures.told_won)
    (won_counts (g.W.Words.means.setup c.claims.table) route.arbiter.first route.arbiter.chunks c.in-Some.held.chunk (g.W.Words.means.view c.claims.table c.claims.seat)
    (g.W.Words.means.view c.claim_over.new.table c.claim_over.new.seat) c.claims.steps c.claim_over.new.steps c.in-Some.ensures.won c.in-Some.ensures.steps_won))

pub returns-in-Some-clause-begins : goal.returns-in-Some-clause-begins
returns-in-Some-clause-begins g c =
    let route = c.args.route.now in
    work_behind g.W.Words.means g.H.HelperOn.needs g.H.HelperOn.helps
    route c.args.help.now c.args.table.now c.args.seat.now c.args.steps.now c.claims.help c.claims.table c.claims.seat c.claims.steps false c.claims.help
    c.claim_over.new.table c.claim_over.new.seat c.claim_over.new.steps c.claims.invariant.begins
    (work_gets g.W.Words.means g.H.HelperOn.needs g.H.HelperOn.helps
    route c.claims.help c.claims.table c.claims.seat c.claims.steps c.claim_over.new.table c.claim_over.new.seat c.claim_over.new.steps g.met.H.HelperOn.needs_stay
    c.claims.invariant.begins.needed
    (gets_chunk g.W.Words.means
    route c.in-Some.held.chunk _ c.claims.table c.claims.seat c.claim_over.new.table c.claim_over.new.seat c.claim_over.ensures.step c.in-Some.ensures.won c.in-Some.ensures.told_won)
    (won_counts (g.W.Words.means.setup c.claims.table) route.arbiter.first route.arbiter.chunks c.in-Some.held.chunk (g.W.Words.means.view c.claims.table c.claims.seat)
    (g.W.Words.means.view c.claim_over.new.table c.claim_over.new.seat) c.claims.steps c.claim_over.new.steps c.in-Some.ensures.won c.in-Some.ensures.steps_won))

pub returns-then-not-help-clause-none : goal.returns-then-not-help-clause-none
returns-then-not-help-clause-none g c =
    let setup = g.W.Words.means.setup c.claims.table in let route = c.args.route.now in
    let old = g.W.Words.means.view c.args.table.now c.args.seat.now in
    let mid = g.W.Words.means.view c.claims.table c.claims.seat in let new = g.W.Words.means.view c.claim_over.new.table c.claim_over.new.seat in
    subst (λ (v : WriterView). FindsNone old v) (sym (c.help.ensures.leaves.writers_stay c.claim_over.new.seat c.claim_over.ensures.step.seat_stays).1)
    (none_again setup route old mid new c.claims.invariant.none c.in_default.ensures.lost)

pub returns-then-not-help-clause-work : goal.returns-then-not-help-clause-work
returns-then-not-help-clause-work g c =
    let route = c.args.route.now in
    let out : IsOutNow g.W.Words.means
    route c.claims.table c.claims.seat c.claim_over.new.table c.claim_over.new.seat =
    out_now g.W.Words.means
    route c.claims.table c.claims.seat c.claim_over.new.table c.claim_over.new.seat c.claim_over.ensures.step c.in_default.ensures.lost
    (subst (λ (begun : List BegunChunk). NoneHeld begun) (sym c.claims.invariant.none.begun) c.requires.none_held) c.in_default.ensures.told_lost in
    work_behind g.W.Words.means g.H.HelperOn.needs g.H.HelperOn.helps
    route c.args.help.now c.args.table.now c.args.seat.now c.args.steps.now c.claims.help c.claims.table c.claims.seat c.claims.steps true c.help.new.self
    c.help.new.table c.claim_over.new.seat c.claim_over.new.steps c.claims.invariant.work
    (work_refused g.W.Words.means g.H.HelperOn.needs g.H.HelperOn.helps
    route c.claims.help c.claims.table c.claims.seat c.claims.steps c.claim_over.new.table c.claim_over.new.seat c.claim_over.new.steps c.help.new.self c.help.new.table c.requires.stalls out
    (subst (λ (answer : Bool). g.H.HelperOn.helps c.claims.help c.claim_over.new.table route.spec.producer answer c.help.new.self c.help.new.table) c.if-not-help.true c.help.ensures.helps)
    c.help.ensures.leaves c.help.ensures.needs
    (lost_counts (g.W.Words.means.setup c.claims.table) route.arbiter.first route.arbiter.chunks (g.W.Words.means.view c.claims.table c.claims.seat)
    (g.W.Words.means.view c.claim_over.new.table c.claim_over.new.seat) c.claims.steps c.claim_over.new.steps c.in_default.ensures.lost c.in_default.ensures.steps_lost))

pub returns-then-not-help-clause-begins : goal.returns-then-not-help-clause-begins
returns-then-not-help-clause-begins g c =
    let route = c.args.route.now in
    let out : IsOutNow g.W.Words.means
    route c.claims.table c.claims.seat c.claim_over.new.table c.claim_over.new.seat =
    out_now g.W.Words.means
    route c.claims.table c.claims.seat c.claim_over.new.table c.claim_over.new.seat c.claim_over.ensures.step c.in_default.ensures.lost
    (subst (λ (begun : List BegunChunk). NoneHeld begun) (sym c.claims.invariant.none.begun) c.requires.none_held) c.in_default.ensures.told_lost in
    work_behind g.W.Words.means g.H.HelperOn.needs g.H.HelperOn.helps
    route c.args.help.now c.args.table.now c.args.seat.now c.args.steps.now c.claims.help c.claims.table c.claims.seat c.claims.steps true c.help.new.self
    c.help.new.table c.claim_over.new.seat c.claim_over.new.steps c.claims.invariant.begins
    (work_refused g.W.Words.means g.H.HelperOn.needs g.H.HelperOn.helps
    route c.claims.help c.claims.table c.claims.seat c.claims.steps c.claim_over.new.table c.claim_over.new.seat c.claim_over.new.steps c.help.new.self c.help.new.table c.requires.stalls out
    (subst (λ (answer : Bool). g.H.HelperOn.helps c.claims.help c.claim_over.new.table route.spec.producer answer c.help.new.self c.help.new.table) c.if-not-help.true c.help.ensures.helps)
    c.help.ensures.leaves c.help.ensures.needs
    (lost_counts (g.W.Words.means.setup c.claims.table) route.arbiter.first route.arbiter.chunks (g.W.Words.means.view c.claims.table c.claims.seat)
    (g.W.Words.means.view c.claim_over.new.table c.claim_over.new.seat) c.claims.steps c.claim_over.new.steps c.in_default.ensures.lost c.in_default.ensures.steps_lost))

pub claims-preserved : goal.claims-preserved
claims-preserved g c =
    let route = c.args.route.now in
    let old = g.W.Words.means.view c.args.table.now c.args.seat.now in
    let mid = g.W.Words.means.view c.claims.table c.claims.seat in let new = g.W.Words.means.view c.claim_over.new.table c.claim_over.new.seat in
    let out : IsOutNow g.W.Words.means
    route c.claims.table c.claims.seat c.claim_over.new.table c.claim_over.new.seat =
    out_now g.W.Words.means
    route c.claims.table c.claims.seat c.claim_over.new.table c.claim_over.new.seat c.claim_over.ensures.step c.in_default.ensures.lost
    (subst (λ (begun : List BegunChunk). NoneHeld begun) (sym c.claims.invariant.none.begun) c.requires.none_held) c.in_default.ensures.told_lost in
    record {
      none = subst (λ (v : WriterView). FindsNone old v) (sym (c.help.ensures.leaves.writers_stay c.claim_over.new.seat c.claim_over.ensures.step.seat_stays).1)
          (none_again (g.W.Words.means.setup c.claims.table) route old mid new c.claims.invariant.none c.in_default.ensures.lost);
      work = work_behind g.W.Words.means g.H.HelperOn.needs g.H.HelperOn.helps
          route c.args.help.now c.args.table.now c.args.seat.now c.args.steps.now c.claims.help c.claims.table c.claims.seat c.claims.steps false c.help.new.self
          c.help.new.table c.claim_over.new.seat c.claim_over.new.steps c.claims.invariant.work
          (work_helped g.W.Words.means g.H.HelperOn.needs g.H.HelperOn.helps
          route c.claims.help c.claims.table c.claims.seat c.claims.steps c.claim_over.new.table c.claim_over.new.seat c.claim_over.new.steps c.help.new.self c.help.new.table c.requires.stalls out
          (subst (λ (answer : Bool). g.H.HelperOn.helps c.claims.help c.claim_over.new.table route.spec.producer answer c.help.new.self c.help.new.table) c.if-not-help.false c.help.ensures.helps)
          c.help.ensures.leaves c.help.ensures.needs
          (lost_counts (g.W.Words.means.setup c.claims.table) route.arbiter.first route.arbiter.chunks mid new c.claims.steps c.claim_over.new.steps c.in_default.ensures.lost c.in_default.ensures.steps_lost));
      begins = work_behind g.W.Words.means g.H.HelperOn.needs g.H.HelperOn.helps
          route c.args.help.now c.args.table.now c.args.seat.now c.args.steps.now c.claims.help c.claims.table c.claims.seat c.claims.steps false c.help.new.self
          c.help.new.table c.claim_over.new.seat c.claim_over.new.steps c.claims.invariant.begins
          (work_helped g.W.Words.means g.H.HelperOn.needs g.H.HelperOn.helps
          route c.claims.help c.claims.table c.claims.seat c.claims.steps c.claim_over.new.table c.claim_over.new.seat c.claim_over.new.steps c.help.new.self c.help.new.table c.requires.stalls out
          (subst (λ (answer : Bool). g.H.HelperOn.helps c.claims.help c.claim_over.new.table route.spec.producer answer c.help.new.self c.help.new.table) c.if-not-help.false c.help.ensures.helps)
          c.help.ensures.leaves c.help.ensures.needs
          (lost_counts (g.W.Words.means.setup c.claims.table) route.arbiter.first route.arbiter.chunks mid new c.claims.steps c.claim_over.new.steps c.in_default.ensures.lost c.in_default.ensures.steps_lost));
    }

pub claim_over-requires-clause-few : goal.claim_over-requires-clause-few
claim_over-requires-clause-few g c =
    let none = none_counted (g.W.Words.means.view c.claims.table c.claims.seat).begun
    (subst (λ (begun : List BegunChunk). NoneHeld begun) (sym c.claims.invariant.none.begun) c.requires.none_held) in
    omega (arith, none)
