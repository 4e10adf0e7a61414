use Rattle.std.proofs.Common.{◌+◌, ◌-◌, ◌∙◌, true, false, vec_len, sym, subst, ap}
use Rattle.chunk_plain.specs.Setup.{Setup}
use Rattle.chunk_plain.specs.Views.{WriterView}
use Rattle.trace_writer.specs.Site.{site_of}
use Rattle.trace_writer.specs.Drafted.{IsFit}
use Rattle.trace_writer.specs.Headers.{held_head}
use Rattle.trace_writer.proofs.claims.Working.{work_then}
use Rattle.trace_writer.proofs.holding.KeptChunks.{keeps_long}
use Rattle.trace_writer.proofs.claims.QuietRows.{silent_both}
use Rattle.trace_writer.proofs.packets.RunOn.{few_inside, next_position, next_position_after, ends_as, held_behind, ended_fits, ended_head, next_first, run_fits, run_follows, goes_on_in, runs_on, cannot_run_on}
use Rattle.trace_writer.proofs.stream.run_on_or_try.Goals as goal
use Rattle.trace_writer.proofs.claims.RouteIds.{next_fits, route_from_now}

pub complete-requires-clause-from : goal.complete-requires-clause-from
complete-requires-clause-from g c =
    route_from_now (g.W.Words.means.setup c.args.table.now) (g.W.Words.means.setup c.claim_trying.new.table) (g.W.Words.means.place c.args.seat.now) (g.W.Words.means.place c.claim_trying.new.seat)
    c.args.route.now c.requires.may_ask.route_is c.claim_trying.ensures.work.others.setup_stays c.claim_trying.ensures.work.others.place_stays

pub claim_trying-requires-clause-few : goal.claim_trying-requires-clause-few
claim_trying-requires-clause-few g c =
    let i = c.requires.inside in
    few_inside _ i.packet i.older _ c.args.pending.now c.args.fragment i.inside

pub claim_trying-requires-clause-may_claim : goal.claim_trying-requires-clause-may_claim
claim_trying-requires-clause-may_claim g c =
    let i = c.requires.inside in
    record {
      asks = c.requires.may_ask;
      position_is = next_position _ i.packet i.older _ c.args.pending.now c.args.fragment i.inside;
      position_fits = next_fits c.args.fragment c.requires.ends.ids;
    }

pub returns-in_default-clause-flow : goal.returns-in_default-clause-flow
returns-in_default-clause-flow g c =
    let setup = g.W.Words.means.setup c.args.table.now in let place = g.W.Words.means.place c.args.seat.now in
    let old = g.W.Words.means.view c.args.table.now c.args.seat.now in let mid = g.W.Words.means.view c.claim_trying.new.table c.claim_trying.new.seat in
    let new = g.W.Words.means.view c.give_up.new.table c.give_up.new.seat in
    let none = c.in_default.ensures.none in let others = c.in_default.ensures.work.others in let i = c.requires.inside in (
      cannot_run_on setup (g.W.Words.means.setup c.claim_trying.new.table) place (g.W.Words.means.place c.claim_trying.new.seat) c.args.route.now old mid new
          c.args.pending.now c.give_up.new.pending c.args.fragment others.setup_stays others.place_stays none c.give_up.ensures.stops,
      next_position_after _ i.packet i.older old mid new c.args.pending.now c.args.fragment i.inside none (keeps_long mid.begun new.begun c.give_up.ensures.quiet.chunks),
    )

pub complete-requires-clause-fit : goal.complete-requires-clause-fit
complete-requires-clause-fit g c =
    let setup = g.W.Words.means.setup c.args.table.now in let route = c.args.route.now in let site = site_of setup (g.W.Words.means.place c.args.seat.now) route in
    let old = g.W.Words.means.view c.args.table.now c.args.seat.now in let one = g.W.Words.means.view c.claim_trying.new.table c.claim_trying.new.seat in
    let i = c.requires.inside in let e = c.end.ensures in
    subst (λ (s : Setup). IsFit s one c.end.result (c.end.result.count - 1) (vec_len c.end.result.held.body.payload)) (sym c.in-Some.ensures.work.others.setup_stays)
    (ended_fits site i.packet i.older old one c.args.pending.now c.args.fragment c.end.result
    (held_behind route c.in-Some.next.chunk site i.packet i.older old one c.args.pending.now c.args.fragment
    c.in-Some.ensures.won i.inside)
    (ends_as c.args.fragment c.end.result e.held e.bytes e.sealed e.count e.continues) e.len)

pub complete-requires-clause-head : goal.complete-requires-clause-head
complete-requires-clause-head g c =
    let setup = g.W.Words.means.setup c.args.table.now in let route = c.args.route.now in let site = site_of setup (g.W.Words.means.place c.args.seat.now) route in
    let old = g.W.Words.means.view c.args.table.now c.args.seat.now in let one = g.W.Words.means.view c.claim_trying.new.table c.claim_trying.new.seat in
    let i = c.requires.inside in let e = c.end.ensures in
    ended_head site i.packet i.older old one c.args.pending.now c.args.fragment c.end.result
    (held_behind route c.in-Some.next.chunk site i.packet i.older old one c.args.pending.now c.args.fragment
    c.in-Some.ensures.won i.inside)
    (ends_as c.args.fragment c.end.result e.held e.bytes e.sealed e.count e.continues)

pub start_fragment-requires-clause-fit : goal.start_fragment-requires-clause-fit
start_fragment-requires-clause-fit g c =
    let route = c.args.route.now in let setup = g.W.Words.means.setup c.args.table.now in let place = g.W.Words.means.place c.args.seat.now in let site = site_of setup place route in
    let old = g.W.Words.means.view c.args.table.now c.args.seat.now in let one = g.W.Words.means.view c.claim_trying.new.table c.claim_trying.new.seat in
    let two = g.W.Words.means.view c.complete.new.table c.complete.new.seat in
    let i = c.requires.inside in let e = c.end.ensures in let n = c.new.ensures in let b = c.in-Some.ensures.begun in
    subst (λ (s : Setup). IsFit s two c.new.result c.new.result.count c.new.result.at) (sym (c.complete.ensures.quiet.step.setup_stays ∙ c.in-Some.ensures.work.others.setup_stays))
    (run_fits site i.packet i.older old two c.args.pending.now c.args.fragment c.end.result.held.body.payload.items c.new.result c.in-Some.next i.inside
    (next_first setup place (g.W.Words.means.place c.claim_trying.new.seat) c.in-Some.next.chunk route old one two c.args.pending.now c.args.fragment c.end.result c.requires.may_ask.route_is
    c.in-Some.ensures.won
    (ends_as c.args.fragment c.end.result e.held e.bytes e.sealed e.count e.continues) c.in-Some.ensures.work.others.place_stays c.complete.ensures.view)
    (record { held = n.held; sealed = n.sealed; at = n.at; count = n.count; continues = n.continues; position = b.position_is; whole = b.whole }))

pub start_fragment-requires-clause-head : goal.start_fragment-requires-clause-head
start_fragment-requires-clause-head g c =
    let route = c.args.route.now in let setup = g.W.Words.means.setup c.args.table.now in let place = g.W.Words.means.place c.args.seat.now in let site = site_of setup place route in
    let old = g.W.Words.means.view c.args.table.now c.args.seat.now in let one = g.W.Words.means.view c.claim_trying.new.table c.claim_trying.new.seat in
    let two = g.W.Words.means.view c.complete.new.table c.complete.new.seat in
    let i = c.requires.inside in let e = c.end.ensures in let n = c.new.ensures in let b = c.in-Some.ensures.begun in
    run_follows site i.packet i.older old two c.args.pending.now c.args.fragment c.end.result.held.body.payload.items c.new.result c.in-Some.next
    (held_head (c.new.result.count + 1) c.new.result.continues) i.inside
    (next_first setup place (g.W.Words.means.place c.claim_trying.new.seat) c.in-Some.next.chunk route old one two c.args.pending.now c.args.fragment c.end.result c.requires.may_ask.route_is
    c.in-Some.ensures.won
    (ends_as c.args.fragment c.end.result e.held e.bytes e.sealed e.count e.continues) c.in-Some.ensures.work.others.place_stays c.complete.ensures.view)
    (record { held = n.held; sealed = n.sealed; at = n.at; count = n.count; continues = n.continues; position = b.position_is; whole = b.whole })

pub returns-clause-flow : goal.returns-clause-flow
returns-clause-flow g c =
    let route = c.args.route.now in let setup = g.W.Words.means.setup c.args.table.now in let place = g.W.Words.means.place c.args.seat.now in let site = site_of setup place route in
    let old = g.W.Words.means.view c.args.table.now c.args.seat.now in let one = g.W.Words.means.view c.claim_trying.new.table c.claim_trying.new.seat in
    let two = g.W.Words.means.view c.complete.new.table c.complete.new.seat in
    let i = c.requires.inside in let e = c.end.ensures in let n = c.new.ensures in let b = c.in-Some.ensures.begun in let s = c.start_fragment.ensures in
    let new = g.W.Words.means.view c.start_fragment.new.table c.start_fragment.new.seat in
    let ends = ends_as c.args.fragment c.end.result e.held e.bytes e.sealed e.count e.continues in
    runs_on site old new c.args.pending.now c.complete.new.pending c.args.fragment c.start_fragment.result c.requires.may_ask.route_is.least c.requires.ends.filled
    (goes_on_in site old two new c.args.pending.now c.complete.new.pending c.args.fragment c.end.result c.new.result c.in-Some.next c.start_fragment.result
    (next_first setup place (g.W.Words.means.place c.claim_trying.new.seat) c.in-Some.next.chunk route old one two c.args.pending.now c.args.fragment c.end.result c.requires.may_ask.route_is
    c.in-Some.ensures.won ends c.in-Some.ensures.work.others.place_stays c.complete.ensures.view)
    ends c.complete.ensures.pending
    (record { held = n.held; sealed = n.sealed; at = n.at; count = n.count; continues = n.continues; position = b.position_is; whole = b.whole })
    s.started s.view)

pub returns-in_default-clause-work : goal.returns-in_default-clause-work
returns-in_default-clause-work g c =
    work_then g.W.Words.means g.H.HelperOn.needs g.H.HelperOn.helps
    c.args.route.now c.args.help.now c.args.table.now c.args.seat.now c.args.steps.now true c.claim_trying.new.help c.claim_trying.new.table c.claim_trying.new.seat c.claim_trying.new.steps
    c.give_up.new.table c.give_up.new.seat g.met.H.HelperOn.needs_stay c.in_default.ensures.work
    (record { quiet = c.give_up.ensures.quiet; calls = c.give_up.ensures.stops.calls })

pub returns-clause-work : goal.returns-clause-work
returns-clause-work g c =
    work_then g.W.Words.means g.H.HelperOn.needs g.H.HelperOn.helps
    c.args.route.now c.args.help.now c.args.table.now c.args.seat.now c.args.steps.now false c.claim_trying.new.help c.claim_trying.new.table c.claim_trying.new.seat c.claim_trying.new.steps
    c.start_fragment.new.table c.start_fragment.new.seat g.met.H.HelperOn.needs_stay c.in-Some.ensures.work
    (silent_both g.W.Words.means
    c.claim_trying.new.table c.claim_trying.new.seat c.complete.new.table c.complete.new.seat c.start_fragment.new.table c.start_fragment.new.seat
    (record { quiet = c.complete.ensures.quiet; calls = ap (λ (v : WriterView). v.calls) c.complete.ensures.view })
    (record { quiet = c.start_fragment.ensures.quiet; calls = ap (λ (v : WriterView). v.calls) c.start_fragment.ensures.view.view }))
