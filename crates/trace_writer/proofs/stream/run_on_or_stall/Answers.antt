use Rattle.std.proofs.Common.{◌∙◌, ◌+◌, true, false, length, refl, sym, subst, ap}
use Rattle.chunk_plain.specs.Setup.{Setup, spot}
use Rattle.chunk_plain.specs.Views.{WriterView}
use Rattle.trace_writer.specs.Site.{site_of}
use Rattle.trace_writer.specs.Drafted.{IsFit}
use Rattle.trace_writer.specs.Headers.{held_head}
use Rattle.trace_writer.proofs.packets.RunOn.{Starts, next_position, ends_as, held_first, ended_fits, ended_head, next_last, run_fits, run_follows, goes_on_in, runs_on, stopped_holds_none}
use Rattle.trace_writer.proofs.stops.Stalling.{ends_stuck, stops_stuck, begun_many}
use Rattle.trace_writer.proofs.claims.Working.{work_before, work_then}
use Rattle.trace_writer.proofs.stream.run_on_or_stall.Goals as goal
use Rattle.trace_writer.proofs.claims.RouteIds.{next_fits, route_from}
use Rattle.trace_writer.proofs.claims.MayAskStill.{asks_behind_step}

pub complete-requires-clause-from : goal.complete-requires-clause-from
complete-requires-clause-from g c = route_from (g.W.Words.means.setup c.args.table.now) (g.W.Words.means.place c.args.seat.now) c.args.route.now c.requires.may_ask.route_is

pub complete-requires-clause-fit : goal.complete-requires-clause-fit
complete-requires-clause-fit g c =
    let route = c.args.route.now in let setup = g.W.Words.means.setup c.args.table.now in let place = g.W.Words.means.place c.args.seat.now in let site = site_of setup place route in
    let old = g.W.Words.means.view c.args.table.now c.args.seat.now in
    let i = c.requires.inside in let e = c.end-chunk.ensures in
    let ends = ends_as c.args.fragment c.end-chunk.result e.held e.bytes e.sealed e.count e.continues in
    ended_fits site i.packet i.older old old c.args.pending.now c.args.fragment c.end-chunk.result
    (held_first site i.packet i.older old c.args.pending.now c.args.fragment i.inside) ends e.len

pub complete-requires-clause-head : goal.complete-requires-clause-head
complete-requires-clause-head g c =
    let route = c.args.route.now in let setup = g.W.Words.means.setup c.args.table.now in let place = g.W.Words.means.place c.args.seat.now in let site = site_of setup place route in
    let old = g.W.Words.means.view c.args.table.now c.args.seat.now in
    let i = c.requires.inside in let e = c.end-chunk.ensures in
    let ends = ends_as c.args.fragment c.end-chunk.result e.held e.bytes e.sealed e.count e.continues in
    ended_head site i.packet i.older old old c.args.pending.now c.args.fragment c.end-chunk.result
    (held_first site i.packet i.older old c.args.pending.now c.args.fragment i.inside) ends

pub claim_asking-requires-clause-may_claim : goal.claim_asking-requires-clause-may_claim
claim_asking-requires-clause-may_claim g c =
    let i = c.requires.inside in
    record {
      asks = asks_behind_step g.met.H.HelperOn.needs_stay c.complete.ensures.quiet.step c.requires.may_ask;
      position_is = next_position _ i.packet i.older _ c.args.pending.now c.args.fragment i.inside ∙ sym (begun_many _ _ _ _ _ c.complete.ensures.view);
      position_fits = next_fits c.args.fragment c.requires.ends.ids;
    }

pub start_fragment-requires-clause-fit : goal.start_fragment-requires-clause-fit
start_fragment-requires-clause-fit g c =
    let route = c.args.route.now in let setup = g.W.Words.means.setup c.args.table.now in let place = g.W.Words.means.place c.args.seat.now in let site = site_of setup place route in
    let old = g.W.Words.means.view c.args.table.now c.args.seat.now in let one = g.W.Words.means.view c.complete.new.table c.complete.new.seat in
    let i = c.requires.inside in let e = c.end-chunk.ensures in
    let ends = ends_as c.args.fragment c.end-chunk.result e.held e.bytes e.sealed e.count e.continues in
    let two = g.W.Words.means.view c.claim_asking.new.table c.claim_asking.new.seat in
    let n = c.new.ensures in let b = c.in-Some.ensures.begun in
    let starts : Starts site c.args.fragment c.in-Some.next c.new.result = record {
      held = n.held;
      sealed = n.sealed;
      at = n.at;
      count = n.count;
      continues = n.continues;
      position = b.position_is;
      whole = b.whole ∙ ap (λ (s : Setup). (spot s c.in-Some.next.chunk).payload_size) c.complete.ensures.quiet.step.setup_stays;
    } in
    let next = next_last setup place c.in-Some.next.chunk route old one two c.args.pending.now c.args.fragment c.end-chunk.result c.requires.may_ask.route_is c.in-Some.ensures.won ends c.complete.ensures.view in
    subst (λ (s : Setup). IsFit s two c.new.result c.new.result.count c.new.result.at) (sym (c.in-Some.ensures.work.others.setup_stays ∙ c.complete.ensures.quiet.step.setup_stays))
    (run_fits site i.packet i.older old two c.args.pending.now c.args.fragment c.end-chunk.result.held.body.payload.items c.new.result c.in-Some.next i.inside next starts)

pub start_fragment-requires-clause-head : goal.start_fragment-requires-clause-head
start_fragment-requires-clause-head g c =
    let route = c.args.route.now in let setup = g.W.Words.means.setup c.args.table.now in let place = g.W.Words.means.place c.args.seat.now in let site = site_of setup place route in
    let old = g.W.Words.means.view c.args.table.now c.args.seat.now in let one = g.W.Words.means.view c.complete.new.table c.complete.new.seat in
    let i = c.requires.inside in let e = c.end-chunk.ensures in
    let ends = ends_as c.args.fragment c.end-chunk.result e.held e.bytes e.sealed e.count e.continues in
    let two = g.W.Words.means.view c.claim_asking.new.table c.claim_asking.new.seat in
    let n = c.new.ensures in let b = c.in-Some.ensures.begun in
    let starts : Starts site c.args.fragment c.in-Some.next c.new.result = record {
      held = n.held;
      sealed = n.sealed;
      at = n.at;
      count = n.count;
      continues = n.continues;
      position = b.position_is;
      whole = b.whole ∙ ap (λ (s : Setup). (spot s c.in-Some.next.chunk).payload_size) c.complete.ensures.quiet.step.setup_stays;
    } in
    let next = next_last setup place c.in-Some.next.chunk route old one two c.args.pending.now c.args.fragment c.end-chunk.result c.requires.may_ask.route_is c.in-Some.ensures.won ends c.complete.ensures.view in
    run_follows site i.packet i.older old two c.args.pending.now c.args.fragment c.end-chunk.result.held.body.payload.items c.new.result c.in-Some.next
    (held_head (c.new.result.count + 1) c.new.result.continues) i.inside next starts

pub returns-in-Some-clause-flow : goal.returns-in-Some-clause-flow
returns-in-Some-clause-flow g c =
    let route = c.args.route.now in let setup = g.W.Words.means.setup c.args.table.now in let place = g.W.Words.means.place c.args.seat.now in let site = site_of setup place route in
    let old = g.W.Words.means.view c.args.table.now c.args.seat.now in let one = g.W.Words.means.view c.complete.new.table c.complete.new.seat in
    let i = c.requires.inside in let e = c.end-chunk.ensures in
    let ends = ends_as c.args.fragment c.end-chunk.result e.held e.bytes e.sealed e.count e.continues in
    let two = g.W.Words.means.view c.claim_asking.new.table c.claim_asking.new.seat in
    let n = c.new.ensures in let b = c.in-Some.ensures.begun in
    let starts : Starts site c.args.fragment c.in-Some.next c.new.result = record {
      held = n.held;
      sealed = n.sealed;
      at = n.at;
      count = n.count;
      continues = n.continues;
      position = b.position_is;
      whole = b.whole ∙ ap (λ (s : Setup). (spot s c.in-Some.next.chunk).payload_size) c.complete.ensures.quiet.step.setup_stays;
    } in
    let next = next_last setup place c.in-Some.next.chunk route old one two c.args.pending.now c.args.fragment c.end-chunk.result c.requires.may_ask.route_is c.in-Some.ensures.won ends c.complete.ensures.view in
    let s = c.start_fragment.ensures in
    let new = g.W.Words.means.view c.start_fragment.new.table c.start_fragment.new.seat in
    runs_on site old new c.args.pending.now c.complete.new.pending c.args.fragment c.start_fragment.result c.requires.may_ask.route_is.least c.requires.ends.filled
    (goes_on_in site old two new c.args.pending.now c.complete.new.pending c.args.fragment c.end-chunk.result c.new.result c.in-Some.next c.start_fragment.result
    next ends c.complete.ensures.pending starts
    s.started s.view)

pub returns-in-Some-clause-work : goal.returns-in-Some-clause-work
returns-in-Some-clause-work g c =
    work_before g.W.Words.means g.H.HelperOn.needs g.H.HelperOn.helps
    c.args.route.now c.args.help.now c.args.table.now c.args.seat.now c.args.steps.now c.complete.new.table c.complete.new.seat false c.claim_asking.new.help c.start_fragment.new.table c.start_fragment.new.seat c.claim_asking.new.steps
    (record { quiet = c.complete.ensures.quiet; calls = ap (λ (v : WriterView). v.calls) c.complete.ensures.view })
    (work_then g.W.Words.means g.H.HelperOn.needs g.H.HelperOn.helps
    c.args.route.now c.args.help.now c.complete.new.table c.complete.new.seat c.args.steps.now false c.claim_asking.new.help c.claim_asking.new.table c.claim_asking.new.seat c.claim_asking.new.steps c.start_fragment.new.table c.start_fragment.new.seat
    g.met.H.HelperOn.needs_stay c.in-Some.ensures.work
    (record { quiet = c.start_fragment.ensures.quiet; calls = ap (λ (v : WriterView). v.calls) c.start_fragment.ensures.view.view }))

pub returns-in-None-clause-flow : goal.returns-in-None-clause-flow
returns-in-None-clause-flow g c =
    let route = c.args.route.now in let setup = g.W.Words.means.setup c.args.table.now in let place = g.W.Words.means.place c.args.seat.now in let site = site_of setup place route in
    let old = g.W.Words.means.view c.args.table.now c.args.seat.now in let one = g.W.Words.means.view c.complete.new.table c.complete.new.seat in
    let i = c.requires.inside in let e = c.end-chunk.ensures in
    let ends = ends_as c.args.fragment c.end-chunk.result e.held e.bytes e.sealed e.count e.continues in
    let new = g.W.Words.means.view c.claim_asking.new.table c.claim_asking.new.seat in
    let none = c.in-None.ensures.none in (
      stops_stuck site old new c.args.pending.now c.complete.new.pending c.args.fragment c.requires.ends.filled
          (ends_stuck setup place route old one new c.args.pending.now c.args.fragment c.end-chunk.result c.requires.stalls ends c.complete.ensures.view none.begun none.calls),
      next_position site i.packet i.older old c.args.pending.now c.args.fragment i.inside
          ∙ sym (ap length none.begun ∙ begun_many _ _ _ _ _ c.complete.ensures.view),
    )

pub returns-in-None-clause-work : goal.returns-in-None-clause-work
returns-in-None-clause-work g c =
    work_before g.W.Words.means g.H.HelperOn.needs g.H.HelperOn.helps
    c.args.route.now c.args.help.now c.args.table.now c.args.seat.now c.args.steps.now c.complete.new.table c.complete.new.seat true c.claim_asking.new.help c.claim_asking.new.table c.claim_asking.new.seat c.claim_asking.new.steps
    (record { quiet = c.complete.ensures.quiet; calls = ap (λ (v : WriterView). v.calls) c.complete.ensures.view }) c.in-None.ensures.work

pub claim_asking-requires-clause-none_held : goal.claim_asking-requires-clause-none_held
claim_asking-requires-clause-none_held g c =
    let route = c.args.route.now in let setup = g.W.Words.means.setup c.args.table.now in let place = g.W.Words.means.place c.args.seat.now in let site = site_of setup place route in
    let old = g.W.Words.means.view c.args.table.now c.args.seat.now in let one = g.W.Words.means.view c.complete.new.table c.complete.new.seat in
    let i = c.requires.inside in let e = c.end-chunk.ensures in
    let ends = ends_as c.args.fragment c.end-chunk.result e.held e.bytes e.sealed e.count e.continues in
    stopped_holds_none site i.packet i.older old one c.args.pending.now c.complete.new.pending c.args.fragment i.inside
    (stops_stuck site old one c.args.pending.now c.complete.new.pending c.args.fragment c.requires.ends.filled
    (ends_stuck setup place route old one one c.args.pending.now c.args.fragment c.end-chunk.result c.requires.stalls ends c.complete.ensures.view refl refl))
