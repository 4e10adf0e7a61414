use Rattle.std.proofs.Common.{◌∙◌, sym, ap, arith}
use Rattle.chunk_plain.specs.Views.{WriterView}
use Rattle.trace_writer.specs.Site.{site_of}
use Rattle.trace_writer.proofs.packets.Ending.{behind_fits, behind_head}
use Rattle.trace_writer.proofs.stops.Idling.{begun_one_more}
use Rattle.trace_writer.proofs.holding.KeptChunks.{shown_none_held}
use Rattle.trace_writer.proofs.packets.Starting.{behind_roomy, behind_idle, room_of, idle_there, place_here}
use Rattle.trace_writer.proofs.claims.Working.{work_none, work_before}
use Rattle.trace_writer.proofs.begin.held_or_new_place.Goals as goal
use Rattle.trace_writer.proofs.claims.RouteIds.{route_from}
use Rattle.trace_writer.proofs.claims.MayAskStill.{asks_behind_step}

pub complete-requires-clause-from : goal.complete-requires-clause-from
complete-requires-clause-from g c = route_from (g.W.Words.means.setup c.args.table.now) (g.W.Words.means.place c.args.seat.now) c.args.route.now c.requires.may_ask.route_is

pub complete-requires-clause-fit : goal.complete-requires-clause-fit
complete-requires-clause-fit g c = behind_fits _ _ (g.W.Words.means.view c.args.table.now c.args.seat.now) _ c.args.chunk c.requires.behind.1

pub complete-requires-clause-head : goal.complete-requires-clause-head
complete-requires-clause-head g c = behind_head _ _ (g.W.Words.means.view c.args.table.now c.args.seat.now) _ c.args.chunk c.requires.behind.1

pub new_place-requires-clause-may_claim : goal.new_place-requires-clause-may_claim
new_place-requires-clause-may_claim g c = record {
  asks = asks_behind_step g.met.H.HelperOn.needs_stay c.complete.ensures.quiet.step c.requires.may_ask;
  position_is = sym (begun_one_more (site_of (g.W.Words.means.setup c.args.table.now) (g.W.Words.means.place c.args.seat.now) c.args.route.now) c.requires.behind.0 (g.W.Words.means.view c.args.table.now c.args.seat.now)
      (g.W.Words.means.view c.complete.new.table c.complete.new.seat) c.args.pending.now c.args.chunk _ c.complete.ensures.view c.requires.behind.1);
  position_fits = let ids = c.requires.ids in omega (arith, ids);
}

pub returns-then-has_room-clause-place : goal.returns-then-has_room-clause-place
returns-then-has_room-clause-place g c = λ account behind.
    let site = site_of (g.W.Words.means.setup c.args.table.now) (g.W.Words.means.place c.args.seat.now) c.args.route.now in
    behind_roomy site account (g.W.Words.means.view c.args.table.now c.args.seat.now) c.args.pending.now c.args.chunk c.requires.ids
    (room_of site c.args.chunk c.has_room.result behind.whole c.has_room.ensures ∙ c.if-has_room.true) behind

pub returns-clause-place : goal.returns-clause-place
returns-clause-place g c = λ account behind.
    let site = site_of (g.W.Words.means.setup c.args.table.now) (g.W.Words.means.place c.args.seat.now) c.args.route.now in
    let old = g.W.Words.means.view c.args.table.now c.args.seat.now in
    let mid = g.W.Words.means.view c.complete.new.table c.complete.new.seat in
    let new = g.W.Words.means.view c.new_place.new.table c.new_place.new.seat in
    let setup = g.W.Words.means.setup c.args.table.now in
    let place = g.W.Words.means.place c.args.seat.now in
    let step = c.complete.ensures.quiet.step in
    let idle = behind_idle site account old mid c.args.pending.now c.complete.new.pending c.args.chunk c.args.chunk.few c.complete.ensures.pending c.complete.ensures.view
    (room_of site c.args.chunk c.has_room.result behind.whole c.has_room.ensures ∙ c.if-has_room.false) behind in
    place_here setup (g.W.Words.means.setup c.complete.new.table) place (g.W.Words.means.place c.complete.new.seat) c.args.route.now account new c.complete.new.pending c.new_place.result
    step.setup_stays step.place_stays
    (c.new_place.ensures.place account c.complete.new.pending
    (idle_there setup (g.W.Words.means.setup c.complete.new.table) place (g.W.Words.means.place c.complete.new.seat) c.args.route.now account mid c.complete.new.pending
    step.setup_stays step.place_stays idle))

pub new_place-requires-clause-none_held : goal.new_place-requires-clause-none_held
new_place-requires-clause-none_held g c =
    let site = site_of (g.W.Words.means.setup c.args.table.now) (g.W.Words.means.place c.args.seat.now) c.args.route.now in
    let account = c.requires.behind.0 in let behind = c.requires.behind.1 in
    let mid = g.W.Words.means.view c.complete.new.table c.complete.new.seat in
    let idle = behind_idle site account (g.W.Words.means.view c.args.table.now c.args.seat.now) mid c.args.pending.now c.complete.new.pending c.args.chunk c.args.chunk.few c.complete.ensures.pending c.complete.ensures.view
    (room_of site c.args.chunk c.has_room.result behind.whole c.has_room.ensures ∙ c.if-has_room.false) behind in
    shown_none_held site 0 mid.begun idle.pages idle.shown

pub returns-then-has_room-clause-work : goal.returns-then-has_room-clause-work
returns-then-has_room-clause-work g c =
    work_none g.W.Words.means g.H.HelperOn.needs g.H.HelperOn.helps
    c.args.route.now c.args.help.now c.args.table.now c.args.seat.now c.args.steps.now c.requires.may_ask.seat_sits c.requires.may_ask.needed

pub returns-clause-work : goal.returns-clause-work
returns-clause-work g c =
    work_before g.W.Words.means g.H.HelperOn.needs g.H.HelperOn.helps
    c.args.route.now c.args.help.now c.args.table.now c.args.seat.now c.args.steps.now c.complete.new.table c.complete.new.seat _ c.new_place.new.help c.new_place.new.table c.new_place.new.seat
    c.new_place.new.steps
    (record { quiet = c.complete.ensures.quiet; calls = ap (λ (v : WriterView). v.calls) c.complete.ensures.view }) c.new_place.ensures.work
