use Rattle.std.proofs.Common.{ap, arith}
use Rattle.commit_body.specs.Patches.{holes_outside}
use Rattle.trace_writer.specs.Site.{site_of}
use Rattle.trace_writer.proofs.packets.GivenUp.{closes_none, closes_further, closes_within, ends_given_up, loses_rest, dropped_fits, dropped_head}
use Rattle.trace_writer.proofs.stream.give_up.Goals as goal
use Rattle.trace_writer.proofs.claims.RouteIds.{route_from}

pub complete-requires-clause-from : goal.complete-requires-clause-from
complete-requires-clause-from g c = route_from (g.W.Words.means.setup c.args.table.now) (g.W.Words.means.place c.args.seat.now) c.args.route.now c.requires.route

pub holes-init : goal.holes-init
holes-init g c =
    let i = c.requires.inside in
    closes_none _ i.packet i.older _ c.args.pending.now c.args.fragment i.inside

pub close_hole-requires-clause-room : goal.close_hole-requires-clause-room
close_hole-requires-clause-room g c =
    let i = c.holes.invariant in
    omega (arith, i.room, ap (λ n. holes_outside n c.holes.pending.holes) i.same.position)

pub close_hole-requires-clause-here : goal.close_hole-requires-clause-here
close_hole-requires-clause-here g c =
    let i = c.requires.inside in
    closes_within _ i.packet i.older _ c.args.pending.now c.holes.pending c.args.fragment c.holes.fragment i.inside c.holes.invariant

pub holes-preserved : goal.holes-preserved
holes-preserved g c =
    closes_further _ _ c.args.pending.now c.holes.pending c.close_hole.new.pending c.args.fragment c.holes.fragment c.close_hole.new.self c.close_hole.ensures c.holes.invariant

pub complete-requires-clause-fit : goal.complete-requires-clause-fit
complete-requires-clause-fit g c =
    let i = c.requires.inside in let e = c.end_dropped.ensures in
    dropped_fits _ i.packet i.older _ c.args.pending.now c.holes.pending c.args.fragment c.holes.fragment c.end_dropped.result i.inside c.holes.invariant e.held e.bytes e.len e.sealed e.count

pub complete-requires-clause-head : goal.complete-requires-clause-head
complete-requires-clause-head g c =
    let i = c.requires.inside in let e = c.end_dropped.ensures in
    dropped_head _ i.packet i.older _ c.args.pending.now c.holes.pending c.args.fragment c.holes.fragment c.end_dropped.result i.inside c.holes.invariant e.held e.count e.continues

pub returns-clause-stops : goal.returns-clause-stops
returns-clause-stops g c =
    let e = c.end_dropped.ensures in
    let site = site_of (g.W.Words.means.setup c.args.table.now) (g.W.Words.means.place c.args.seat.now) c.args.route.now in
    let old = g.W.Words.means.view c.args.table.now c.args.seat.now in let new = g.W.Words.means.view c.complete.new.table c.complete.new.seat in
    loses_rest site old new c.args.pending.now c.complete.new.pending c.args.fragment c.requires.drops c.requires.filled
    (ends_given_up site old new c.args.pending.now c.holes.pending c.complete.new.pending c.args.fragment c.holes.fragment c.end_dropped.result
    c.holes.invariant (omega arith) e.held e.bytes e.count e.continues c.complete.ensures.pending c.complete.ensures.view)
