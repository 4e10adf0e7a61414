use Rattle.std.proofs.Common.{◌+◌, ◌-◌, ◌∙◌, length, vec_len, sym, subst, ap, arith, ℕ, ◌<◌, refl}
use Rattle.chunk_plain.specs.Setup.{Setup}
use Rattle.chunk_plain.specs.Views.{WriterView}
use Rattle.trace_writer.specs.Site.{site_of}
use Rattle.trace_writer.specs.Drafted.{IsFit}
use Rattle.trace_writer.specs.Headers.{held_head}
use Rattle.trace_writer.proofs.claims.Asking.{none_yet, none_again, wins_in_turn, won_counts, lost_counts, gets_chunk, out_after}
use Rattle.trace_writer.proofs.holding.KeptChunks.{keeps_long}
use Rattle.trace_writer.proofs.claims.QuietRows.{silent_both}
use Rattle.trace_writer.proofs.packets.RunOn.{few_inside, next_position, next_position_after, ends_as, held_behind, ended_fits, ended_head, next_first, run_fits, run_follows, goes_on_in, runs_on, cannot_run_on, stopped_holds_none}
use Rattle.trace_writer.proofs.stream.run_on_or_drop.Goals as goal
use Rattle.trace_writer.proofs.claims.RouteIds.{next_id, route_from_now, next_fits}

pub claim_over-requires-clause-few : goal.claim_over-requires-clause-few
claim_over-requires-clause-few g c =
    let i = c.requires.inside in
    few_inside _ i.packet i.older _ c.args.pending.now c.args.fragment i.inside

pub claim_over-requires-clause-id : goal.claim_over-requires-clause-id
claim_over-requires-clause-id g c =
    let i = c.requires.inside in
    let setup = g.W.Words.means.setup c.args.table.now in let place = g.W.Words.means.place c.args.seat.now in
    next_id setup setup place place c.args.route.now (c.args.fragment.held.position + 1) (length (g.W.Words.means.view c.args.table.now c.args.seat.now).begun) c.id_of-id.result c.requires.route refl refl
    (next_position _ i.packet i.older _ c.args.pending.now c.args.fragment i.inside) c.id_of-id.ensures

pub claim_over-requires-clause-few_begun : goal.claim_over-requires-clause-few_begun
claim_over-requires-clause-few_begun g c =
    let i = c.requires.inside in
    subst (λ (n : ℕ). n < 4294967295) (next_position _ i.packet i.older _ c.args.pending.now c.args.fragment i.inside) (next_fits c.args.fragment c.requires.ends.ids)

pub new-requires-clause-position_fits : goal.new-requires-clause-position_fits
new-requires-clause-position_fits g c =
    let i = c.requires.inside in
    subst (λ (n : ℕ). n < 4294967295) (next_position _ i.packet i.older _ c.args.pending.now c.args.fragment i.inside ∙ sym c.in-Some.ensures.begun.position_is)
    (next_fits c.args.fragment c.requires.ends.ids)

pub complete-requires-clause-from : goal.complete-requires-clause-from
complete-requires-clause-from g c =
    route_from_now (g.W.Words.means.setup c.args.table.now) (g.W.Words.means.setup c.claim_over.new.table) (g.W.Words.means.place c.args.seat.now) (g.W.Words.means.place c.claim_over.new.seat)
    c.args.route.now c.requires.route c.in-Some.ensures.step.setup_stays c.in-Some.ensures.step.place_stays

pub returns-in_default-clause-flow : goal.returns-in_default-clause-flow
returns-in_default-clause-flow g c =
    let setup = g.W.Words.means.setup c.args.table.now in let place = g.W.Words.means.place c.args.seat.now in
    let old = g.W.Words.means.view c.args.table.now c.args.seat.now in let mid = g.W.Words.means.view c.claim_over.new.table c.claim_over.new.seat in
    let new = g.W.Words.means.view c.give_up.new.table c.give_up.new.seat in
    let none = none_again setup c.args.route.now old old mid (none_yet old) c.in_default.ensures.lost in let step = c.in_default.ensures.step in let i = c.requires.inside in (
      cannot_run_on setup (g.W.Words.means.setup c.claim_over.new.table) place (g.W.Words.means.place c.claim_over.new.seat) c.args.route.now old mid new
          c.args.pending.now c.give_up.new.pending c.args.fragment step.setup_stays step.place_stays none c.give_up.ensures.stops,
      next_position_after _ i.packet i.older old mid new c.args.pending.now c.args.fragment i.inside none (keeps_long mid.begun new.begun c.give_up.ensures.quiet.chunks),
    )

pub complete-requires-clause-fit : goal.complete-requires-clause-fit
complete-requires-clause-fit g c =
    let setup = g.W.Words.means.setup c.args.table.now in let route = c.args.route.now in let site = site_of setup (g.W.Words.means.place c.args.seat.now) route in
    let old = g.W.Words.means.view c.args.table.now c.args.seat.now in let one = g.W.Words.means.view c.claim_over.new.table c.claim_over.new.seat in
    let i = c.requires.inside in let e = c.end.ensures in
    subst (λ (s : Setup). IsFit s one c.end.result (c.end.result.count - 1) (vec_len c.end.result.held.body.payload)) (sym c.in-Some.ensures.step.setup_stays)
    (ended_fits site i.packet i.older old one c.args.pending.now c.args.fragment c.end.result
    (held_behind route c.in-Some.next.chunk site i.packet i.older old one c.args.pending.now c.args.fragment
    (wins_in_turn setup route c.in-Some.next.chunk old old one (none_yet old) c.in-Some.ensures.won) i.inside)
    (ends_as c.args.fragment c.end.result e.held e.bytes e.sealed e.count e.continues) e.len)

pub complete-requires-clause-head : goal.complete-requires-clause-head
complete-requires-clause-head g c =
    let setup = g.W.Words.means.setup c.args.table.now in let route = c.args.route.now in let site = site_of setup (g.W.Words.means.place c.args.seat.now) route in
    let old = g.W.Words.means.view c.args.table.now c.args.seat.now in let one = g.W.Words.means.view c.claim_over.new.table c.claim_over.new.seat in
    let i = c.requires.inside in let e = c.end.ensures in
    ended_head site i.packet i.older old one c.args.pending.now c.args.fragment c.end.result
    (held_behind route c.in-Some.next.chunk site i.packet i.older old one c.args.pending.now c.args.fragment
    (wins_in_turn setup route c.in-Some.next.chunk old old one (none_yet old) c.in-Some.ensures.won) i.inside)
    (ends_as c.args.fragment c.end.result e.held e.bytes e.sealed e.count e.continues)

pub start_fragment-requires-clause-fit : goal.start_fragment-requires-clause-fit
start_fragment-requires-clause-fit g c =
    let route = c.args.route.now in let setup = g.W.Words.means.setup c.args.table.now in let place = g.W.Words.means.place c.args.seat.now in let site = site_of setup place route in
    let old = g.W.Words.means.view c.args.table.now c.args.seat.now in let one = g.W.Words.means.view c.claim_over.new.table c.claim_over.new.seat in
    let two = g.W.Words.means.view c.complete.new.table c.complete.new.seat in
    let i = c.requires.inside in let e = c.end.ensures in let n = c.new.ensures in let b = c.in-Some.ensures.begun in
    subst (λ (s : Setup). IsFit s two c.new.result c.new.result.count c.new.result.at) (sym (c.complete.ensures.quiet.step.setup_stays ∙ c.in-Some.ensures.step.setup_stays))
    (run_fits site i.packet i.older old two c.args.pending.now c.args.fragment c.end.result.held.body.payload.items c.new.result c.in-Some.next i.inside
    (next_first setup place (g.W.Words.means.place c.claim_over.new.seat) c.in-Some.next.chunk route old one two c.args.pending.now c.args.fragment c.end.result c.requires.route
    (wins_in_turn setup route c.in-Some.next.chunk old old one (none_yet old) c.in-Some.ensures.won)
    (ends_as c.args.fragment c.end.result e.held e.bytes e.sealed e.count e.continues) c.in-Some.ensures.step.place_stays c.complete.ensures.view)
    (record { held = n.held; sealed = n.sealed; at = n.at; count = n.count; continues = n.continues; position = b.position_is ∙ sym (next_position site i.packet i.older old c.args.pending.now c.args.fragment i.inside); whole = b.whole }))

pub start_fragment-requires-clause-head : goal.start_fragment-requires-clause-head
start_fragment-requires-clause-head g c =
    let route = c.args.route.now in let setup = g.W.Words.means.setup c.args.table.now in let place = g.W.Words.means.place c.args.seat.now in let site = site_of setup place route in
    let old = g.W.Words.means.view c.args.table.now c.args.seat.now in let one = g.W.Words.means.view c.claim_over.new.table c.claim_over.new.seat in
    let two = g.W.Words.means.view c.complete.new.table c.complete.new.seat in
    let i = c.requires.inside in let e = c.end.ensures in let n = c.new.ensures in let b = c.in-Some.ensures.begun in
    run_follows site i.packet i.older old two c.args.pending.now c.args.fragment c.end.result.held.body.payload.items c.new.result c.in-Some.next
    (held_head (c.new.result.count + 1) c.new.result.continues) i.inside
    (next_first setup place (g.W.Words.means.place c.claim_over.new.seat) c.in-Some.next.chunk route old one two c.args.pending.now c.args.fragment c.end.result c.requires.route
    (wins_in_turn setup route c.in-Some.next.chunk old old one (none_yet old) c.in-Some.ensures.won)
    (ends_as c.args.fragment c.end.result e.held e.bytes e.sealed e.count e.continues) c.in-Some.ensures.step.place_stays c.complete.ensures.view)
    (record { held = n.held; sealed = n.sealed; at = n.at; count = n.count; continues = n.continues; position = b.position_is ∙ sym (next_position site i.packet i.older old c.args.pending.now c.args.fragment i.inside); whole = b.whole })

pub returns-clause-flow : goal.returns-clause-flow
returns-clause-flow g c =
    let route = c.args.route.now in let setup = g.W.Words.means.setup c.args.table.now in let place = g.W.Words.means.place c.args.seat.now in let site = site_of setup place route in
    let old = g.W.Words.means.view c.args.table.now c.args.seat.now in let one = g.W.Words.means.view c.claim_over.new.table c.claim_over.new.seat in
    let two = g.W.Words.means.view c.complete.new.table c.complete.new.seat in
    let i = c.requires.inside in let e = c.end.ensures in let n = c.new.ensures in let b = c.in-Some.ensures.begun in let s = c.start_fragment.ensures in
    let new = g.W.Words.means.view c.start_fragment.new.table c.start_fragment.new.seat in
    let ends = ends_as c.args.fragment c.end.result e.held e.bytes e.sealed e.count e.continues in
    runs_on site old new c.args.pending.now c.complete.new.pending c.args.fragment c.start_fragment.result c.requires.route.least c.requires.ends.filled
    (goes_on_in site old two new c.args.pending.now c.complete.new.pending c.args.fragment c.end.result c.new.result c.in-Some.next c.start_fragment.result
    (next_first setup place (g.W.Words.means.place c.claim_over.new.seat) c.in-Some.next.chunk route old one two c.args.pending.now c.args.fragment c.end.result c.requires.route
    (wins_in_turn setup route c.in-Some.next.chunk old old one (none_yet old) c.in-Some.ensures.won) ends c.in-Some.ensures.step.place_stays c.complete.ensures.view)
    ends c.complete.ensures.pending
    (record { held = n.held; sealed = n.sealed; at = n.at; count = n.count; continues = n.continues; position = b.position_is ∙ sym (next_position site i.packet i.older old c.args.pending.now c.args.fragment i.inside); whole = b.whole })
    s.started s.view)

pub returns-in_default-clause-round : goal.returns-in_default-clause-round
returns-in_default-clause-round g c =
    let setup = g.W.Words.means.setup c.args.table.now in let place = g.W.Words.means.place c.args.seat.now in let route = c.args.route.now in
    let old = g.W.Words.means.view c.args.table.now c.args.seat.now in let mid = g.W.Words.means.view c.claim_over.new.table c.claim_over.new.seat in
    let new = g.W.Words.means.view c.give_up.new.table c.give_up.new.seat in
    let i = c.requires.inside in let e = c.in_default.ensures in
    out_after g.W.Words.means
    route c.args.table.now c.args.seat.now c.claim_over.new.table c.claim_over.new.seat c.give_up.new.table c.give_up.new.seat c.claim_over.ensures.step e.lost e.told_lost
    c.give_up.ensures.quiet c.give_up.ensures.stops.calls
    (stopped_holds_none (site_of setup place route) i.packet i.older old new c.args.pending.now c.give_up.new.pending c.args.fragment i.inside
    (cannot_run_on setup (g.W.Words.means.setup c.claim_over.new.table) place (g.W.Words.means.place c.claim_over.new.seat) route old mid new
    c.args.pending.now c.give_up.new.pending c.args.fragment c.claim_over.ensures.step.setup_stays c.claim_over.ensures.step.place_stays (none_again setup route old old mid (none_yet old) e.lost) c.give_up.ensures.stops))

pub returns-clause-round : goal.returns-clause-round
returns-clause-round g c =
    let e = c.in-Some.ensures in (
      c.claim_over.new.table,
      c.claim_over.new.seat,
      gets_chunk g.W.Words.means
          c.args.route.now c.in-Some.next.chunk _ c.args.table.now c.args.seat.now c.claim_over.new.table c.claim_over.new.seat c.claim_over.ensures.step e.won e.told_won,
      silent_both g.W.Words.means
          c.claim_over.new.table c.claim_over.new.seat c.complete.new.table c.complete.new.seat c.start_fragment.new.table c.start_fragment.new.seat
          (record { quiet = c.complete.ensures.quiet; calls = ap (λ (v : WriterView). v.calls) c.complete.ensures.view })
          (record { quiet = c.start_fragment.ensures.quiet; calls = ap (λ (v : WriterView). v.calls) c.start_fragment.ensures.view.view }),
    )

pub returns-in_default-clause-counts : goal.returns-in_default-clause-counts
returns-in_default-clause-counts g c =
    let mid = g.W.Words.means.view c.claim_over.new.table c.claim_over.new.seat in let new = g.W.Words.means.view c.give_up.new.table c.give_up.new.seat in
    let lost = lost_counts (g.W.Words.means.setup c.args.table.now) c.args.route.now.arbiter.first c.args.route.now.arbiter.chunks (g.W.Words.means.view c.args.table.now c.args.seat.now) mid
    c.args.steps.now c.claim_over.new.steps c.in_default.ensures.lost c.in_default.ensures.steps_lost in
    let asks = ap length c.give_up.ensures.quiet.asked in let chunks = keeps_long mid.begun new.begun c.give_up.ensures.quiet.chunks in
    omega (arith, lost, asks, chunks)

pub returns-clause-counts : goal.returns-clause-counts
returns-clause-counts g c =
    let mid = g.W.Words.means.view c.claim_over.new.table c.claim_over.new.seat in let one = g.W.Words.means.view c.complete.new.table c.complete.new.seat in
    let new = g.W.Words.means.view c.start_fragment.new.table c.start_fragment.new.seat in
    let won = won_counts (g.W.Words.means.setup c.args.table.now) c.args.route.now.arbiter.first c.args.route.now.arbiter.chunks c.in-Some.next.chunk (g.W.Words.means.view c.args.table.now c.args.seat.now) mid
    c.args.steps.now c.claim_over.new.steps c.in-Some.ensures.won c.in-Some.ensures.steps_won in
    let asks = ap length c.complete.ensures.quiet.asked in let chunks = keeps_long mid.begun one.begun c.complete.ensures.quiet.chunks in
    let more = ap length c.start_fragment.ensures.quiet.asked in let later = keeps_long one.begun new.begun c.start_fragment.ensures.quiet.chunks in
    omega (arith, won, asks, chunks, more, later)
