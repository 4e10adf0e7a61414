use Rattle.std.proofs.Common.{◌≡◌, ◌∙◌, ◌+◌, ◌<◌, ◌≤◌, true, subst, sym, arith}
use Rattle.std.specs.Prelude.{vec_len}
use Rattle.std.proofs.lemmas.Bool.{leb-false, le-leb}
use Rattle.commit_body.specs.Pending.{Pending}
use Rattle.trace_writer.specs.declared.fragment.OpenFragment.{OpenFragment}
use Rattle.trace_writer.specs.Site.{site_of}
use Rattle.trace_writer.specs.Flows.{RunsOn}
use Rattle.trace_writer.proofs.packets.SettingAside.{sets_here, sets_behind}
use Rattle.trace_writer.proofs.claims.Working.{work_none}
use Rattle.trace_writer.proofs.stream.put_length.Goals as goal

pub returns-then-put_hole-clause-flow : goal.returns-then-put_hole-clause-flow
returns-then-put_hole-clause-flow g c =
    let fits = c.if-put_hole.true in
    sets_here (site_of (g.W.Words.means.setup c.args.table.now) (g.W.Words.means.place c.args.seat.now) c.args.route.now) (g.W.Words.means.view c.args.table.now c.args.seat.now)
    c.args.pending.now c.put_hole.new.pending c.args.fragment c.put_hole.new.self
    (c.put_hole.ensures.bytes fits) (c.put_hole.ensures.at fits) (c.put_hole.ensures.added fits) c.requires.few

pub returns-then-put_hole-clause-work : goal.returns-then-put_hole-clause-work
returns-then-put_hole-clause-work g c =
    work_none g.W.Words.means g.H.HelperOn.needs g.H.HelperOn.helps
    c.args.route.now c.args.help.now c.args.table.now c.args.seat.now c.args.steps.now c.requires.may_ask.seat_sits c.requires.may_ask.needed

pub returns-in-Going-clause-flow : goal.returns-in-Going-clause-flow
returns-in-Going-clause-flow g c =
    let site = site_of (g.W.Words.means.setup c.args.table.now) (g.W.Words.means.place c.args.seat.now) c.args.route.now in
    let old = g.W.Words.means.view c.args.table.now c.args.seat.now in let new = g.W.Words.means.view c.run_on.new.table c.run_on.new.seat in
    let none = c.if-put_hole.false in let first = c.in-Going.next in
    let runs = subst (λ (f : OpenFragment). RunsOn site old new c.args.pending.now c.run_on.new.pending f first) (c.put_hole.ensures.unchanged none)
    (subst (λ (p : Pending). RunsOn site old new p c.run_on.new.pending c.put_hole.new.self first) (c.put_hole.ensures.none_added none) c.in-Going.ensures.flow) in
    let below : vec_len c.args.fragment.held.body.payload < c.args.fragment.at + 4 =
    leb-false (c.args.fragment.at + 4) (vec_len c.args.fragment.held.body.payload) (sym c.put_hole.ensures.fits ∙ none) in
    let low : 281 ≤ c.args.fragment.at = omega (arith, below, c.requires.inside.inside.whole, c.requires.may_ask.route_is.least) in
    let fits : c.put_hole-in-Going.result ≡ true =
    c.put_hole-in-Going.ensures.fits ∙ le-leb (first.at + 4) (vec_len first.held.body.payload) (omega (arith, runs.size, runs.at, c.requires.may_ask.route_is.least)) in
    sets_behind site old new c.args.pending.now c.run_on.new.pending c.put_hole-in-Going.new.pending c.args.fragment first c.put_hole-in-Going.new.self
    runs low (c.put_hole-in-Going.ensures.bytes fits) (c.put_hole-in-Going.ensures.at fits) (c.put_hole-in-Going.ensures.added fits) c.requires.few
