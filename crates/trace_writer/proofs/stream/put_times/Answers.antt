use Rattle.std.proofs.Common.{false, ◌≡◌, ◌∙◌, ℕ, ◌+◌, true, length, vec_len, ap, subst, sym, arith}
use Rattle.std.proofs.lemmas.Bool.{leb-true}
use Rattle.std.specs.List.{repeat}
use Rattle.chunk_plain.specs.Setup.{Setup}
use Rattle.trace_writer.specs.Site.{Site, site_of}
use Rattle.trace_writer.specs.Flows.{IsInPacket, PutsOn, StopsIn}
use Rattle.trace_writer.proofs.packets.Putting.{inside_behind, puts_nothing, puts_here, times_next, times_lost, times_ids}
use Rattle.trace_writer.proofs.claims.Working.{work_none, work_behind}
use Rattle.trace_writer.proofs.claims.MayAskStill.{asks_behind_work}
use Rattle.trace_writer.proofs.stream.put_times.Goals as goal

pub put_piece-requires-clause-may_ask : goal.put_piece-requires-clause-may_ask
put_piece-requires-clause-may_ask g c = asks_behind_work c.loop-turn.invariant.work c.requires.may_ask

pub loop-turn-init : goal.loop-turn-init
loop-turn-init g c = record {
  work = work_none g.W.Words.means g.H.HelperOn.needs g.H.HelperOn.helps
      c.args.route.now c.args.help.now c.args.table.now c.args.seat.now c.args.steps.now c.requires.may_ask.seat_sits c.requires.may_ask.needed;
  puts = puts_nothing (site_of (g.W.Words.means.setup c.args.table.now) (g.W.Words.means.place c.args.seat.now) c.args.route.now)
      (g.W.Words.means.view c.args.table.now c.args.seat.now) c.args.pending.now c.args.fragment;
}

pub put_piece-requires-clause-inside : goal.put_piece-requires-clause-inside
put_piece-requires-clause-inside g c =
    let setup = g.W.Words.means.setup c.args.table.now in let place = g.W.Words.means.place c.args.seat.now in let route = c.args.route.now in
    let site = site_of setup place route in let others = c.loop-turn.invariant.work.others in
    let site_is : site_of (g.W.Words.means.setup c.loop-turn.table) (g.W.Words.means.place c.loop-turn.seat) route ≡ site =
    ap (λ (s : Setup). site_of s (g.W.Words.means.place c.loop-turn.seat) route) others.setup_stays ∙ ap (λ (n : ℕ). site_of setup n route) others.place_stays in
    let mid = g.W.Words.means.view c.loop-turn.table c.loop-turn.seat in
    subst (λ (s : Site). IsInPacket s mid c.loop-turn.pending c.loop-turn.fragment) (sym site_is)
    (inside_behind site (g.W.Words.means.view c.args.table.now c.args.seat.now) mid c.args.pending.now c.loop-turn.pending c.args.fragment c.loop-turn.fragment
    (repeat c.loop-turn._turn c.args.piece.now) c.loop-turn.invariant.puts c.requires.inside)

pub put_piece-requires-clause-ids : goal.put_piece-requires-clause-ids
put_piece-requires-clause-ids g c =
    times_ids (site_of (g.W.Words.means.setup c.args.table.now) (g.W.Words.means.place c.args.seat.now) c.args.route.now)
    (g.W.Words.means.view c.args.table.now c.args.seat.now) (g.W.Words.means.view c.loop-turn.table c.loop-turn.seat) c.args.pending.now c.loop-turn.pending
    c.args.fragment c.loop-turn.fragment c.loop-turn._turn c.args.times c.args.piece.now c.loop-turn-test.true c.requires.ids c.loop-turn.invariant.puts

pub returns-in-Stopped-clause-flow : goal.returns-in-Stopped-clause-flow
returns-in-Stopped-clause-flow g c =
    let setup = g.W.Words.means.setup c.args.table.now in let place = g.W.Words.means.place c.args.seat.now in let route = c.args.route.now in
    let site = site_of setup place route in let others = c.loop-turn.invariant.work.others in
    let site_is : site_of (g.W.Words.means.setup c.loop-turn.table) (g.W.Words.means.place c.loop-turn.seat) route ≡ site =
    ap (λ (s : Setup). site_of s (g.W.Words.means.place c.loop-turn.seat) route) others.setup_stays ∙ ap (λ (n : ℕ). site_of setup n route) others.place_stays in
    let old = g.W.Words.means.view c.args.table.now c.args.seat.now in let mid = g.W.Words.means.view c.loop-turn.table c.loop-turn.seat in
    let new = g.W.Words.means.view c.put_piece.new.table c.put_piece.new.seat in
    let lost = c.in-Stopped.ensures.flow in (
      times_lost site old mid new c.args.pending.now c.loop-turn.pending c.put_piece.new.pending c.args.fragment c.loop-turn.fragment
          c.loop-turn._turn c.args.times c.args.piece.now c.loop-turn-test.true c.loop-turn.invariant.puts
          (subst (λ (s : Site). StopsIn s mid new c.loop-turn.pending c.put_piece.new.pending c.loop-turn.fragment c.args.piece.now) site_is lost.0),
      lost.1,
    )

pub loop-turn-preserved-then-has_left : goal.loop-turn-preserved-then-has_left
loop-turn-preserved-then-has_left g c =
    let site = site_of (g.W.Words.means.setup c.args.table.now) (g.W.Words.means.place c.args.seat.now) c.args.route.now in
    let mid = g.W.Words.means.view c.loop-turn.table c.loop-turn.seat in
    let fits = leb-true (c.loop-turn.fragment.at + length c.args.piece.now) (vec_len c.loop-turn.fragment.held.body.payload) (sym c.has_left.ensures ∙ c.if-has_left.true) in
    record {
      work = c.loop-turn.invariant.work;
      puts = times_next site (g.W.Words.means.view c.args.table.now c.args.seat.now) mid mid c.args.pending.now c.loop-turn.pending c.loop-turn.pending
          c.args.fragment c.loop-turn.fragment c.put.new.self c.loop-turn._turn c.args.piece.now c.loop-turn.invariant.puts
          (puts_here site mid c.loop-turn.pending c.loop-turn.fragment c.put.new.self c.args.piece.now c.put.result fits c.put.ensures.count c.put.ensures.bytes c.put.ensures.at);
    }

pub loop-turn-preserved : goal.loop-turn-preserved
loop-turn-preserved g c =
    let setup = g.W.Words.means.setup c.args.table.now in let place = g.W.Words.means.place c.args.seat.now in let route = c.args.route.now in
    let site = site_of setup place route in let others = c.loop-turn.invariant.work.others in
    let site_is : site_of (g.W.Words.means.setup c.loop-turn.table) (g.W.Words.means.place c.loop-turn.seat) route ≡ site =
    ap (λ (s : Setup). site_of s (g.W.Words.means.place c.loop-turn.seat) route) others.setup_stays ∙ ap (λ (n : ℕ). site_of setup n route) others.place_stays in
    let old = g.W.Words.means.view c.args.table.now c.args.seat.now in let mid = g.W.Words.means.view c.loop-turn.table c.loop-turn.seat in
    let new = g.W.Words.means.view c.put_piece.new.table c.put_piece.new.seat in
    record {
      work = work_behind g.W.Words.means g.H.HelperOn.needs g.H.HelperOn.helps
          route c.args.help.now c.args.table.now c.args.seat.now c.args.steps.now c.loop-turn.help c.loop-turn.table c.loop-turn.seat c.loop-turn.steps false c.put_piece.new.help c.put_piece.new.table c.put_piece.new.seat c.put_piece.new.steps
          c.loop-turn.invariant.work c.in-Going.ensures.work;
      puts = times_next site old mid new c.args.pending.now c.loop-turn.pending c.put_piece.new.pending c.args.fragment c.loop-turn.fragment c.in-Going.next
          c.loop-turn._turn c.args.piece.now c.loop-turn.invariant.puts
          (subst (λ (s : Site). PutsOn s mid new c.loop-turn.pending c.put_piece.new.pending c.loop-turn.fragment c.in-Going.next c.args.piece.now) site_is c.in-Going.ensures.flow);
    }

pub returns-clause-flow : goal.returns-clause-flow
returns-clause-flow g c =
    subst (λ (n : ℕ). PutsOn (site_of (g.W.Words.means.setup c.args.table.now) (g.W.Words.means.place c.args.seat.now) c.args.route.now)
    (g.W.Words.means.view c.args.table.now c.args.seat.now) (g.W.Words.means.view c.loop-turn.table c.loop-turn.seat) c.args.pending.now c.loop-turn.pending
    c.args.fragment c.loop-turn.fragment (repeat n c.args.piece.now)) (omega arith) c.loop-turn.invariant.puts

pub returns-in-Stopped-clause-work : goal.returns-in-Stopped-clause-work
returns-in-Stopped-clause-work g c =
    let route = c.args.route.now in
    work_behind g.W.Words.means g.H.HelperOn.needs g.H.HelperOn.helps
    route c.args.help.now c.args.table.now c.args.seat.now c.args.steps.now c.loop-turn.help c.loop-turn.table c.loop-turn.seat c.loop-turn.steps
    true c.put_piece.new.help c.put_piece.new.table c.put_piece.new.seat c.put_piece.new.steps c.loop-turn.invariant.work c.in-Stopped.ensures.work
