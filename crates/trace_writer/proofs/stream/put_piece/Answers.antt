use Rattle.std.proofs.Common.{false, ◌≡◌, ◌∙◌, ℕ, true, List, take, drop, ap, subst, sym}
use Rattle.chunk_plain.specs.Setup.{Setup}
use Rattle.trace_writer.specs.Site.{Site, site_of}
use Rattle.trace_writer.specs.Flows.{IsInPacket, RunsOn, StopsHere}
use Rattle.trace_writer.proofs.packets.Putting.{PutsSoFar, puts_none, puts_part, puts_run, puts_lost, puts_all, inside_so_far, full_when_left, left_is, left_none, left_some, ids_most}
use Rattle.trace_writer.proofs.claims.Working.{work_none, work_behind}
use Rattle.trace_writer.proofs.claims.MayAskStill.{asks_behind_work}
use Rattle.trace_writer.proofs.stream.put_piece.Goals as goal

pub run_on-requires-clause-may_ask : goal.run_on-requires-clause-may_ask
run_on-requires-clause-may_ask g c = asks_behind_work c.chunks.invariant.work c.requires.may_ask

pub chunks-init : goal.chunks-init
chunks-init g c = record {
  work = work_none g.W.Words.means g.H.HelperOn.needs g.H.HelperOn.helps
      c.args.route.now c.args.help.now c.args.table.now c.args.seat.now c.args.steps.now c.requires.may_ask.seat_sits c.requires.may_ask.needed;
  so_far = puts_none (site_of (g.W.Words.means.setup c.args.table.now) (g.W.Words.means.place c.args.seat.now) c.args.route.now)
      (g.W.Words.means.view c.args.table.now c.args.seat.now) c.args.pending.now c.args.fragment c.args.piece.now;
}

pub returns-then-is_empty-clause-flow : goal.returns-then-is_empty-clause-flow
returns-then-is_empty-clause-flow g c =
    let site = site_of (g.W.Words.means.setup c.args.table.now) (g.W.Words.means.place c.args.seat.now) c.args.route.now in
    let old = g.W.Words.means.view c.args.table.now c.args.seat.now in let mid = g.W.Words.means.view c.chunks.table c.chunks.seat in
    let rest = c.chunks.rest.now in let count = c.put-count.result in
    puts_all site old mid c.args.pending.now c.chunks.pending c.args.fragment c.put-count.new.self c.args.piece.now (drop count rest)
    (puts_part site old mid c.args.pending.now c.chunks.pending c.args.fragment c.chunks.fragment c.put-count.new.self c.args.piece.now rest count
    c.put-count.ensures.count c.put-count.ensures.bytes c.put-count.ensures.at c.chunks.invariant.so_far)
    (left_none rest count c.is_empty.result c.is_empty.ensures c.if-is_empty.true)

pub run_on-requires-clause-inside : goal.run_on-requires-clause-inside
run_on-requires-clause-inside g c =
    let setup = g.W.Words.means.setup c.args.table.now in let place = g.W.Words.means.place c.args.seat.now in let route = c.args.route.now in
    let site = site_of setup place route in let others = c.chunks.invariant.work.others in
    let site_is : site_of (g.W.Words.means.setup c.chunks.table) (g.W.Words.means.place c.chunks.seat) route ≡ site =
    ap (λ (s : Setup). site_of s (g.W.Words.means.place c.chunks.seat) route) others.setup_stays ∙ ap (λ (n : ℕ). site_of setup n route) others.place_stays in
    let old = g.W.Words.means.view c.args.table.now c.args.seat.now in let mid = g.W.Words.means.view c.chunks.table c.chunks.seat in
    let rest = c.chunks.rest.now in let count = c.put-count.result in
    subst (λ (s : Site). IsInPacket s mid c.chunks.pending c.put-count.new.self) (sym site_is)
    (inside_so_far site old mid c.args.pending.now c.chunks.pending c.args.fragment c.put-count.new.self c.args.piece.now (drop count rest)
    (puts_part site old mid c.args.pending.now c.chunks.pending c.args.fragment c.chunks.fragment c.put-count.new.self c.args.piece.now rest count
    c.put-count.ensures.count c.put-count.ensures.bytes c.put-count.ensures.at c.chunks.invariant.so_far)
    c.requires.inside)

pub run_on-requires-clause-ids : goal.run_on-requires-clause-ids
run_on-requires-clause-ids g c =
    let site = site_of (g.W.Words.means.setup c.args.table.now) (g.W.Words.means.place c.args.seat.now) c.args.route.now in
    let old = g.W.Words.means.view c.args.table.now c.args.seat.now in let mid = g.W.Words.means.view c.chunks.table c.chunks.seat in
    let rest = c.chunks.rest.now in let count = c.put-count.result in
    ids_most site old mid c.args.pending.now c.chunks.pending c.args.fragment c.put-count.new.self c.args.piece.now (drop count rest)
    (puts_part site old mid c.args.pending.now c.chunks.pending c.args.fragment c.chunks.fragment c.put-count.new.self c.args.piece.now rest count
    c.put-count.ensures.count c.put-count.ensures.bytes c.put-count.ensures.at c.chunks.invariant.so_far)
    c.requires.ids
    (left_some rest count c.is_empty.result c.is_empty.ensures c.if-is_empty.false)

pub chunks-preserved : goal.chunks-preserved
chunks-preserved g c =
    let setup = g.W.Words.means.setup c.args.table.now in let place = g.W.Words.means.place c.args.seat.now in let route = c.args.route.now in
    let site = site_of setup place route in let others = c.chunks.invariant.work.others in
    let site_is : site_of (g.W.Words.means.setup c.chunks.table) (g.W.Words.means.place c.chunks.seat) route ≡ site =
    ap (λ (s : Setup). site_of s (g.W.Words.means.place c.chunks.seat) route) others.setup_stays ∙ ap (λ (n : ℕ). site_of setup n route) others.place_stays in
    let old = g.W.Words.means.view c.args.table.now c.args.seat.now in let mid = g.W.Words.means.view c.chunks.table c.chunks.seat in
    let new = g.W.Words.means.view c.run_on.new.table c.run_on.new.seat in
    let rest = c.chunks.rest.now in let count = c.put-count.result in
    let left = left_some rest count c.is_empty.result c.is_empty.ensures c.if-is_empty.false in
    let part = puts_part site old mid c.args.pending.now c.chunks.pending c.args.fragment c.chunks.fragment c.put-count.new.self c.args.piece.now rest count
    c.put-count.ensures.count c.put-count.ensures.bytes c.put-count.ensures.at c.chunks.invariant.so_far in
    let full = full_when_left site mid c.chunks.pending c.chunks.fragment c.put-count.new.self c.chunks.fragment.at (take count rest) rest count
    c.put-count.ensures.count c.put-count.ensures.bytes c.put-count.ensures.at left
    (inside_so_far site old mid c.args.pending.now c.chunks.pending c.args.fragment c.put-count.new.self c.args.piece.now (drop count rest) part c.requires.inside) in
    record {
      work = work_behind g.W.Words.means g.H.HelperOn.needs g.H.HelperOn.helps
          route c.args.help.now c.args.table.now c.args.seat.now c.args.steps.now c.chunks.help c.chunks.table c.chunks.seat c.chunks.steps false c.run_on.new.help c.run_on.new.table c.run_on.new.seat c.run_on.new.steps
          c.chunks.invariant.work c.in-Going.ensures.work;
      so_far = subst (λ (xs : List ℕ). PutsSoFar site old new c.args.pending.now c.run_on.new.pending c.args.fragment c.in-Going.next c.args.piece.now xs) (left_is rest count)
          (puts_run site old mid new c.args.pending.now c.chunks.pending c.run_on.new.pending c.args.fragment c.put-count.new.self c.in-Going.next c.args.piece.now (drop count rest)
          part
          (subst (λ (s : Site). RunsOn s mid new c.chunks.pending c.run_on.new.pending c.put-count.new.self c.in-Going.next) site_is c.in-Going.ensures.flow)
          full c.requires.may_ask.route_is.least left);
    }

pub returns-in-Stopped-clause-flow : goal.returns-in-Stopped-clause-flow
returns-in-Stopped-clause-flow g c =
    let setup = g.W.Words.means.setup c.args.table.now in let place = g.W.Words.means.place c.args.seat.now in let route = c.args.route.now in
    let site = site_of setup place route in let others = c.chunks.invariant.work.others in
    let site_is : site_of (g.W.Words.means.setup c.chunks.table) (g.W.Words.means.place c.chunks.seat) route ≡ site =
    ap (λ (s : Setup). site_of s (g.W.Words.means.place c.chunks.seat) route) others.setup_stays ∙ ap (λ (n : ℕ). site_of setup n route) others.place_stays in
    let old = g.W.Words.means.view c.args.table.now c.args.seat.now in let mid = g.W.Words.means.view c.chunks.table c.chunks.seat in
    let new = g.W.Words.means.view c.run_on.new.table c.run_on.new.seat in
    let rest = c.chunks.rest.now in let count = c.put-count.result in
    let left = left_some rest count c.is_empty.result c.is_empty.ensures c.if-is_empty.false in
    let part = puts_part site old mid c.args.pending.now c.chunks.pending c.args.fragment c.chunks.fragment c.put-count.new.self c.args.piece.now rest count
    c.put-count.ensures.count c.put-count.ensures.bytes c.put-count.ensures.at c.chunks.invariant.so_far in
    let full = full_when_left site mid c.chunks.pending c.chunks.fragment c.put-count.new.self c.chunks.fragment.at (take count rest) rest count
    c.put-count.ensures.count c.put-count.ensures.bytes c.put-count.ensures.at left
    (inside_so_far site old mid c.args.pending.now c.chunks.pending c.args.fragment c.put-count.new.self c.args.piece.now (drop count rest) part c.requires.inside) in
    let cannot = c.in-Stopped.ensures.flow in (
      puts_lost site old mid new c.args.pending.now c.chunks.pending c.run_on.new.pending c.args.fragment c.put-count.new.self c.args.piece.now (drop count rest) part
          (subst (λ (s : Site). StopsHere s mid new c.chunks.pending c.run_on.new.pending c.put-count.new.self) site_is cannot.0)
          full left,
      cannot.1,
    )

pub returns-in-Stopped-clause-work : goal.returns-in-Stopped-clause-work
returns-in-Stopped-clause-work g c =
    let route = c.args.route.now in
    work_behind g.W.Words.means g.H.HelperOn.needs g.H.HelperOn.helps
    route c.args.help.now c.args.table.now c.args.seat.now c.args.steps.now c.chunks.help c.chunks.table c.chunks.seat c.chunks.steps
    true c.run_on.new.help c.run_on.new.table c.run_on.new.seat c.run_on.new.steps c.chunks.invariant.work c.in-Stopped.ensures.work
