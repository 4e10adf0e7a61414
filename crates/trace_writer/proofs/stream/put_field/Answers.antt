use Rattle.std.proofs.Common.{◌≡◌, ◌∙◌, ℕ, ◌+◌, ◌*◌, length, ap, subst, sym}
use Rattle.std.specs.List.{repeat}
use Rattle.chunk_plain.specs.Setup.{Setup}
use Rattle.trace_writer.specs.Site.{Site, site_of}
use Rattle.trace_writer.specs.Flows.{IsInPacket, Flows, is_stopped}
use Rattle.trace_writer.proofs.packets.Putting.{inside_behind}
use Rattle.trace_writer.proofs.accounts.Calling.{writes_behind, field_long}
use Rattle.trace_writer.proofs.claims.Working.{work_behind}
use Rattle.trace_writer.proofs.claims.MayAskStill.{asks_behind_work}
use Rattle.trace_writer.proofs.stream.put_field.Goals as goal

pub put_times-requires-clause-may_ask : goal.put_times-requires-clause-may_ask
put_times-requires-clause-may_ask g c = asks_behind_work c.in-Going.ensures.work c.requires.may_ask

pub put_times-requires-clause-inside : goal.put_times-requires-clause-inside
put_times-requires-clause-inside g c =
    let setup = g.W.Words.means.setup c.args.table.now in let place = g.W.Words.means.place c.args.seat.now in let route = c.args.route.now in
    let others = c.put_piece.ensures.work.others in
    let site_is : site_of (g.W.Words.means.setup c.put_piece.new.table) (g.W.Words.means.place c.put_piece.new.seat) route ≡ site_of setup place route =
    ap (λ (s : Setup). site_of s (g.W.Words.means.place c.put_piece.new.seat) route) others.setup_stays ∙ ap (λ (n : ℕ). site_of setup n route) others.place_stays in
    subst (λ (s : Site). IsInPacket s (g.W.Words.means.view c.put_piece.new.table c.put_piece.new.seat) c.put_piece.new.pending c.in-Going.next) (sym site_is)
    (inside_behind (site_of setup place route) (g.W.Words.means.view c.args.table.now c.args.seat.now) (g.W.Words.means.view c.put_piece.new.table c.put_piece.new.seat)
    c.args.pending.now c.put_piece.new.pending c.args.fragment c.in-Going.next c.args.head.now c.in-Going.ensures.flow c.requires.inside)

pub put_times-requires-clause-ids : goal.put_times-requires-clause-ids
put_times-requires-clause-ids g c = c.in-Going.ensures.flow.ids (c.args.times * length c.args.text.now) c.requires.ids

pub returns-in-Going-clause-flow : goal.returns-in-Going-clause-flow
returns-in-Going-clause-flow g c =
    let setup = g.W.Words.means.setup c.args.table.now in let place = g.W.Words.means.place c.args.seat.now in let route = c.args.route.now in
    let others = c.put_piece.ensures.work.others in
    let old = g.W.Words.means.view c.args.table.now c.args.seat.now in let mid = g.W.Words.means.view c.put_piece.new.table c.put_piece.new.seat in
    let new = g.W.Words.means.view c.put_times.new.table c.put_times.new.seat in
    let text = repeat c.args.times c.args.text.now in
    writes_behind setup place route old mid new c.args.pending.now c.put_piece.new.pending c.put_times.new.pending c.args.fragment c.in-Going.next c.args.head.now text
    (length c.args.head.now + c.args.times * length c.args.text.now) c.put_times.result (field_long c.args.head.now c.args.text.now c.args.times)
    c.in-Going.ensures.flow
    (subst (λ (n : ℕ). Flows setup n route mid new c.put_piece.new.pending c.put_times.new.pending c.in-Going.next text c.put_times.result) others.place_stays
    (subst (λ (s : Setup). Flows s (g.W.Words.means.place c.put_piece.new.seat) route mid new c.put_piece.new.pending c.put_times.new.pending c.in-Going.next text c.put_times.result)
    others.setup_stays c.put_times.ensures.flow))

pub returns-in-Going-clause-work : goal.returns-in-Going-clause-work
returns-in-Going-clause-work g c =
    let route = c.args.route.now in
    work_behind g.W.Words.means g.H.HelperOn.needs g.H.HelperOn.helps
    route c.args.help.now c.args.table.now c.args.seat.now c.args.steps.now c.put_piece.new.help c.put_piece.new.table c.put_piece.new.seat c.put_piece.new.steps
    (is_stopped c.put_times.result) c.put_times.new.help c.put_times.new.table c.put_times.new.seat c.put_times.new.steps c.in-Going.ensures.work c.put_times.ensures.work
