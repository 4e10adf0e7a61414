use Rattle.std.proofs.Common.{ℕ, ◌∙◌, sym, ap, arith, rules, subst}
use Rattle.std.proofs.lemmas.Grind.{common_steps}
use Rattle.trace_base.specs.Ids.{id_of}
use Rattle.page_geometry.specs.Header.{packed}
use Rattle.chunk_plain.specs.Words.{LacksArrival, taken_content}
use Rattle.chunk_plain.proofs.ArrivedLemmas.{takes_lacks}
use Rattle.chunk_plain.proofs.Holding.{takes_reads}
use Rattle.chunk_plain.specs.Views.{ServiceView, taken_of}
use Rattle.writer_speed.proofs.CollectingLemmas.{collects_still}
use Rattle.writer_speed.proofs.collector.try_one.Goals as goal

pub give_back-requires-clause-reading : goal.give_back-requires-clause-reading
give_back-requires-clause-reading g c =
    let taken = c.in-Ok.ensures.taken in
    takes_reads (g.W.Words.means.service_view c.args.table.now c.args.seat.now) (g.W.Words.means.service_view c.take.new.self c.take.new.seat) c.args.chunk c.in-Ok.token.chunk
    taken.word (packed c.in-Ok.token.header) 0 _ (taken_content (g.W.Words.means.setup c.args.table.now) 0 (taken_of (g.W.Words.means.service_view c.args.table.now c.args.seat.now) 0).count c.in-Ok.token) taken.view taken.chunk_is

pub take-requires-clause-next : goal.take-requires-clause-next
take-requires-clause-next g c = record {
  inside = first_of (search rules, grind (arith, common_steps));
  least = first_of (search rules, grind (arith, common_steps));
  most = first_of (search rules, grind (arith, common_steps));
  id_is = let collects = c.requires.collects in
      c.id_of.ensures ∙ ap (id_of 0) collects.count
      ∙ ap (λ (f : ℕ). id_of f (taken_of (g.W.Words.means.service_view c.args.table.now c.args.seat.now) 0).count) (sym collects.from);
  none_read = search rules;
}

pub give_back-requires-clause-lacks : goal.give_back-requires-clause-lacks
give_back-requires-clause-lacks g c =
    let collects = c.requires.collects in
    let old = g.W.Words.means.service_view c.args.table.now c.args.seat.now in
    let new = g.W.Words.means.service_view c.take.new.self c.take.new.seat in
    subst (λ (n : ℕ). LacksArrival new 0 n) (sym collects.count)
    (takes_lacks (g.W.Words.means.setup c.args.table.now) old new c.args.chunk 1 c.id_of.result c.in-Ok.token c.in-Ok.ensures.taken collects.listed collects.arrived)

-- another chunk than the next one was found: it was looked at, and nothing was taken
pub returns-in-Err-clause-collects : goal.returns-in-Err-clause-collects
returns-in-Err-clause-collects g c =
    let step = c.take.ensures.step in
    let same = c.in-Err.ensures.other.look.view in
    collects_still g.W.Words.means c.args.table.now c.args.seat.now c.take.new.self c.take.new.seat c.args.range c.args.taken c.requires.collects
    step.seat_stays step.setup_stays (ap (λ (v : ServiceView). v.taken) same) (ap (λ (v : ServiceView). v.reading) same)
    (ap (λ (v : ServiceView). v.events) same)
