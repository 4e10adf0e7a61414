use Rattle.std.proofs.Common.{◌≡◌, ◌∙◌, ℕ, subst, ap, inl, inr}
use Rattle.chunk_plain.specs.Setup.{Setup}
use Rattle.chunk_plain.specs.Views.{ServiceView, taken_of}
use Rattle.service_core.specs.Scraping.{IsNoPart, SeesNoPart, TakesPart, IsntPart, FindsNoPart, FindsNoPartOf}
use Rattle.service_core.proofs.AgreeLemmas.{goes_begin, goes_on, writer_on}
use Rattle.service_core.proofs.ToldLemmas.{finds_begin, finds_more}
use Rattle.service_core.proofs.KeptLemmas.{range_is}
use Rattle.service_core.proofs.LookLemmas.{sees_begin, sees_more, sees_all}
use Rattle.service_core.proofs.PartLemmas.{part_behind}
use Rattle.service_core.proofs.HeldLemmas.{notes_behind, notes_none}
use Rattle.service_core.proofs.service.ServiceCore.scrape_writer.Goals as goal

pub loop-chunk-init : goal.loop-chunk-init
loop-chunk-init g c =
    let means = g.W.Words.means in
    let setup = means.setup c.args.table.now in
    let old = means.service_view c.args.table.now c.args.self.now.seat in
    record {
      on = goes_begin c.requires.writer.service;
      told = λ world is. finds_begin (IsntPart c.args.place (taken_of old c.args.place).count) c.chunks_of-first.result.0 world (means.told c.args.table.now) old is
          (g.met.W.Words.told_service_view c.args.table.now c.args.self.now.seat world is c.requires.writer.service.serves);
      seen = sees_begin IsNoPart setup c.args.place c.chunks_of-first.result.0 old;
    }

pub scrape_chunk-requires-clause-writer : goal.scrape_chunk-requires-clause-writer
scrape_chunk-requires-clause-writer g c = writer_on c.loop-chunk.invariant.on c.requires.writer

pub returns-then-scrape_chunk-clause-leaves : goal.returns-then-scrape_chunk-clause-leaves
returns-then-scrape_chunk-clause-leaves g c = goes_on c.loop-chunk.invariant.on c.scrape_chunk.ensures.leaves

pub loop-chunk-preserved : goal.loop-chunk-preserved
loop-chunk-preserved g c =
    let means = g.W.Words.means in
    let i = c.loop-chunk.invariant in
    let setup = means.setup c.args.table.now in
    let place = c.args.place in
    let first = c.chunks_of-first.result.0 in
    let old = means.service_view c.args.table.now c.args.self.now.seat in
    let mid = means.service_view c.loop-chunk.table c.loop-chunk.self.seat in
    let new = means.service_view c.scrape_chunk.new.table c.scrape_chunk.new.self.seat in
    let same = i.on.step.setup_stays in
    record {
      on = goes_on i.on c.scrape_chunk.ensures.leaves;
      told = λ world is.
          let count_is : (taken_of mid place).count ≡ (taken_of old place).count = ap (λ (v : ServiceView). (taken_of v place).count) i.seen.view in
          finds_more (IsntPart place (taken_of old place).count) first c.loop-chunk.chunk world (means.told c.loop-chunk.table) (means.told c.scrape_chunk.new.table) mid new (i.told world is)
          (λ w e. subst (λ (n : ℕ). FindsNoPart place n c.loop-chunk.chunk w (means.told c.scrape_chunk.new.table) new) count_is ((c.scrape_chunk.ensures.none c.if-scrape_chunk.false).told w e));
      seen = sees_more IsNoPart setup place first c.loop-chunk.chunk old mid new i.seen (subst (λ (s : Setup). SeesNoPart s place c.loop-chunk.chunk mid new) same (c.scrape_chunk.ensures.none c.if-scrape_chunk.false).sees);
    }

pub returns-then-scrape_chunk-clause-scrapes : goal.returns-then-scrape_chunk-clause-scrapes
returns-then-scrape_chunk-clause-scrapes g c =
    let means = g.W.Words.means in
    let i = c.loop-chunk.invariant in
    let setup = means.setup c.args.table.now in
    let old = means.service_view c.args.table.now c.args.self.now.seat in
    let mid = means.service_view c.loop-chunk.table c.loop-chunk.self.seat in
    let new = means.service_view c.scrape_chunk.new.table c.scrape_chunk.new.self.seat in
    inl (part_behind setup c.args.place c.chunks_of-first.result.0 c.loop-chunk.chunk old mid new i.seen
    (subst (λ (s : Setup). TakesPart s c.args.place mid new) i.on.step.setup_stays (c.scrape_chunk.ensures.part c.if-scrape_chunk.true).takes))

pub returns-then-scrape_chunk-clause-told : goal.returns-then-scrape_chunk-clause-told
returns-then-scrape_chunk-clause-told g c world is own =
    let means = g.W.Words.means in
    let i = c.loop-chunk.invariant in
    let place = c.args.place in
    let old = means.service_view c.args.table.now c.args.self.now.seat in
    let mid = means.service_view c.loop-chunk.table c.loop-chunk.self.seat in
    let new = means.service_view c.scrape_chunk.new.table c.scrape_chunk.new.self.seat in
    let view_is = g.met.W.Words.told_service_view c.args.table.now c.args.self.now.seat world is c.requires.writer.service.serves in
    notes_behind place (taken_of old place).count c.chunks_of-first.result.0 c.loop-chunk.chunk world (means.told c.loop-chunk.table) (means.told c.scrape_chunk.new.table) old mid new (i.told world is)
    (ap (λ (v : ServiceView). v.events) i.seen.view) (ap (λ (v : ServiceView). v.taken) i.seen.view ∙ ap (λ (v : ServiceView). v.taken) view_is)
    (c.scrape_chunk.ensures.part c.if-scrape_chunk.true).told

pub returns-clause-scrapes : goal.returns-clause-scrapes
returns-clause-scrapes g c =
    let means = g.W.Words.means in
    let i = c.loop-chunk.invariant in
    let setup = means.setup c.args.table.now in
    let place = c.args.place in
    let old = means.service_view c.args.table.now c.args.self.now.seat in
    let new = means.service_view c.loop-chunk.table c.loop-chunk.self.seat in
    let range = range_is setup old c.args.self.now place c.requires.writer.service.agrees c.requires.writer.inside c.index.result.now c.chunks_of-first.result c.index.ensures c.chunks_of-first.ensures in
    inr (sees_all IsNoPart setup place c.chunks_of-first.result.0 c.chunks_of-first.result.1 c.loop-chunk.chunk old new range c.loop-chunk-test.false i.seen)

pub returns-clause-told : goal.returns-clause-told
returns-clause-told g c world is own =
    let means = g.W.Words.means in
    let i = c.loop-chunk.invariant in
    let setup = means.setup c.args.table.now in
    let place = c.args.place in
    let old = means.service_view c.args.table.now c.args.self.now.seat in
    let new = means.service_view c.loop-chunk.table c.loop-chunk.self.seat in
    let range = range_is setup old c.args.self.now place c.requires.writer.service.agrees c.requires.writer.inside c.index.result.now c.chunks_of-first.result c.index.ensures c.chunks_of-first.ensures in
    let view_is = g.met.W.Words.told_service_view c.args.table.now c.args.self.now.seat world is c.requires.writer.service.serves in
    notes_none setup place c.chunks_of-first.result.0 c.chunks_of-first.result.1 c.loop-chunk.chunk world (means.told c.loop-chunk.table) old new
    (g.met.W.Words.told_owned c.args.table.now world is) own range c.loop-chunk-test.false
    (subst (λ (v : ServiceView). FindsNoPartOf place (taken_of v place).count c.chunks_of-first.result.0 c.loop-chunk.chunk world (means.told c.loop-chunk.table) new) view_is (i.told world is))
    (ap (λ (v : ServiceView). v.events) i.seen.view)
