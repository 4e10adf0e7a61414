use Rattle.std.proofs.Common.{◌≡◌, ◌∙◌, ◌+◌, ◌<◌, ℕ, List, length, take, subst, sym, refl, ap, arith}
use Rattle.std.proofs.lemmas.List.{take_all}
use Rattle.trace_base.specs.declared.policy.WriterSpec.{WriterSpec}
use Rattle.chunk_plain.specs.Setup.{Setup, producer_of}
use Rattle.service_core.specs.Taking.{places_of}
use Rattle.service_core.specs.Scraping.{ScrapesOne, ScrapesEach, HoldsOwn}
use Rattle.service_core.proofs.AgreeLemmas.{goes_on, writer_at}
use Rattle.service_core.proofs.ChainLemmas.{places_add, places_skip}
use Rattle.service_core.proofs.PartLemmas.{scrapes_add}
use Rattle.service_core.proofs.HeldLemmas.{world_yet, world_skip, world_add, world_all}
use Rattle.service_core.proofs.KeptLemmas.{read_spec}
use Rattle.service_core.proofs.service.ServiceCore.scrape.Goals as goal

pub loop-place-preserved-then-index-producer : goal.loop-place-preserved-then-index-producer
loop-place-preserved-then-index-producer g c =
    let means = g.W.Words.means in
    let i = c.loop-place.invariant in
    let setup = means.setup c.args.table.now in
    let place = c.loop-place.place in
    let old = means.service_view c.args.table.now c.args.self.now.seat in
    let mid = means.service_view c.loop-place.table c.loop-place.self.seat in
    let end = c.len-place-end.ensures in
    let joined = c.collect-count.new.self.writers.ok.0 in
    let test = c.loop-place-test.true in
    let low : place < length setup.writers = subst (λ (ws : List WriterSpec). place < length ws) c.collect-count.ensures.leaves.agrees.writers (omega (arith, end, joined, test)) in
    let read = read_spec setup (means.service_view c.loop-place.table c.loop-place.self.seat) c.loop-place.self place i.on.agrees low c.index.result.now c.index.ensures in
    let differs = λ (same : producer_of setup place ≡ c.args.producer). c.if-index-producer.true (ap (λ (w : WriterSpec). w.producer) read ∙ same) in
    let places = places_skip c.args.producer setup.writers place low differs in
    record {
      on = i.on;
      scrapes = record {
        between = i.scrapes.between;
        takes = i.scrapes.takes;
        scrapes = subst (λ (ps : List ℕ). ScrapesEach setup ps i.scrapes.between mid) (sym places) i.scrapes.scrapes;
      };
      told = λ world is own.
          world_skip setup c.args.producer c.collect-count.result (take place setup.writers) (take (place + 1) setup.writers) world old (means.told c.loop-place.table) mid places (i.told world is own);
    }

pub loop-place-preserved : goal.loop-place-preserved
loop-place-preserved g c =
    let means = g.W.Words.means in
    let i = c.loop-place.invariant in
    let setup = means.setup c.args.table.now in
    let place = c.loop-place.place in
    let old = means.service_view c.args.table.now c.args.self.now.seat in
    let mid = means.service_view c.loop-place.table c.loop-place.self.seat in
    let new = means.service_view c.scrape_writer.new.table c.scrape_writer.new.self.seat in
    let end = c.len-place-end.ensures in
    let joined = c.collect-count.new.self.writers.ok.0 in
    let test = c.loop-place-test.true in
    let low : place < length setup.writers = subst (λ (ws : List WriterSpec). place < length ws) c.collect-count.ensures.leaves.agrees.writers (omega (arith, end, joined, test)) in
    let read = read_spec setup (means.service_view c.loop-place.table c.loop-place.self.seat) c.loop-place.self place i.on.agrees low c.index.result.now c.index.ensures in
    let same = sym (ap (λ (w : WriterSpec). w.producer) read) ∙ c.if-index-producer.false in
    let places = places_add c.args.producer setup.writers place low same in
    let stays = i.on.step.setup_stays in
    let before = places_of c.args.producer 0 (take place setup.writers) in
    let one = subst (λ (s : Setup). ScrapesOne s place mid new) stays c.scrape_writer.ensures.scrapes in
    record {
      on = goes_on i.on c.scrape_writer.ensures.leaves;
      scrapes = record {
        between = i.scrapes.between;
        takes = i.scrapes.takes;
        scrapes = subst (λ (ps : List ℕ). ScrapesEach setup ps i.scrapes.between new) (sym places) (scrapes_add setup before place i.scrapes.between mid new i.scrapes.scrapes one);
      };
      told = λ world is own.
          world_add setup c.args.producer c.collect-count.result place (take place setup.writers) (take (place + 1) setup.writers) world old mid new (means.told c.loop-place.table) (means.told c.scrape_writer.new.table)
          places (i.told world is own) (own place low same) one
          (λ w e holds. c.scrape_writer.ensures.told w e (subst (λ (s : Setup). HoldsOwn s place w) (sym stays) holds));
    }

pub scrape_writer-requires : goal.scrape_writer-requires
scrape_writer-requires g c =
    let means = g.W.Words.means in
    let i = c.loop-place.invariant in
    let setup = means.setup c.args.table.now in
    let place = c.loop-place.place in
    let end = c.len-place-end.ensures in
    let joined = c.collect-count.new.self.writers.ok.0 in
    let test = c.loop-place-test.true in
    let low : place < length setup.writers = subst (λ (ws : List WriterSpec). place < length ws) c.collect-count.ensures.leaves.agrees.writers (omega (arith, end, joined, test)) in
    let read = read_spec setup (means.service_view c.loop-place.table c.loop-place.self.seat) c.loop-place.self place i.on.agrees low c.index.result.now c.index.ensures in
    record { writer = writer_at i.on place low (c.requires.open place low (sym (ap (λ (w : WriterSpec). w.producer) read) ∙ c.if-index-producer.false)) }

pub loop-place-init : goal.loop-place-init
loop-place-init g c =
    let means = g.W.Words.means in
    let setup = means.setup c.args.table.now in
    let old = means.service_view c.args.table.now c.args.self.now.seat in
    let mid = means.service_view c.collect-count.new.table c.collect-count.new.self.seat in
    record {
      on = c.collect-count.ensures.leaves;
      scrapes = record { between = mid; takes = c.collect-count.ensures.takes; scrapes = refl };
      told = λ world is own.
          world_yet setup c.args.producer c.collect-count.result world old (means.told c.collect-count.new.table) mid (c.collect-count.ensures.told world is) c.collect-count.ensures.takes;
    }

pub returns-clause-told : goal.returns-clause-told
returns-clause-told g c world is own =
    let means = g.W.Words.means in
    let setup = means.setup c.args.table.now in
    let old = means.service_view c.args.table.now c.args.self.now.seat in
    let end = c.len-place-end.ensures in
    let joined = c.collect-count.new.self.writers.ok.0 in
    let test = c.loop-place-test.false in
    let long = ap (λ (ws : List WriterSpec). length ws) c.collect-count.ensures.leaves.agrees.writers in
    world_all setup c.args.producer c.collect-count.result (take c.loop-place.place setup.writers) world old (means.told c.loop-place.table) (means.service_view c.loop-place.table c.loop-place.self.seat)
    (take_all c.loop-place.place setup.writers (omega (arith, end, joined, test, long))) (c.loop-place.invariant.told world is own)
