use Rattle.std.proofs.Common.{◌+◌, ◌∙◌, ◌<◌, ℕ, List, length, subst, sym, refl, ap, arith}
use Rattle.chunk_plain.specs.Setup.{Setup}
use Rattle.std.proofs.Common.{take}
use Rattle.trace_base.specs.declared.policy.WriterSpec.{WriterSpec}
use Rattle.service_core.specs.Taking.{TakesOf, Takes, places_of}
use Rattle.service_core.proofs.AgreeLemmas.{goes_begin, goes_on, writer_at}
use Rattle.service_core.proofs.ChainLemmas.{takes_writer, places_add, places_skip}
use Rattle.chunk_plain.specs.Views.{Taken, ServiceView, taken_of}
use Rattle.service_core.specs.Told.{LeavesNext}
use Rattle.service_core.proofs.TakingLemmas.{taken_other}
use Rattle.service_core.proofs.ToldLemmas.{leaves_yet, leaves_skip, leaves_add, leaves_all}
use Rattle.service_core.proofs.KeptLemmas.{read_spec}
use Rattle.service_core.proofs.service.ServiceCore.collect.Goals as goal

pub loop-place-preserved-then-index-producer : goal.loop-place-preserved-then-index-producer
loop-place-preserved-then-index-producer g c =
    let means = g.W.Words.means in
    let i = c.loop-place.invariant in
    let setup = means.setup c.args.table.now in
    let place = c.loop-place.place in
    let end = c.len-place-end.ensures in
    let joined = c.args.self.now.writers.ok.0 in
    let low : place < length setup.writers = subst (λ (ws : List WriterSpec). place < length ws) c.requires.serves.agrees.writers (omega (arith, end, joined)) in
    let read = read_spec setup (means.service_view c.loop-place.table c.loop-place.self.seat) c.loop-place.self place i.on.agrees low c.index.result.now c.index.ensures in
    let places = places_skip c.args.producer setup.writers place low (λ same. c.if-index-producer.true (ap (λ (w : WriterSpec). w.producer) read ∙ same)) in
    let small = i.small in
    record {
      on = i.on;
      told = λ world is. leaves_skip setup c.args.producer place world (means.told c.loop-place.table) (means.service_view c.loop-place.table c.loop-place.self.seat) (i.told world is)
          (λ same. c.if-index-producer.true (ap (λ (w : WriterSpec). w.producer) read ∙ same));
      takes = subst (λ (ps : List ℕ). Takes setup ps c.loop-place.count (means.service_view c.args.table.now c.args.self.now.seat) (means.service_view c.loop-place.table c.loop-place.self.seat)) (sym places) i.takes;
      small = omega (arith, small);
    }

pub loop-place-preserved : goal.loop-place-preserved
loop-place-preserved g c =
    let means = g.W.Words.means in
    let i = c.loop-place.invariant in
    let setup = means.setup c.args.table.now in
    let place = c.loop-place.place in
    let old = means.service_view c.args.table.now c.args.self.now.seat in
    let mid = means.service_view c.loop-place.table c.loop-place.self.seat in
    let new = means.service_view c.take_all.new.table c.take_all.new.self.seat in
    let end = c.len-place-end.ensures in
    let joined = c.args.self.now.writers.ok.0 in
    let low : place < length setup.writers = subst (λ (ws : List WriterSpec). place < length ws) c.requires.serves.agrees.writers (omega (arith, end, joined)) in
    let read = read_spec setup (means.service_view c.loop-place.table c.loop-place.self.seat) c.loop-place.self place i.on.agrees low c.index.result.now c.index.ensures in
    let same = sym (ap (λ (w : WriterSpec). w.producer) read) ∙ c.if-index-producer.false in
    let places = places_add c.args.producer setup.writers place low same in
    let stays = i.on.step.setup_stays in
    let took = subst (λ (s : Setup). TakesOf s place c.take_all.result mid new) stays c.take_all.ensures.takes in
    let takes = takes_writer setup (places_of c.args.producer 0 (take place setup.writers)) place c.loop-place.count c.take_all.result old mid new i.takes took in
    let more = c.from-count.ensures in
    let small = i.small in
    let fits = c.take_all.type_inv in
    record {
      on = goes_on i.on c.take_all.ensures.leaves;
      told = λ world is. leaves_add setup c.args.producer place world (means.told c.loop-place.table) (means.told c.take_all.new.table) mid new (i.told world is)
          (λ other differs. ap (λ (v : ServiceView). (taken_of v other).count) took.view ∙ ap (λ (t : Taken). t.count) (taken_other mid place other took.looks took.contents differs))
          (λ w e. subst (λ (s : Setup). LeavesNext s place w (means.told c.take_all.new.table) new) stays (c.take_all.ensures.told w e));
      takes = subst (λ (n : ℕ). Takes setup (places_of c.args.producer 0 (take (place + 1) setup.writers)) (c.loop-place.count + n) old new) (sym more)
          (subst (λ (ps : List ℕ). Takes setup ps (c.loop-place.count + c.take_all.result) old new) (sym places) takes);
      small = omega (arith, small, more, fits);
    }

pub take_all-requires : goal.take_all-requires
take_all-requires g c =
    let means = g.W.Words.means in
    let i = c.loop-place.invariant in
    let setup = means.setup c.args.table.now in
    let place = c.loop-place.place in
    let end = c.len-place-end.ensures in
    let joined = c.args.self.now.writers.ok.0 in
    let test = c.loop-place-test.true in
    let low : place < length setup.writers = subst (λ (ws : List WriterSpec). place < length ws) c.requires.serves.agrees.writers (omega (arith, end, joined, test)) in
    let read = read_spec setup (means.service_view c.loop-place.table c.loop-place.self.seat) c.loop-place.self place i.on.agrees low c.index.result.now c.index.ensures in
    record { writer = writer_at i.on place low (c.requires.open place low (sym (ap (λ (w : WriterSpec). w.producer) read) ∙ c.if-index-producer.false)) }

pub loop-place-init : goal.loop-place-init
loop-place-init g c =
    let means = g.W.Words.means in
    let setup = means.setup c.args.table.now in
    let old = means.service_view c.args.table.now c.args.self.now.seat in
    record {
      on = goes_begin c.requires.serves;
      takes = (refl, refl);
      told = λ world is. leaves_yet setup c.args.producer world (means.told c.args.table.now) old is
          (g.met.W.Words.told_service_view c.args.table.now c.args.self.now.seat world is c.requires.serves.serves);
      small = omega arith;
    }

pub returns-clause-told : goal.returns-clause-told
returns-clause-told g c world is =
    let means = g.W.Words.means in
    let setup = means.setup c.args.table.now in
    let joined = c.args.self.now.writers.ok.0 in
    let end = c.len-place-end.ensures in
    let test = c.loop-place-test.false in
    let long = ap (λ (ws : List WriterSpec). length ws) c.requires.serves.agrees.writers in
    leaves_all setup c.args.producer c.loop-place.place world (means.told c.loop-place.table) (means.service_view c.loop-place.table c.loop-place.self.seat)
    (c.loop-place.invariant.told world is) (omega (arith, joined, end, test, long))
