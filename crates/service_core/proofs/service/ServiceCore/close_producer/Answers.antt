use Rattle.std.proofs.Common.{◌≡◌, ◌∙◌, ◌<◌, ℕ, List, length, take, subst, sym, ap, arith}
use Rattle.trace_base.specs.declared.policy.WriterSpec.{WriterSpec}
use Rattle.chunk_plain.specs.Setup.{Setup, producer_of}
use Rattle.chunk_plain.proofs.SeatSteps.{services_follow}
use Rattle.service_core.specs.Agreement.{ServiceAgrees}
use Rattle.service_core.specs.Taking.{places_of, noted_more}
use Rattle.service_core.specs.Closing.{ClosesOne, closes_of}
use Rattle.service_core.proofs.ChainLemmas.{places_add, places_skip}
use Rattle.service_core.proofs.CloseLemmas.{closes_skip, closes_add, noted_close}
use Rattle.chunk_plain.specs.Views.{ServiceView}
use Rattle.service_core.proofs.ToldLemmas.{leaves_noted}
use Rattle.service_core.proofs.KeptLemmas.{read_spec}
use Rattle.service_core.proofs.service.ServiceCore.close_producer.Goals as goal

pub loop-place-preserved-then-index-producer : goal.loop-place-preserved-then-index-producer
loop-place-preserved-then-index-producer g c =
    let means = g.W.Words.means in
    let i = c.loop-place.invariant in
    let setup = means.setup c.args.table.now in
    let place = c.loop-place.place in
    let end = c.len-place-end.ensures in
    let joined = c.collect-count.new.self.writers.ok.0 in
    let test = c.loop-place-test.true in
    let low : place < length setup.writers = subst (λ (ws : List WriterSpec). place < length ws) c.collect-count.ensures.leaves.agrees.writers (omega (arith, end, joined, test)) in
    let read = read_spec setup (means.service_view c.loop-place.table c.loop-place.self.seat) c.loop-place.self place i.agrees low c.index.result.now c.index.ensures in
    let differs = λ (same : producer_of setup place ≡ c.args.producer). c.if-index-producer.true (ap (λ (w : WriterSpec). w.producer) read ∙ same) in
    let places = places_skip c.args.producer setup.writers place low differs in
    record {
      agrees = i.agrees;
      closes = closes_skip setup c.args.producer place c.args.self.now c.loop-place.self i.closes differs;
      step = i.step;
      told = i.told;
      takes = record { between = i.takes.between; takes = i.takes.takes; view = i.takes.view ∙ ap (λ (ps : List ℕ). noted_more i.takes.between (closes_of ps)) (sym places) };
    }

pub loop-place-preserved : goal.loop-place-preserved
loop-place-preserved g c =
    let means = g.W.Words.means in
    let i = c.loop-place.invariant in
    let setup = means.setup c.args.table.now in
    let place = c.loop-place.place in
    let mid = means.service_view c.loop-place.table c.loop-place.self.seat in
    let new = means.service_view c.close_writer.new.table c.close_writer.new.self.seat in
    let end = c.len-place-end.ensures in
    let joined = c.collect-count.new.self.writers.ok.0 in
    let test = c.loop-place-test.true in
    let low : place < length setup.writers = subst (λ (ws : List WriterSpec). place < length ws) c.collect-count.ensures.leaves.agrees.writers (omega (arith, end, joined, test)) in
    let read = read_spec setup (means.service_view c.loop-place.table c.loop-place.self.seat) c.loop-place.self place i.agrees low c.index.result.now c.index.ensures in
    let same = sym (ap (λ (w : WriterSpec). w.producer) read) ∙ c.if-index-producer.false in
    let places = places_add c.args.producer setup.writers place low same in
    let stays = i.step.setup_stays in
    let before = places_of c.args.producer 0 (take place setup.writers) in
    record {
      agrees = subst (λ (s : Setup). ServiceAgrees s new c.close_writer.new.self) stays c.close_writer.ensures.agrees;
      closes = closes_add setup c.args.producer place c.args.self.now c.loop-place.self c.close_writer.new.self i.closes
          (subst (λ (s : Setup). ClosesOne s place c.loop-place.self c.close_writer.new.self) stays c.close_writer.ensures.closes) same;
      step = services_follow means c.args.table.now c.args.self.now.seat c.loop-place.table c.loop-place.self.seat c.close_writer.new.table c.close_writer.new.self.seat i.step c.close_writer.ensures.notes.step;
      told = λ world is. leaves_noted setup c.args.producer world (means.told c.loop-place.table) (means.told c.close_writer.new.table) mid new (i.told world is)
          (ap (λ (v : ServiceView). v.taken) c.close_writer.ensures.notes.view) c.close_writer.ensures.notes.told;
      takes = record {
        between = i.takes.between;
        takes = i.takes.takes;
        view = noted_close i.takes.between mid new before place i.takes.view c.close_writer.ensures.notes.view ∙ ap (λ (ps : List ℕ). noted_more i.takes.between (closes_of ps)) (sym places);
      };
    }
