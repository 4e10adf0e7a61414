-- The closing of a producer is one act of the service.
use Rattle.std.proofs.Common.{ℕ, ◌-◌, false, refl, ap}
use Rattle.std.specs.Prelude.{slice_set}
use Rattle.chunk_plain.specs.Setup.{Setup}
use Rattle.chunk_plain.specs.Views.{ServiceView}
use Rattle.replay_model.proofs.ShutLemmas.{open_is}
use Rattle.replay_host.proofs.ClosedLemmas.{closed_still, close_done}
use Rattle.replay_host.proofs.RowLemmas.{AreLaws}
use Rattle.replay_host.proofs.ServedLemmas.{served_stands, served_is}
use Rattle.replay_host.proofs.serving.Host+W+W+Writer+W+Service.close.Goals as goal

pub returns-clause-host : goal.returns-clause-host
returns-clause-host g c =
    let means = g.W.Words.means in
    let was = c.requires.host in
    let setup : Setup = means.setup c.args.self.now.table in
    let step = c.close_producer.ensures.step in
    let served = served_is means c.args.self.now.table c.close_producer.new.table c.args.self.now.helper.service c.close_producer.new.self was.stands.served step c.close_producer.ensures.agrees in
    let stands = served_stands means c.args.self.now.table c.close_producer.new.table c.args.self.now.writers.items c.args.self.now.helper.service c.close_producer.new.self was.stands step served in
    closed_still means c.args.producer c.args.self.now _ was c.requires.producer stands step.setup_stays c.close_producer.ensures.closes refl (ap (λ (n : ℕ). slice_set c.args.self.now.open_producers.items (n - 1) false) c.from.ensures)

pub returns-clause-writers : goal.returns-clause-writers
returns-clause-writers g c = record {
  writers = refl;
  flushes = refl;
  specs = refl;
  views = λ place core at. (c.close_producer.ensures.step.writers_stay core.seat (c.requires.host.stands.seated place core at).sits).1;
}

pub returns-clause-done : goal.returns-clause-done
returns-clause-done g c intake =
    let means = g.W.Words.means in
    let laws : AreLaws means = record {
      told_view = g.met.W.Words.told_view;
      told_service_view = g.met.W.Words.told_service_view;
      told_writers = g.met.W.Words.told_writers;
      told_owned = g.met.W.Words.told_owned;
    } in
    let was = c.requires.host in
    let old = c.args.self.now in
    let setup : Setup = means.setup old.table in
    let view : ServiceView = means.service_view old.table old.helper.service.seat in
    let opened = open_is setup view old.helper.service c.args.producer was.stands.served.agrees (was.opened c.args.producer c.requires.producer c.requires.open) in
    close_done means laws c.args.producer c.close_producer.result old _ was.stands.served c.close_producer.ensures.step c.close_producer.ensures.closes opened c.close_producer.ensures.takes c.close_producer.ensures.told intake
