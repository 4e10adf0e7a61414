-- A taking of chunks is one act of the service.
use Rattle.std.proofs.Common.{refl}
use Rattle.chunk_plain.specs.Setup.{Setup}
use Rattle.chunk_plain.specs.Views.{ServiceView}
use Rattle.replay_model.proofs.ShutLemmas.{open_is}
use Rattle.replay_host.proofs.RowLemmas.{AreLaws}
use Rattle.replay_host.proofs.ServedLemmas.{served_stands, served_is, opened_still, collect_done}
use Rattle.replay_host.proofs.serving.Host+W+W+Writer+W+Service.collect.Goals as goal

pub returns-clause-leaves : goal.returns-clause-leaves
returns-clause-leaves g c =
    let means = g.W.Words.means in
    let was = c.requires.host in
    let setup : Setup = means.setup c.args.self.now.table in
    let step = c.collect.ensures.leaves.step in
    let served = served_is means c.args.self.now.table c.collect.new.table c.args.self.now.helper.service c.collect.new.self was.stands.served step c.collect.ensures.leaves.agrees in
    let stands = served_stands means c.args.self.now.table c.collect.new.table c.args.self.now.writers.items c.args.self.now.helper.service c.collect.new.self was.stands step served in
    record {
      host = opened_still means c.args.self.now _ was stands step.setup_stays c.collect.ensures.leaves.keeps refl refl;
      writers = record {
        writers = refl;
        flushes = refl;
        specs = refl;
        views = λ place core at. (c.collect.ensures.leaves.step.writers_stay core.seat (c.requires.host.stands.seated place core at).sits).1;
      };
      opened = refl;
      session = c.collect.ensures.leaves.keeps.fields.session;
    }

pub returns-clause-done : goal.returns-clause-done
returns-clause-done g c intake =
    let means = g.W.Words.means in
    let laws : AreLaws means = record {
      told_view = g.met.W.Words.told_view;
      told_service_view = g.met.W.Words.told_service_view;
      told_writers = g.met.W.Words.told_writers;
      told_owned = g.met.W.Words.told_owned;
    } in
    let was = c.requires.host in
    let old = c.args.self.now in
    let setup : Setup = means.setup old.table in
    let view : ServiceView = means.service_view old.table old.helper.service.seat in
    let opened = open_is setup view old.helper.service c.args.producer was.stands.served.agrees (was.opened c.args.producer c.requires.producer c.requires.open) in
    collect_done means laws c.args.producer c.collect.result old _ was.stands.served c.collect.ensures.leaves.step c.collect.ensures.leaves.keeps opened c.collect.ensures.takes c.collect.ensures.told intake
