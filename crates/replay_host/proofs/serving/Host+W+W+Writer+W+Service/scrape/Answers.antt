-- A scrape is one act of the service.
use Rattle.std.proofs.Common.{refl}
use Rattle.chunk_plain.specs.Setup.{Setup}
use Rattle.chunk_plain.specs.Views.{ServiceView}
use Rattle.replay_model.proofs.ShutLemmas.{open_is}
use Rattle.replay_host.proofs.RowLemmas.{AreLaws}
use Rattle.replay_host.proofs.ScrapedLemmas.{scrape_done}
use Rattle.replay_host.proofs.ServedLemmas.{served_stands, served_is, opened_still}
use Rattle.replay_host.proofs.serving.Host+W+W+Writer+W+Service.scrape.Goals as goal

pub returns-clause-leaves : goal.returns-clause-leaves
returns-clause-leaves g c =
    let means = g.W.Words.means in
    let was = c.requires.host in
    let setup : Setup = means.setup c.args.self.now.table in
    let step = c.scrape.ensures.leaves.step in
    let old = c.args.self.now in
    let new = c.scrape.new in
    let served = served_is means old.table new.table old.helper.service new.self was.stands.served step c.scrape.ensures.leaves.agrees in
    let stands = served_stands means old.table new.table old.writers.items old.helper.service new.self was.stands step served in
    record {
      host = opened_still means old _ was stands step.setup_stays c.scrape.ensures.leaves.keeps refl refl;
      writers = record {
        writers = refl;
        flushes = refl;
        specs = refl;
        views = λ place core at. (c.scrape.ensures.leaves.step.writers_stay core.seat (c.requires.host.stands.seated place core at).sits).1;
      };
      opened = refl;
      session = c.scrape.ensures.leaves.keeps.fields.session;
    }

pub returns-clause-done : goal.returns-clause-done
returns-clause-done g c intake =
    let means = g.W.Words.means in
    let laws : AreLaws means = record {
      told_view = g.met.W.Words.told_view;
      told_service_view = g.met.W.Words.told_service_view;
      told_writers = g.met.W.Words.told_writers;
      told_owned = g.met.W.Words.told_owned;
    } in
    let was = c.requires.host in
    let old = c.args.self.now in
    let setup : Setup = means.setup old.table in
    let view : ServiceView = means.service_view old.table old.helper.service.seat in
    let opened = open_is setup view old.helper.service c.args.producer was.stands.served.agrees
    (was.opened c.args.producer c.requires.producer c.requires.open) in
    let done = c.scrape.ensures in
    scrape_done means laws c.args.producer c.scrape.result old _ was.stands
    done.leaves.step done.leaves.keeps done.leaves.agrees opened done.scrapes done.told intake
