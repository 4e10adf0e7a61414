-- The reading of a buffer is one act of the service.
use Rattle.std.proofs.Common.{IfOk, OnErr, refl, subst}
use Rattle.chunk_plain.specs.Setup.{Setup}
use Rattle.chunk_plain.specs.Views.{ServiceView}
use Rattle.service_core.specs.Reading.{FailsAmong, ReadsAll, read_moment}
use Rattle.replay_host.proofs.ReadLemmas.{read_done, read_fails}
use Rattle.replay_host.proofs.RowLemmas.{AreLaws}
use Rattle.replay_host.proofs.ServedLemmas.{served_stands, served_is, opened_still}
use Rattle.replay_host.proofs.serving.Host+W+W+Writer+W+Service.read.Goals as goal

pub returns-in-Ok-clause-leaves : goal.returns-in-Ok-clause-leaves
returns-in-Ok-clause-leaves g c =
    let means = g.W.Words.means in
    let was = c.requires.host in
    let old = c.args.self.now in
    let call = c.read_buffer in
    let setup : Setup = means.setup old.table in
    let before : ServiceView = means.service_view old.table old.helper.service.seat in
    let view : ServiceView = means.service_view call.new.table call.new.self.seat in
    let step = call.ensures.leaves.service.step in
    let reads = subst (λ r. IfOk r (λ delivered. ReadsAll setup old.helper.service c.args.buffer c.args.limit delivered
    (read_moment before (g.O.Sink.taken c.args.out.now)) (read_moment view (g.O.Sink.taken call.new.out)))) c.in-Ok.is call.ensures.reads in
    let served = served_is means old.table call.new.table old.helper.service call.new.self was.stands.served step call.ensures.leaves.service.agrees in
    let stands = served_stands means old.table call.new.table old.writers.items old.helper.service call.new.self was.stands step served in
    record {
      host = opened_still means old _ was stands step.setup_stays call.ensures.leaves.service.keeps refl refl;
      writers = record {
        writers = refl;
        flushes = refl;
        specs = refl;
        views = λ place core at. (c.read_buffer.ensures.leaves.service.step.writers_stay core.seat (c.requires.host.stands.seated place core at).sits).1;
      };
      opened = refl;
      session = c.read_buffer.ensures.leaves.service.keeps.fields.session;
    }

pub returns-in-Ok-clause-done : goal.returns-in-Ok-clause-done
returns-in-Ok-clause-done g c =
    let means = g.W.Words.means in
    let laws : AreLaws means = record {
      told_view = g.met.W.Words.told_view;
      told_service_view = g.met.W.Words.told_service_view;
      told_writers = g.met.W.Words.told_writers;
      told_owned = g.met.W.Words.told_owned;
    } in
    let old = c.args.self.now in
    let call = c.read_buffer in
    let setup : Setup = means.setup old.table in
    let before : ServiceView = means.service_view old.table old.helper.service.seat in
    let view : ServiceView = means.service_view call.new.table call.new.self.seat in
    let reads = subst (λ r. IfOk r (λ delivered. ReadsAll setup old.helper.service c.args.buffer c.args.limit delivered
    (read_moment before (g.O.Sink.taken c.args.out.now)) (read_moment view (g.O.Sink.taken call.new.out)))) c.in-Ok.is call.ensures.reads in
    read_done means laws c.args.buffer c.args.limit _ old _ (g.O.Sink.taken c.args.out.now) (g.O.Sink.taken call.new.out)
    c.requires.host.stands.served call.ensures.leaves.service.step call.ensures.leaves.service.keeps reads call.ensures.leaves.told

pub returns-in-Err-clause-leaves : goal.returns-in-Err-clause-leaves
returns-in-Err-clause-leaves g c =
    let means = g.W.Words.means in
    let was = c.requires.host in
    let old = c.args.self.now in
    let call = c.read_buffer in
    let setup : Setup = means.setup old.table in
    let before : ServiceView = means.service_view old.table old.helper.service.seat in
    let view : ServiceView = means.service_view call.new.table call.new.self.seat in
    let step = call.ensures.leaves.service.step in
    let fails = subst (λ r. OnErr r (FailsAmong setup old.helper.service c.args.buffer c.args.limit
    (read_moment before (g.O.Sink.taken c.args.out.now)) (read_moment view (g.O.Sink.taken call.new.out)))) c.in-Err.is call.ensures.fails in
    let served = served_is means old.table call.new.table old.helper.service call.new.self was.stands.served step call.ensures.leaves.service.agrees in
    let stands = served_stands means old.table call.new.table old.writers.items old.helper.service call.new.self was.stands step served in
    record {
      host = opened_still means old _ was stands step.setup_stays call.ensures.leaves.service.keeps refl refl;
      writers = record {
        writers = refl;
        flushes = refl;
        specs = refl;
        views = λ place core at. (c.read_buffer.ensures.leaves.service.step.writers_stay core.seat (c.requires.host.stands.seated place core at).sits).1;
      };
      opened = refl;
      session = c.read_buffer.ensures.leaves.service.keeps.fields.session;
    }

pub returns-in-Err-clause-fails : goal.returns-in-Err-clause-fails
returns-in-Err-clause-fails g c =
    let means = g.W.Words.means in
    let old = c.args.self.now in
    let call = c.read_buffer in
    let setup : Setup = means.setup old.table in
    let before : ServiceView = means.service_view old.table old.helper.service.seat in
    let view : ServiceView = means.service_view call.new.table call.new.self.seat in
    let fails = subst (λ r. OnErr r (FailsAmong setup old.helper.service c.args.buffer c.args.limit
    (read_moment before (g.O.Sink.taken c.args.out.now)) (read_moment view (g.O.Sink.taken call.new.out)))) c.in-Err.is call.ensures.fails in
    read_fails means c.args.buffer c.args.limit old _ (g.O.Sink.taken c.args.out.now) (g.O.Sink.taken call.new.out)
    c.requires.host.stands.served call.ensures.leaves.service.step call.ensures.leaves.service.keeps fails call.ensures.leaves.told
