-- A writer of the table flushes.
use Rattle.std.proofs.Common.{refl}
use Rattle.trace_model.specs.Calls.{Flushed}
use Rattle.replay_host.proofs.ChosenLemmas.{chosen, chosen_ready, chosen_host, chosen_asked}
use Rattle.replay_host.proofs.RowLemmas.{AreLaws}
use Rattle.replay_host.proofs.host.Host+W+W+Writer+W+Service.flush.Goals as goal

pub ask_flushed-requires-clause-going : goal.ask_flushed-requires-clause-going
ask_flushed-requires-clause-going g c =
    (chosen g.W.Words.means c.args.self.now c.args.place Flushed c.index_mut-core.result.now c.index.result.now c.requires.ready.0
    c.requires.host (g.met.W.Words.laid c.args.self.now.table) c.requires.place c.index_mut-core.ensures.value c.index.ensures
    c.requires.ready.1).seated.going

pub ask_flushed-requires-clause-ready : goal.ask_flushed-requires-clause-ready
ask_flushed-requires-clause-ready g c =
    chosen_ready g.W.Words.means c.args.self.now c.args.place Flushed c.index_mut-core.result.now c.index.result.now.producer
    (chosen g.W.Words.means c.args.self.now c.args.place Flushed c.index_mut-core.result.now c.index.result.now c.requires.ready.0
    c.requires.host (g.met.W.Words.laid c.args.self.now.table) c.requires.place c.index_mut-core.ensures.value c.index.ensures
    c.requires.ready.1)

pub returns-clause-host : goal.returns-clause-host
returns-clause-host g c =
    let laws : AreLaws g.W.Words.means = record {
      told_view = g.met.W.Words.told_view;
      told_service_view = g.met.W.Words.told_service_view;
      told_writers = g.met.W.Words.told_writers;
      told_owned = g.met.W.Words.told_owned;
    } in
    chosen_host g.W.Words.means laws c.args.self.now c.args.place Flushed c.index_mut-core.result.now c.index.result.now.producer
    (chosen g.W.Words.means c.args.self.now c.args.place Flushed c.index_mut-core.result.now c.index.result.now c.requires.ready.0
    c.requires.host (g.met.W.Words.laid c.args.self.now.table) c.requires.place c.index_mut-core.ensures.value c.index.ensures
    c.requires.ready.1)
    _ c.ask_flushed.new.core refl (record { flushes = refl; specs = refl; opened = refl }) c.ask_flushed.ensures.called

pub returns-clause-asked : goal.returns-clause-asked
returns-clause-asked g c =
    let laws : AreLaws g.W.Words.means = record {
      told_view = g.met.W.Words.told_view;
      told_service_view = g.met.W.Words.told_service_view;
      told_writers = g.met.W.Words.told_writers;
      told_owned = g.met.W.Words.told_owned;
    } in
    chosen_asked g.W.Words.means laws c.args.self.now c.args.place Flushed c.index_mut-core.result.now c.index.result.now.producer
    (chosen g.W.Words.means c.args.self.now c.args.place Flushed c.index_mut-core.result.now c.index.result.now c.requires.ready.0
    c.requires.host (g.met.W.Words.laid c.args.self.now.table) c.requires.place c.index_mut-core.ensures.value c.index.ensures
    c.requires.ready.1)
    _ c.ask_flushed.new.core refl (record { flushes = refl; specs = refl; opened = refl }) c.ask_flushed.ensures.called
