-- A writer of the table is asked for a call that it accepts.
use Rattle.std.proofs.Common.{refl, subst}
use Rattle.chunk_plain.specs.Words.{call_of}
use Rattle.replay_host.proofs.ChosenLemmas.{chosen, chosen_ready, chosen_host, chosen_asked, chosen_stalls}
use Rattle.replay_host.proofs.RowLemmas.{AreLaws}
use Rattle.replay_host.proofs.StallLemmas.{FitAll}
use Rattle.replay_host.proofs.host.Host+W+W+Writer+W+Service.ask.Goals as goal

pub ask_one-requires-clause-going : goal.ask_one-requires-clause-going
ask_one-requires-clause-going g c =
    (chosen g.W.Words.means c.args.self.now c.args.place (call_of c.args.call) c.index_mut-core.result.now c.index.result.now
    c.requires.ready.0
    c.requires.host (g.met.W.Words.laid c.args.self.now.table) c.requires.place c.index_mut-core.ensures.value c.index.ensures
    c.requires.ready.1).seated.going

pub ask_one-requires-clause-ready : goal.ask_one-requires-clause-ready
ask_one-requires-clause-ready g c =
    chosen_ready g.W.Words.means c.args.self.now c.args.place (call_of c.args.call) c.index_mut-core.result.now c.index.result.now.producer
    (chosen g.W.Words.means c.args.self.now c.args.place (call_of c.args.call) c.index_mut-core.result.now c.index.result.now
    c.requires.ready.0
    c.requires.host (g.met.W.Words.laid c.args.self.now.table) c.requires.place c.index_mut-core.ensures.value c.index.ensures
    c.requires.ready.1)

pub returns-in-Ok-clause-host : goal.returns-in-Ok-clause-host
returns-in-Ok-clause-host g c =
    let laws : AreLaws g.W.Words.means = record {
      told_view = g.met.W.Words.told_view;
      told_service_view = g.met.W.Words.told_service_view;
      told_writers = g.met.W.Words.told_writers;
      told_owned = g.met.W.Words.told_owned;
    } in
    chosen_host g.W.Words.means laws c.args.self.now c.args.place (call_of c.args.call) c.index_mut-core.result.now
    c.index.result.now.producer
    (chosen g.W.Words.means c.args.self.now c.args.place (call_of c.args.call) c.index_mut-core.result.now c.index.result.now
    c.requires.ready.0
    c.requires.host (g.met.W.Words.laid c.args.self.now.table) c.requires.place c.index_mut-core.ensures.value c.index.ensures
    c.requires.ready.1)
    _ c.ask_one.new.core refl (record { flushes = refl; specs = refl; opened = refl }) c.in-Ok.ensures.called

pub returns-in-Ok-clause-asked : goal.returns-in-Ok-clause-asked
returns-in-Ok-clause-asked g c =
    let laws : AreLaws g.W.Words.means = record {
      told_view = g.met.W.Words.told_view;
      told_service_view = g.met.W.Words.told_service_view;
      told_writers = g.met.W.Words.told_writers;
      told_owned = g.met.W.Words.told_owned;
    } in
    chosen_asked g.W.Words.means laws c.args.self.now c.args.place (call_of c.args.call) c.index_mut-core.result.now
    c.index.result.now.producer
    (chosen g.W.Words.means c.args.self.now c.args.place (call_of c.args.call) c.index_mut-core.result.now c.index.result.now
    c.requires.ready.0
    c.requires.host (g.met.W.Words.laid c.args.self.now.table) c.requires.place c.index_mut-core.ensures.value c.index.ensures
    c.requires.ready.1)
    _ c.ask_one.new.core refl (record { flushes = refl; specs = refl; opened = refl }) c.in-Ok.ensures.called

pub returns-in-Err-clause-stalls : goal.returns-in-Err-clause-stalls
returns-in-Err-clause-stalls g c =
    let laws : AreLaws g.W.Words.means = record {
      told_view = g.met.W.Words.told_view;
      told_service_view = g.met.W.Words.told_service_view;
      told_writers = g.met.W.Words.told_writers;
      told_owned = g.met.W.Words.told_owned;
    } in
    chosen_stalls g.W.Words.means laws c.args.self.now c.args.place (call_of c.args.call) c.index_mut-core.result.now
    c.index.result.now.producer
    (chosen g.W.Words.means c.args.self.now c.args.place (call_of c.args.call) c.index_mut-core.result.now c.index.result.now
    c.requires.ready.0
    c.requires.host (g.met.W.Words.laid c.args.self.now.table) c.requires.place c.index_mut-core.ensures.value c.index.ensures
    c.requires.ready.1)
    _ c.ask_one.new.core refl (record { flushes = refl; specs = refl; opened = refl }) (subst FitAll c.deref.ensures.value c.ids_fit.ensures) c.stalled.result c.stalled.ensures c.in-Err.ensures.stalled
