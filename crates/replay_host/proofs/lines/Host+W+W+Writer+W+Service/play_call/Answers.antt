-- The line's writer is asked for what the line says.
use Rattle.std.proofs.Common.{List, [], ◌∷◌, sym, subst}
use Rattle.chunk_plain.specs.Words.{call_of}
use Rattle.replay_model.specs.Acts.{Act}
use Rattle.replay_host.specs.Stopping.{StopsIn}
use Rattle.replay_host.proofs.MomentLemmas.{asked_played, asking_place, asking_open, asking_ready}
use Rattle.replay_host.proofs.FieldLemmas.{if_err_map}
use Rattle.replay_host.proofs.ResultLemmas.{on_ok_both}
use Rattle.replay_host.proofs.RowLemmas.{AreLaws}
use Rattle.replay_host.proofs.StopLemmas.{stopped_one}
use Rattle.replay_host.proofs.lines.Host+W+W+Writer+W+Service.play_call.Goals as goal

pub ask-requires-clause-host : goal.ask-requires-clause-host
ask-requires-clause-host g c = c.requires.next.1.next.at.going.kept.is_host

pub ask-requires-clause-place : goal.ask-requires-clause-place
ask-requires-clause-place g c = asking_place g.W.Words.means c.requires.next.0 c.args.place (call_of c.args.call ∷ []) c.args.self.now c.requires.next.1

pub ask-requires-clause-open : goal.ask-requires-clause-open
ask-requires-clause-open g c = asking_open g.W.Words.means c.requires.next.0 c.args.place (call_of c.args.call ∷ []) c.args.self.now c.requires.next.1

pub ask-requires-clause-ready : goal.ask-requires-clause-ready
ask-requires-clause-ready g c = asking_ready g.W.Words.means c.requires.next.0 c.args.place (call_of c.args.call ∷ []) c.args.self.now c.requires.next.1

pub returns-clause-played : goal.returns-clause-played
returns-clause-played g c =
    on_ok_both c.ask.result _ _ _ c.ask.ensures.host c.ask.ensures.asked
    (λ host asked moment comes taken. asked_played g.W.Words.means moment c.args.place (call_of c.args.call ∷ []) c.args.self.now c.ask.new.self taken comes host asked)

pub returns-clause-stops : goal.returns-clause-stops
returns-clause-stops g c =
    let means = g.W.Words.means in
    let laws : AreLaws means = record {
      told_view = g.met.W.Words.told_view;
      told_service_view = g.met.W.Words.told_service_view;
      told_writers = g.met.W.Words.told_writers;
      told_owned = g.met.W.Words.told_owned;
    } in
    if_err_map c.ask.result _ _ c.ask.ensures.stalls
    (λ fault stalls moment comes taken.
    subst (λ (acts : List Act). StopsIn means acts c.args.self.now taken fault taken) (sym comes.acts)
    (stopped_one means laws c.args.place (call_of c.args.call) c.args.self.now c.ask.new.self fault comes.next.at.going.kept.is_host stalls taken))
