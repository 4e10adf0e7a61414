-- The line's writer is asked for what the line says.
use Rattle.std.proofs.Common.{List, map, sym, subst}
use Rattle.scenario_text.specs.Accepted.{node_call}
use Rattle.replay_model.specs.Acts.{Act}
use Rattle.replay_host.specs.Stopping.{StopsIn}
use Rattle.replay_host.proofs.MomentLemmas.{asked_played, asking_place, asking_open, asking_ready}
use Rattle.replay_host.proofs.ResultLemmas.{on_ok_both, if_err_each}
use Rattle.replay_host.proofs.lines.Host+W+W+Writer+W+Service.play_fields.Goals as goal

pub ask_fields-requires-clause-host : goal.ask_fields-requires-clause-host
ask_fields-requires-clause-host g c = c.requires.next.1.next.at.going.kept.is_host

pub ask_fields-requires-clause-place : goal.ask_fields-requires-clause-place
ask_fields-requires-clause-place g c = asking_place g.W.Words.means c.requires.next.0 c.args.place (map node_call c.args.fields.now) c.args.self.now c.requires.next.1

pub ask_fields-requires-clause-open : goal.ask_fields-requires-clause-open
ask_fields-requires-clause-open g c = asking_open g.W.Words.means c.requires.next.0 c.args.place (map node_call c.args.fields.now) c.args.self.now c.requires.next.1

pub ask_fields-requires-clause-ready : goal.ask_fields-requires-clause-ready
ask_fields-requires-clause-ready g c = asking_ready g.W.Words.means c.requires.next.0 c.args.place (map node_call c.args.fields.now) c.args.self.now c.requires.next.1

pub returns-clause-played : goal.returns-clause-played
returns-clause-played g c =
    on_ok_both c.ask_fields.result _ _ _ c.ask_fields.ensures.host c.ask_fields.ensures.asked
    (λ host asked moment comes taken. asked_played g.W.Words.means moment c.args.place (map node_call c.args.fields.now) c.args.self.now c.ask_fields.new.self taken comes host asked)

pub returns-clause-stops : goal.returns-clause-stops
returns-clause-stops g c =
    if_err_each c.ask_fields.result _ _ c.ask_fields.ensures.stops
    (λ fault stops moment comes taken.
    subst (λ (acts : List Act). StopsIn g.W.Words.means acts c.args.self.now taken fault taken) (sym comes.acts) (stops taken))
