-- The line's writer is asked for what the line says.
use Rattle.std.proofs.Common.{true, List, [], ◌∷◌, ◌++◌, map, sym, subst}
use Rattle.scenario_text.specs.Accepted.{node_call}
use Rattle.trace_model.specs.Calls.{Begun, Finished}
use Rattle.replay_model.specs.Acts.{Act}
use Rattle.replay_host.specs.Stopping.{StopsIn}
use Rattle.replay_host.proofs.MomentLemmas.{asked_played, asking_place, asking_open, asking_ready}
use Rattle.replay_host.proofs.ResultLemmas.{on_ok_both, if_err_each}
use Rattle.replay_host.proofs.lines.Host+W+W+Writer+W+Service.play_packet.Goals as goal

pub ask_packet-requires-clause-host : goal.ask_packet-requires-clause-host
ask_packet-requires-clause-host g c = c.requires.next.1.next.at.going.kept.is_host

pub ask_packet-requires-clause-place : goal.ask_packet-requires-clause-place
ask_packet-requires-clause-place g c = asking_place g.W.Words.means c.requires.next.0 c.args.place (Begun true ∷ map node_call c.args.fields.now ++ Finished ∷ []) c.args.self.now c.requires.next.1

pub ask_packet-requires-clause-open : goal.ask_packet-requires-clause-open
ask_packet-requires-clause-open g c = asking_open g.W.Words.means c.requires.next.0 c.args.place (Begun true ∷ map node_call c.args.fields.now ++ Finished ∷ []) c.args.self.now c.requires.next.1

pub ask_packet-requires-clause-ready : goal.ask_packet-requires-clause-ready
ask_packet-requires-clause-ready g c = asking_ready g.W.Words.means c.requires.next.0 c.args.place (Begun true ∷ map node_call c.args.fields.now ++ Finished ∷ []) c.args.self.now c.requires.next.1

pub returns-clause-played : goal.returns-clause-played
returns-clause-played g c =
    on_ok_both c.ask_packet.result _ _ _ c.ask_packet.ensures.host c.ask_packet.ensures.asked
    (λ host asked moment comes taken. asked_played g.W.Words.means moment c.args.place (Begun true ∷ map node_call c.args.fields.now ++ Finished ∷ []) c.args.self.now c.ask_packet.new.self taken comes host asked)

pub returns-clause-stops : goal.returns-clause-stops
returns-clause-stops g c =
    if_err_each c.ask_packet.result _ _ c.ask_packet.ensures.stops
    (λ fault stops moment comes taken.
    subst (λ (acts : List Act). StopsIn g.W.Words.means acts c.args.self.now taken fault taken) (sym comes.acts) (stops taken))
