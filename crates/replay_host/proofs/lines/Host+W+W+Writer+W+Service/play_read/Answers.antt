-- The service plays the line alone, or a write fails.
use Rattle.std.proofs.Common.{[], ◌∷◌, List, sym, subst}
use Rattle.replay_model.specs.Acts.{Act, ReadAll}
use Rattle.replay_host.specs.Replaying.{IsStall}
use Rattle.replay_host.specs.Stopping.{StopsIn}
use Rattle.replay_host.proofs.FieldLemmas.{on_ok_map, if_err_map}
use Rattle.replay_host.proofs.RowLemmas.{AreLaws}
use Rattle.replay_host.proofs.ServedLineLemmas.{served_played}
use Rattle.replay_host.proofs.StopLemmas.{stopped_read}
use Rattle.replay_host.proofs.lines.Host+W+W+Writer+W+Service.play_read.Goals as goal

pub read-requires-clause-host : goal.read-requires-clause-host
read-requires-clause-host g c = c.requires.next.1.next.at.going.kept.is_host

pub returns-clause-played : goal.returns-clause-played
returns-clause-played g c =
    on_ok_map c.read.result _ _ c.read.ensures.done
    (λ done moment comes.
    served_played g.W.Words.means moment (ReadAll c.args.buffer c.args.limit ∷ []) c.args.self.now c.read.new.self (g.O.Sink.taken c.args.out.now) (g.O.Sink.taken c.read.new.out) comes
    c.read.ensures.leaves.host c.read.ensures.leaves.writers c.read.ensures.leaves.opened c.read.ensures.leaves.session done)

pub returns-clause-stops : goal.returns-clause-stops
returns-clause-stops g c =
    let means = g.W.Words.means in
    let laws : AreLaws means = record {
      told_view = g.met.W.Words.told_view;
      told_service_view = g.met.W.Words.told_service_view;
      told_writers = g.met.W.Words.told_writers;
      told_owned = g.met.W.Words.told_owned;
    } in
    if_err_map c.read.result _ _ c.read.ensures.fails
    (λ fault fails moment comes.
    subst (λ (acts : List Act). StopsIn means acts c.args.self.now (g.O.Sink.taken c.args.out.now) fault (g.O.Sink.taken c.read.new.out)) (sym comes.acts_are)
    (stopped_read means laws c.args.buffer c.args.limit c.args.self.now c.read.new.self (g.O.Sink.taken c.args.out.now) (g.O.Sink.taken c.read.new.out) fault
    comes.next.at.going.kept.is_host fails))

pub returns-clause-stalled : goal.returns-clause-stalled
returns-clause-stalled g c =
    if_err_map c.read.result _ _ c.read.ensures.fails (λ fault fails stall. absurd (subst IsStall fails.fault_is stall))
