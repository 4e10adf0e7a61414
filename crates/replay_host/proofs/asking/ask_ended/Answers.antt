-- A message ends that is open.
use Rattle.std.proofs.Common.{refl}
use Rattle.replay_host.proofs.CallLemmas.{quiet_called}
use Rattle.replay_host.proofs.ReadyLemmas.{deep_here}
use Rattle.replay_host.proofs.asking.ask_ended.Goals as goal

pub end_nested-requires-clause-depth : goal.end_nested-requires-clause-depth
end_nested-requires-clause-depth g c = deep_here c.requires.ready.1.asked (g.W.Words.means.view c.args.table.now c.args.core.now.seat) c.requires.ready.1.loses c.requires.ready.1.accepted.0.0 c.requires.ready.1.accepted.0.1

pub returns : goal.returns
returns g c =
    let made = c.end_nested.ensures.call in
    record {
      called = quiet_called g.H.HelperOn.needs g.H.HelperOn.helps c.args.help.now made c.requires.going
          (g.met.H.HelperOn.needs_stay c.args.help.now c.args.table.now c.end_nested.new.table c.args.core.now.seat c.end_nested.new.self.seat made.quiet.step c.requires.needs) refl;
    }
