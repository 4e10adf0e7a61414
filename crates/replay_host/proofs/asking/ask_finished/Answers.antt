-- A packet ends in which no message is open.
use Rattle.std.proofs.Common.{refl}
use Rattle.replay_host.proofs.CallLemmas.{quiet_called}
use Rattle.replay_host.proofs.ReadyLemmas.{writing_is, shallow_here}
use Rattle.replay_host.proofs.asking.ask_finished.Goals as goal

pub finish-requires-clause-begun : goal.finish-requires-clause-begun
finish-requires-clause-begun g c = writing_is c.requires.ready.1.asked (g.W.Words.means.view c.args.table.now c.args.core.now.seat) c.requires.ready.1.loses c.requires.ready.1.accepted.0.0

pub finish-requires-clause-depth : goal.finish-requires-clause-depth
finish-requires-clause-depth g c = shallow_here c.requires.ready.1.asked (g.W.Words.means.view c.args.table.now c.args.core.now.seat) c.requires.ready.1.loses c.requires.ready.1.accepted.0.0 c.requires.ready.1.accepted.0.1

pub returns : goal.returns
returns g c =
    let made = c.finish.ensures.call in
    record {
      called = quiet_called g.H.HelperOn.needs g.H.HelperOn.helps c.args.help.now made c.requires.going
          (g.met.H.HelperOn.needs_stay c.args.help.now c.args.table.now c.finish.new.table c.args.core.now.seat c.finish.new.self.seat made.quiet.step c.requires.needs) refl;
    }
