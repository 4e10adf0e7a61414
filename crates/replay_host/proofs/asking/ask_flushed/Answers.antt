-- A flush comes between packets.
use Rattle.std.proofs.Common.{refl}
use Rattle.replay_host.proofs.CallLemmas.{quiet_called}
use Rattle.replay_host.proofs.ReadyLemmas.{between_is}
use Rattle.replay_host.proofs.asking.ask_flushed.Goals as goal

pub flush-requires-clause-none_begun : goal.flush-requires-clause-none_begun
flush-requires-clause-none_begun g c = between_is c.requires.ready.1.asked (g.W.Words.means.view c.args.table.now c.args.core.now.seat) c.requires.ready.1.loses c.requires.ready.1.accepted.0

pub returns : goal.returns
returns g c =
    let made = c.flush.ensures.call in
    record {
      called = quiet_called g.H.HelperOn.needs g.H.HelperOn.helps c.args.help.now made c.requires.going
          (g.met.H.HelperOn.needs_stay c.args.help.now c.args.table.now c.flush.new.table c.args.core.now.seat c.flush.new.self.seat made.quiet.step c.requires.needs) refl;
    }
