use Rattle.std.proofs.Common.{[], ◌∷◌}
use Rattle.trace_model.specs.Calls as call
use Rattle.tracesmb_c.proofs.CallLemmas.{goes, ready_again, quiet_noted}
use Rattle.tracesmb_c.proofs.writer.OwnedWriter.flush.Goals as goal

pub returns-clause-ready : goal.returns-clause-ready
returns-clause-ready c =
    ready_again c.args.self.now c.deref.result.now c.flush.new.self c.requires.ready c.deref.ensures c.flush.ensures.writes
    c.flush.ensures.call.route
    c.flush.ensures.call.quiet.step.place_stays

pub returns-clause-notes : goal.returns-clause-notes
returns-clause-notes c =
    quiet_noted c.args.self.now c.flush.new.self _ (call.Flushed ∷ [])
    (goes c.drops_never_stall.ensures c.args.self.now c.requires.ready) c.flush.ensures.call
