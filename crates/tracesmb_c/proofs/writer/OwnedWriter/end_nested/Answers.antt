use Rattle.std.proofs.Common.{[], ◌∷◌}
use Rattle.trace_model.specs.Calls as call
use Rattle.tracesmb_c.proofs.CallLemmas.{goes, ready_again, quiet_noted}
use Rattle.tracesmb_c.proofs.writer.OwnedWriter.end_nested.Goals as goal

pub returns-clause-ready : goal.returns-clause-ready
returns-clause-ready c =
    ready_again c.args.self.now c.deref.result.now c.end_nested.new.self c.requires.ready c.deref.ensures c.end_nested.ensures.writes
    c.end_nested.ensures.call.route
    c.end_nested.ensures.call.quiet.step.place_stays

pub returns-clause-notes : goal.returns-clause-notes
returns-clause-notes c =
    quiet_noted c.args.self.now c.end_nested.new.self _ (call.Ended ∷ [])
    (goes c.drops_never_stall.ensures c.args.self.now c.requires.ready) c.end_nested.ensures.call

pub returns-clause-depth_falls : goal.returns-clause-depth_falls
returns-clause-depth_falls c = c.end_nested.ensures.depth_falls (goes c.drops_never_stall.ensures c.args.self.now c.requires.ready)
