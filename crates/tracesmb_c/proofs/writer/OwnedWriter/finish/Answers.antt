use Rattle.std.proofs.Common.{[], ◌∷◌}
use Rattle.trace_model.specs.Calls as call
use Rattle.tracesmb_c.proofs.CallLemmas.{goes, ready_again, quiet_noted}
use Rattle.tracesmb_c.proofs.writer.OwnedWriter.finish.Goals as goal

pub returns-clause-ready : goal.returns-clause-ready
returns-clause-ready c =
    ready_again c.args.self.now c.deref.result.now c.finish.new.self c.requires.ready c.deref.ensures c.finish.ensures.writes
    c.finish.ensures.call.route
    c.finish.ensures.call.quiet.step.place_stays

pub returns-clause-notes : goal.returns-clause-notes
returns-clause-notes c =
    quiet_noted c.args.self.now c.finish.new.self _ (call.Finished ∷ [])
    (goes c.drops_never_stall.ensures c.args.self.now c.requires.ready) c.finish.ensures.call

pub returns-clause-none_begun : goal.returns-clause-none_begun
returns-clause-none_begun c = c.finish.ensures.in_packet (goes c.drops_never_stall.ensures c.args.self.now c.requires.ready)
