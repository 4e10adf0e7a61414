use Rattle.byte_io.specs.Buffered.{pending_bytes}
use Rattle.scenario_text.specs.Scenario.{parts_of}
use Rattle.tracesmb_top.proofs.GatherLemmas.{passed_all, passed_part, passed_stall, passed_stall_part}
use Rattle.tracesmb_top.proofs.gather.play.Goals as goal

pub returns-in-Ok-pass_on-clause-plays : goal.returns-in-Ok-pass_on-clause-plays
returns-in-Ok-pass_on-clause-plays g c =
    passed_all (parts_of c.args.scenario.now) c.in-Ok-play_gathered.done (g.T.Sink.taken c.args.trace.now)
    (g.T.Sink.taken c.play_gathered.new.trace) _ (pending_bytes c.play_gathered.new.pending) _ c.in-Ok-play_gathered.ensures.gathers c.pass_on.ensures.passed
    c.in-Ok-pass_on.ensures.all

pub returns-in-Ok-play_gathered-clause-plays : goal.returns-in-Ok-play_gathered-clause-plays
returns-in-Ok-play_gathered-clause-plays g c =
    passed_part (parts_of c.args.scenario.now) c.in-Ok-play_gathered.done (g.T.Sink.taken c.args.trace.now)
    (g.T.Sink.taken c.play_gathered.new.trace) _ (pending_bytes c.play_gathered.new.pending) _ c.in-Ok-play_gathered.ensures.gathers c.pass_on.ensures.passed

pub returns-in-Ok-pass_on-2-clause-plays : goal.returns-in-Ok-pass_on-2-clause-plays
returns-in-Ok-pass_on-2-clause-plays g c =
    passed_stall (parts_of c.args.scenario.now) c.in-Err-Stalled.writer (g.T.Sink.taken c.args.trace.now)
    (g.T.Sink.taken c.play_gathered.new.trace) _ (pending_bytes c.play_gathered.new.pending) _
    (rw c.in-Err-Stalled.field-0-is at c.in-Err-Stalled.ensures).gathers c.pass_on-in-Err-Stalled.ensures.passed
    c.in-Ok-pass_on-2.ensures.all

pub returns-in-Err-Stalled-clause-plays : goal.returns-in-Err-Stalled-clause-plays
returns-in-Err-Stalled-clause-plays g c =
    passed_stall_part (parts_of c.args.scenario.now) c.in-Err-Stalled.writer (g.T.Sink.taken c.args.trace.now)
    (g.T.Sink.taken c.play_gathered.new.trace) _ (pending_bytes c.play_gathered.new.pending) _
    (rw c.in-Err-Stalled.field-0-is at c.in-Err-Stalled.ensures).gathers c.pass_on-in-Err-Stalled.ensures.passed
