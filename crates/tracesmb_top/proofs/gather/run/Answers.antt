use Rattle.byte_io.specs.Buffered.{pending_bytes}
use Rattle.scenario_text.specs.Scenario.{parts_of}
use Rattle.tracesmb_top.proofs.RunLemmas.{passed_run, passed_run_part}
use Rattle.tracesmb_top.proofs.gather.run.Goals as goal

pub returns-in-Ok-pass_on-clause-ends : goal.returns-in-Ok-pass_on-clause-ends
returns-in-Ok-pass_on-clause-ends g c =
    passed_run (parts_of c.args.scenario.now) c.in-Ok-run_gathered.done (g.T.Sink.taken c.args.trace.now)
    (g.T.Sink.taken c.run_gathered.new.trace) _ (pending_bytes c.run_gathered.new.pending) _ c.in-Ok-run_gathered.ensures.gathers c.pass_on.ensures.passed
    c.in-Ok-pass_on.ensures.all

pub returns-in-Ok-run_gathered-clause-ends : goal.returns-in-Ok-run_gathered-clause-ends
returns-in-Ok-run_gathered-clause-ends g c =
    passed_run_part (parts_of c.args.scenario.now) c.in-Ok-run_gathered.done (g.T.Sink.taken c.args.trace.now)
    (g.T.Sink.taken c.run_gathered.new.trace) _ (pending_bytes c.run_gathered.new.pending) _ c.in-Ok-run_gathered.ensures.gathers c.pass_on.ensures.passed
