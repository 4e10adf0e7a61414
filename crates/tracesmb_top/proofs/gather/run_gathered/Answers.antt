use Rattle.std.proofs.Common.{◌≡◌, ◌∙◌, [], ap, arith}
use Rattle.std.proofs.lemmas.Grind.{common_steps}
use Rattle.byte_io.specs.Bytes.{Intake, after_told}
use Rattle.byte_io.specs.Buffered.{buffered_loan, pending_bytes}
use Rattle.scenario_text.specs.Scenario.{parts_of}
use Rattle.tracesmb_top.proofs.GatherLemmas.{lent_first}
use Rattle.tracesmb_top.proofs.RunLemmas.{run_gathered, same_loan}
use Rattle.tracesmb_top.proofs.gather.run_gathered.Goals as goal

-- what was lent took what was run, but for what waits
pub returns-clause-gathers : goal.returns-clause-gathers
returns-clause-gathers g c =
    let loan = buffered_loan c.new-gathered.result in
    let old : Intake = g.T.Sink.taken c.args.trace.now in
    let same : g.T.Sink.taken c.new-gathered.result.inner.now ≡ old = ap g.T.Sink.taken c.new-gathered.ensures.inner in
    let none : pending_bytes c.new-gathered.result.pending.now ≡ [] = ap pending_bytes c.new-gathered.ensures.pending ∙ c.requires.empty in
    let back = run_gathered (parts_of c.args.scenario.now) c.run.result loan (buffered_loan c.run.new.out) _ old
    (g.T.Sink.taken c.run.new.out.inner.now) (pending_bytes c.run.new.out.pending.now)
    (lent_first loan _ _ _ same none)
    c.run.new.out.grown c.new-gathered.ensures.start c.run.ensures.ends in
    grind (arith, common_steps, back)

-- the sink that was lent comes back also where a write failed
pub returns-clause-count : goal.returns-clause-count
returns-clause-count g c =
    let same = same_loan (buffered_loan c.new-gathered.result) (buffered_loan c.run.new.out)
    (after_told (g.T.Sink.taken c.new-gathered.result.inner.now) (pending_bytes c.new-gathered.result.pending.now))
    (after_told (g.T.Sink.taken c.run.new.out.inner.now) (pending_bytes c.run.new.out.pending.now)) c.run.ensures.stands in
    grind (arith, common_steps, same)
