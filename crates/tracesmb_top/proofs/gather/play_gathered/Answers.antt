use Rattle.std.proofs.Common.{◌≡◌, ◌∙◌, [], ap, arith}
use Rattle.std.proofs.lemmas.Grind.{common_steps}
use Rattle.byte_io.specs.Bytes.{Intake}
use Rattle.byte_io.specs.Buffered.{buffered_loan, pending_bytes}
use Rattle.scenario_text.specs.Scenario.{parts_of}
use Rattle.tracesmb_top.proofs.GatherLemmas.{lent_first, gathered}
use Rattle.tracesmb_top.proofs.gather.play_gathered.Goals as goal

-- what was lent took what was played, but for what waits
pub returns-clause-gathers : goal.returns-clause-gathers
returns-clause-gathers g c =
    let loan = buffered_loan c.new-gathered.result in
    let old : Intake = g.T.Sink.taken c.args.trace.now in
    let same : g.T.Sink.taken c.new-gathered.result.inner.now ≡ old = ap g.T.Sink.taken c.new-gathered.ensures.inner in
    let none : pending_bytes c.new-gathered.result.pending.now ≡ [] = ap pending_bytes c.new-gathered.ensures.pending ∙ c.requires.empty in
    let back = gathered (parts_of c.args.scenario.now) c.replay.result loan (buffered_loan c.replay.new.out) _ old
    (g.T.Sink.taken c.replay.new.out.inner.now) (pending_bytes c.replay.new.out.pending.now)
    (lent_first loan _ _ _ same none)
    c.replay.new.out.grown c.new-gathered.ensures.start c.replay.ensures.done c.replay.ensures.stops in
    grind (arith, common_steps, back)
