use Rattle.std.proofs.Common.{◌≡◌, ◌∙◌, [], ap, arith}
use Rattle.std.proofs.lemmas.Grind.{common_steps}
use Rattle.byte_io.specs.Bytes.{Intake}
use Rattle.byte_io.specs.Buffered.{buffered_loan, pending_bytes}
use Rattle.tracesmb_top.proofs.GatherLemmas.{lent_first, lent_whole, lent_front}
use Rattle.tracesmb_top.proofs.cloning.read_gathered.Goals as goal

-- what was lent took the records, but for what waits
pub returns-clause-all : goal.returns-clause-all
returns-clause-all g c =
    let loan = buffered_loan c.new-gathered.result in
    let old : Intake = g.T.Sink.taken c.args.trace.now in
    let same : g.T.Sink.taken c.new-gathered.result.inner.now ≡ old = ap g.T.Sink.taken c.new-gathered.ensures.inner in
    let none : pending_bytes c.new-gathered.result.pending.now ≡ [] = ap pending_bytes c.new-gathered.ensures.pending ∙ c.requires.empty in
    let back = lent_whole c.read_clones.result loan (buffered_loan c.read_clones.new.out) _ old
    (g.T.Sink.taken c.read_clones.new.out.inner.now) (pending_bytes c.read_clones.new.out.pending.now) _
    (lent_first loan _ _ _ same none)
    c.read_clones.new.out.grown c.new-gathered.ensures.start c.read_clones.ensures.all in
    grind (arith, common_steps, back)

-- where a write failed, it took a front part of it
pub returns-clause-part : goal.returns-clause-part
returns-clause-part g c =
    let loan = buffered_loan c.new-gathered.result in
    let old : Intake = g.T.Sink.taken c.args.trace.now in
    let same : g.T.Sink.taken c.new-gathered.result.inner.now ≡ old = ap g.T.Sink.taken c.new-gathered.ensures.inner in
    let none : pending_bytes c.new-gathered.result.pending.now ≡ [] = ap pending_bytes c.new-gathered.ensures.pending ∙ c.requires.empty in
    let back = lent_front c.read_clones.result loan (buffered_loan c.read_clones.new.out) _ old
    (g.T.Sink.taken c.read_clones.new.out.inner.now) (pending_bytes c.read_clones.new.out.pending.now) _
    (lent_first loan _ _ _ same none)
    c.read_clones.new.out.grown c.new-gathered.ensures.start c.read_clones.ensures.part in
    grind (arith, common_steps, back)
