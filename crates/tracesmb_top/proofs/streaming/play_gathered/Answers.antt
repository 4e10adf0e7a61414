use Rattle.std.proofs.Common.{◌≡◌, ◌∙◌, [], ap, arith}
use Rattle.std.proofs.lemmas.Grind.{common_steps}
use Rattle.byte_io.specs.Bytes.{Intake, after_told}
use Rattle.byte_io.specs.Buffered.{buffered_loan, pending_bytes}
use Rattle.tracesmb_top.proofs.GatherLemmas.{lent_first, lent_whole, lent_front}
use Rattle.tracesmb_top.proofs.StreamLemmas.{took_loan}
use Rattle.tracesmb_top.proofs.streaming.play_gathered.Goals as goal

-- what was lent took the records, but for what waits; where a write failed, it took a front part of them
pub returns-clause-gathers : goal.returns-clause-gathers
returns-clause-gathers g c config made =
    let plays = c.play_stream.ensures.plays config made in
    let loan = buffered_loan c.new-gathered.result in
    let old : Intake = g.T.Sink.taken c.args.trace.now in
    let first : g.T.Sink.taken c.new-gathered.result.inner.now ≡ old = ap g.T.Sink.taken c.new-gathered.ensures.inner in
    let none : pending_bytes c.new-gathered.result.pending.now ≡ [] = ap pending_bytes c.new-gathered.ensures.pending ∙ c.requires.empty in
    let begun = lent_first loan _ _ _ first none in
    let same = took_loan loan (buffered_loan c.play_stream.new.out)
    (after_told (g.T.Sink.taken c.new-gathered.result.inner.now) (pending_bytes c.new-gathered.result.pending.now))
    (after_told (g.T.Sink.taken c.play_stream.new.out.inner.now) (pending_bytes c.play_stream.new.out.pending.now)) c.play_stream.ensures.took in
    let whole = lent_whole c.play_stream.result loan (buffered_loan c.play_stream.new.out) _ old
    (g.T.Sink.taken c.play_stream.new.out.inner.now) (pending_bytes c.play_stream.new.out.pending.now) _ begun
    c.play_stream.new.out.grown c.new-gathered.ensures.start plays.all in
    let front = lent_front c.play_stream.result loan (buffered_loan c.play_stream.new.out) _ old
    (g.T.Sink.taken c.play_stream.new.out.inner.now) (pending_bytes c.play_stream.new.out.pending.now) _ begun
    c.play_stream.new.out.grown c.new-gathered.ensures.start plays.part in
    record { counts = plays.counts; all = grind (arith, common_steps, same, whole); part = grind (arith, common_steps, same, front) }

-- the sink that was lent comes back, whatever came of it
pub returns-clause-count : goal.returns-clause-count
returns-clause-count g c =
    let same = took_loan (buffered_loan c.new-gathered.result) (buffered_loan c.play_stream.new.out)
    (after_told (g.T.Sink.taken c.new-gathered.result.inner.now) (pending_bytes c.new-gathered.result.pending.now))
    (after_told (g.T.Sink.taken c.play_stream.new.out.inner.now) (pending_bytes c.play_stream.new.out.pending.now)) c.play_stream.ensures.took in
    grind (arith, common_steps, same)

pub returns-clause-goes_on : goal.returns-clause-goes_on
returns-clause-goes_on g c =
    let same = took_loan (buffered_loan c.new-gathered.result) (buffered_loan c.play_stream.new.out)
    (after_told (g.T.Sink.taken c.new-gathered.result.inner.now) (pending_bytes c.new-gathered.result.pending.now))
    (after_told (g.T.Sink.taken c.play_stream.new.out.inner.now) (pending_bytes c.play_stream.new.out.pending.now)) c.play_stream.ensures.took in
    grind (arith, common_steps, same)
