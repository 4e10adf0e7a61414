use Rattle.std.proofs.Common.{◌++◌, arith}
use Rattle.std.proofs.lemmas.Grind.{common_steps}
use Rattle.byte_io.specs.Bytes.{Intake}
use Rattle.byte_io.specs.Buffered.{buffered_loan, pending_bytes}
use Rattle.byte_io.proofs.Lent.{lent_part}
use Rattle.byte_io_rows.proofs.ends.lend_both.Goals as goal

pub returns-clause-part : goal.returns-clause-part
returns-clause-part g c =
    let old : Intake = g.T.Sink.taken c.args.trace.now in
    let new : Intake = g.T.Sink.taken c.put_both.new.out.inner.now in
    let back = lent_part (buffered_loan c.new-buffered.result) (buffered_loan c.put_both.new.out) old new (pending_bytes c.put_both.new.out.pending.now) (c.args.first.now ++ c.args.second.now)
    c.new-buffered.ensures.start c.put_both.new.out.grown in
    grind (arith, common_steps, back)
