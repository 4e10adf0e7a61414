-- The pieces of a line stand one behind another.
use Rattle.std.proofs.Common.{◌+◌, ◌*◌, ◌%◌, decimal}
use Rattle.workload_gen.specs.Workload.{packet_line, IsAdded}
use Rattle.workload_gen.proofs.PieceLemmas.{both_added}
use Rattle.workload_gen.proofs.batch.add_line.Goals as goal

pub returns : goal.returns
unfolding packet_line
returns c =
    let time : IsAdded c.add-2.new.batch.items (decimal (c.args.k * 100 + c.args.drawn % 100)) c.add_number-2.new.batch.items =
    simp (c.from.ensures, c.from-2.ensures) at c.add_number-2.ensures.text in
    both_added (both_added (both_added (both_added (both_added (both_added (both_added (both_added (both_added (both_added c.add.ensures.text c.add_number.ensures.text) c.add-2.ensures.text) time) c.add-3.ensures.text) c.add-4.ensures.text) c.add-5.ensures.text) c.add_number-3.ensures.text) c.add-6.ensures.text) c.add_number-4.ensures.text) c.add-7.ensures.text
