use Rattle.std.proofs.Common.{◌∙◌, arith, rules}
use Rattle.loss_report.specs.declared.counts.SequenceCounts.{SequenceCounts}
use Rattle.loss_report.specs.Report.{sequence_line}
use Rattle.loss_report.proofs.Writing.{lines_more, lines_fault}
use Rattle.loss_report.proofs.report.put_sequences.Goals as goal

none : SequenceCounts
none = record { begun = 0; delivered = 0; dropped = 0; overwritten = 0; discarded = 0; cut = 0 }

pub returns-in_err-put_sequence-clause-part : goal.returns-in_err-put_sequence-clause-part
unfolding none
returns-in_err-put_sequence-clause-part g c =
    let part = lines_fault sequence_line (g.O.Sink.taken c.args.out.now) (g.O.Sink.taken c.loop-i.out) (g.O.Sink.taken c.put_sequence.new.out) 2 c.loop-i.i c.args.sequences.now none
    (omega arith) c.loop-i.invariant.taken c.in_err-put_sequence.ensures.part in
    search (rules, part)

pub loop-i-preserved : goal.loop-i-preserved
unfolding none
loop-i-preserved g c = record {
  taken = lines_more sequence_line (g.O.Sink.taken c.args.out.now) (g.O.Sink.taken c.loop-i.out) (g.O.Sink.taken c.put_sequence.new.out) 2 c.loop-i.i c.args.sequences.now none
      (omega arith) c.loop-i.invariant.taken c.in_ok-put_sequence.ensures.all;
  faults = c.in_ok-put_sequence.ensures.count ∙ c.loop-i.invariant.faults;
  may = c.in_ok-put_sequence.ensures.goes_on;
}
