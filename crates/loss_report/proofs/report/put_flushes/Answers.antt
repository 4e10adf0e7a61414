use Rattle.std.proofs.Common.{◌∙◌, ℕ, arith, rules}
use Rattle.loss_report.specs.Report.{flush_line}
use Rattle.loss_report.proofs.Writing.{lines_more, lines_fault}
use Rattle.loss_report.proofs.report.put_flushes.Goals as goal

none : ℕ
none = 0

pub returns-in_err-put_flush-clause-part : goal.returns-in_err-put_flush-clause-part
unfolding none
returns-in_err-put_flush-clause-part g c =
    let part = lines_fault flush_line (g.O.Sink.taken c.args.out.now) (g.O.Sink.taken c.loop-i.out) (g.O.Sink.taken c.put_flush.new.out) 1 c.loop-i.i c.args.flushes.now none
    (omega arith) c.loop-i.invariant.taken c.in_err-put_flush.ensures.part in
    search (rules, part)

pub loop-i-preserved : goal.loop-i-preserved
unfolding none
loop-i-preserved g c = record {
  taken = lines_more flush_line (g.O.Sink.taken c.args.out.now) (g.O.Sink.taken c.loop-i.out) (g.O.Sink.taken c.put_flush.new.out) 1 c.loop-i.i c.args.flushes.now none
      (omega arith) c.loop-i.invariant.taken c.in_ok-put_flush.ensures.all;
  faults = c.in_ok-put_flush.ensures.count ∙ c.loop-i.invariant.faults;
  may = c.in_ok-put_flush.ensures.goes_on;
}
