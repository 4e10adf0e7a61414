use Rattle.std.proofs.Common.{◌∙◌, arith, rules}
use Rattle.trace_base.specs.declared.policy.FullPolicy.TheVariants.{Ring}
use Rattle.trace_buffer.specs.declared.answers.BufferCounts.{BufferCounts}
use Rattle.loss_report.specs.Report.{buffer_line}
use Rattle.loss_report.proofs.Writing.{lines_more, lines_fault}
use Rattle.loss_report.proofs.report.put_buffers.Goals as goal

none : BufferCounts
none = record { policy = Ring; bytes = 0; placed = 0; rewritten = 0; overwritten = 0; discarded = 0; unpatched = 0; padding = 0 }

pub returns-in_err-put_buffer-clause-part : goal.returns-in_err-put_buffer-clause-part
unfolding none
returns-in_err-put_buffer-clause-part g c =
    let part = lines_fault buffer_line (g.O.Sink.taken c.args.out.now) (g.O.Sink.taken c.loop-i.out) (g.O.Sink.taken c.put_buffer.new.out) 1 c.loop-i.i c.args.buffers.now none
    (omega arith) c.loop-i.invariant.taken c.in_err-put_buffer.ensures.part in
    search (rules, part)

pub loop-i-preserved : goal.loop-i-preserved
unfolding none
loop-i-preserved g c = record {
  taken = lines_more buffer_line (g.O.Sink.taken c.args.out.now) (g.O.Sink.taken c.loop-i.out) (g.O.Sink.taken c.put_buffer.new.out) 1 c.loop-i.i c.args.buffers.now none
      (omega arith) c.loop-i.invariant.taken c.in_ok-put_buffer.ensures.all;
  faults = c.in_ok-put_buffer.ensures.count ∙ c.loop-i.invariant.faults;
  may = c.in_ok-put_buffer.ensures.goes_on;
}
