use Rattle.std.proofs.Common.{◌≡◌}
use Rattle.trace_summary.proofs.LineLemmas.{HasWritten}
use Rattle.trace_summary.proofs.put.put_summary.Given as goal

abbrev pub invariant-lines : goal.invariant-lines
invariant-lines g l = record {
  written : HasWritten (g.O.Sink.taken l.fn.out) (g.O.Sink.taken l.out) l.summary l.sequence-iterator;
  steady : g.O.Sink.faults l.out ≡ g.O.Sink.faults l.fn.out;
  may : g.O.Sink.may_write l.out;
}
