use Rattle.std.proofs.Common.{◌≡◌}
use Rattle.buffer_clone.proofs.ReadingLemmas.{ReadsFirst}
use Rattle.buffer_clone.proofs.reading.read_each.Given as goal

abbrev pub invariant-loop-i : goal.invariant-loop-i
invariant-loop-i g l = record {
  reads : ReadsFirst l.fn.buffer l.buffer l.i l.left (g.O.Sink.taken l.fn.out) (g.O.Sink.taken l.out);
  faults : g.O.Sink.faults l.out ≡ g.O.Sink.faults l.fn.out;
  may : g.O.Sink.may_write l.out;
}
