use Rattle.std.proofs.Common.{◌≡◌, ◌-◌}
use Rattle.sequence_reader.proofs.RunLemmas.{IsRunning}
use Rattle.sequence_reader.proofs.run.put_run.Given as goal

abbrev pub invariant-loop-progress : goal.invariant-loop-progress
invariant-loop-progress g l = record {
  running : IsRunning l.buffer l.bounds l.limit l.key l.payload (g.O.Sink.taken l.fn.out) (g.O.Sink.taken l.out) l.fn.progress l.progress;
  chunk : l.progress.at.chunk_id ≡ l.chunk_id;
  faults : g.O.Sink.faults l.out ≡ g.O.Sink.faults l.fn.out;
  may : g.O.Sink.may_write l.out;
}

abbrev pub decreases-loop-progress : goal.decreases-loop-progress
decreases-loop-progress g l = l.limit - l.progress.delivered
