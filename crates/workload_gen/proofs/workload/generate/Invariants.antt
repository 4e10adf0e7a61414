use Rattle.std.proofs.Common.{◌≡◌, ◌++◌}
use Rattle.byte_io.specs.Bytes.{TakesUpTo}
use Rattle.workload_gen.specs.Workload.{set_up_lines, packet_lines, state_after}
use Rattle.workload_gen.proofs.workload.generate.Given as goal

abbrev pub invariant-loop-k : goal.invariant-loop-k
invariant-loop-k g l = record {
  written : TakesUpTo (g.O.Sink.taken l.fn.out) (g.O.Sink.taken l.out) (set_up_lines l.writers ++ packet_lines l.number l.writers l.k) l.batch.items;
  count : g.O.Sink.faults l.out ≡ g.O.Sink.faults l.fn.out;
  may : g.O.Sink.may_write l.out;
  state : l.state ≡ state_after l.number l.k;
}
