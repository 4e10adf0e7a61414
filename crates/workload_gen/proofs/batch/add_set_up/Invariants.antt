use Rattle.std.proofs.Common.{◌≡◌, ◌+◌, ◌*◌, ◌++◌, codes}
use Rattle.arrayvec.specs.ArrayVec.{array_vec_len}
use Rattle.workload_gen.specs.Workload.{repeated}
use Rattle.workload_gen.proofs.batch.add_set_up.Given as goal

abbrev pub invariant-loop-writer : goal.invariant-loop-writer
invariant-loop-writer l = record {
  text : l.batch.items ≡ codes "buffer 65536 ring\nproducer 16 4096 14\n" ++ repeated l._writer (codes "writer 1 1 stall\n");
  len : array_vec_len l.batch ≡ 38 + 17 * l._writer;
}
