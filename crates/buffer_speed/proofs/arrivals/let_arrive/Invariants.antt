use Rattle.std.proofs.Common.{◌≡◌, ◌≤◌, false, length}
use Rattle.trace_model.specs.Sequences.{sequence_in}
use Rattle.trace_buffer.specs.Ready.{Takes}
use Rattle.buffer_speed.proofs.arrivals.let_arrive.Given as goal

abbrev pub invariant-loop-chunk_id : goal.invariant-loop-chunk_id
invariant-loop-chunk_id l = record {
  takes : Takes l.buffer 284 2;
  stays_open : (sequence_in l.buffer.sequences 2).closed ≡ false;
  few : l.kept ≤ l.chunk_id;
  payload : length l.payload.items ≡ 284;
}
