-- The clones before this one were read, and what each delivers is counted.
use Rattle.std.proofs.Common.{◌≡◌, map, take, drop}
use Rattle.byte_io.specs.Bytes.{TakesUpTo}
use Rattle.tracesmb_top.specs.declared.cloning.CloneCount.{CloneCount}
use Rattle.tracesmb_top.specs.Cloned.{clone_counts, clones_trace}
use Rattle.tracesmb_top.proofs.cloning.read_clones.Given as goal

abbrev pub invariant-loop-index : goal.invariant-loop-index
invariant-loop-index g l = record {
  taken : TakesUpTo (g.O.Sink.taken l.fn.out) (g.O.Sink.taken l.out) (clones_trace l.fn.clones) (clones_trace (drop l.index l.fn.clones));
  counted : take l.index l.counts ≡ clone_counts (map (λ (count : CloneCount). count.buffer) (take l.index l.fn.counts)) (take l.index l.fn.clones);
  -- the others are as they were
  unread : drop l.index l.clones ≡ drop l.index l.fn.clones;
  uncounted : drop l.index l.counts ≡ drop l.index l.fn.counts;
  steady : g.O.Sink.faults l.out ≡ g.O.Sink.faults l.fn.out;
  may : g.O.Sink.may_write l.out;
}
