use Rattle.std.proofs.Common.{◌≡◌, ◌+◌, ◌≤◌, ◌++◌, length, map}
use Rattle.commit_body.specs.Patches.{patch_value, hole_chunks, with_lasts}
use Rattle.commit_body.proofs.patch_list.marked.Given as goal
use Rattle.trace_model.specs.Ids.{placed_patches}

-- the patches so far, and the marked form of those that are left
abbrev pub invariant-loop-patch : goal.invariant-loop-patch
invariant-loop-patch l = record {
  marks :
      placed_patches l.from (map patch_value l.marked.items) ++ with_lasts (hole_chunks l.holes) (map patch_value l.rest)
      ≡ with_lasts (hole_chunks l.holes) (map patch_value l.unsent);
  room : length l.marked.items + length l.rest ≤ 16;
}

abbrev pub decreases-loop-patch : goal.decreases-loop-patch
decreases-loop-patch l = length l.rest
