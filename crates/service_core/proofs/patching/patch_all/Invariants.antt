use Rattle.std.proofs.Common.{◌≡◌, true, drop, map}
use Rattle.commit_body.specs.Patches.{patch_value}
use Rattle.trace_model.specs.Sequences.{is_known}
use Rattle.trace_model.specs.Patches.{with_patches}
use Rattle.trace_model.specs.Ids.{placed_patches}
use Rattle.service_core.proofs.patching.patch_all.Given as goal
use Rattle.trace_buffer.specs.Calls.{from_in}

abbrev pub invariant-loop-patch : goal.invariant-loop-patch
invariant-loop-patch l = record {
  known : is_known l.buffer.sequences l.sequence ≡ true;
  from : from_in l.buffer l.sequence ≡ from_in l.fn.buffer l.sequence;
  rest : with_patches l.buffer l.sequence (placed_patches (from_in l.fn.buffer l.sequence) (map patch_value (drop l.patch-index l.patches)))
      ≡ with_patches l.fn.buffer l.sequence (placed_patches (from_in l.fn.buffer l.sequence) (map patch_value l.patches));
}
