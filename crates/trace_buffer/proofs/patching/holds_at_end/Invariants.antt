use Rattle.std.proofs.Common.{◌≡◌}
use Rattle.commit_body.specs.Patches.{patch_value}
use Rattle.trace_model.specs.Images as model
use Rattle.trace_buffer.specs.Patching.{holds_behind}
use Rattle.trace_buffer.proofs.patching.holds_at_end.Given as goal

abbrev pub invariant-loop-fragment : goal.invariant-loop-fragment
invariant-loop-fragment l =
    holds_behind l.holds l.fragment-iterator (patch_value l.patch)
    ≡ model.last_holds l.initial.fragment-iterator (patch_value l.patch)
