use Rattle.std.proofs.Common.{◌≡◌, ◌<◌, ℕ, false, length, slice_index_or}
use Rattle.trace_base.specs.declared.limits.TheConstants.{MAX_WRITERS}
use Rattle.service_core.specs.Agreement.{is_closed_in}
use Rattle.service_core.proofs.service.ServiceCore.closed_writers.Given as goal

abbrev pub invariant-loop-place : goal.invariant-loop-place
invariant-loop-place g l = record {
  long : length l.closed ≡ MAX_WRITERS;
  done : (place : ℕ) → place < l.place → slice_index_or l.closed place false ≡ is_closed_in l.self place;
}
