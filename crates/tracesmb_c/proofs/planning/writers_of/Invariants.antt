-- So many writers are planned.
use Rattle.std.proofs.Common.{◌≡◌, ℕ, Some, length}
use Rattle.std.specs.Prelude.{slice_get}
use Rattle.trace_base.specs.declared.policy.WriterSpec.{WriterSpec}
use Rattle.tracesmb_c.specs.Planning.{planned_writer}
use Rattle.tracesmb_c.proofs.planning.writers_of.Given as goal

abbrev pub invariant-writers : goal.invariant-writers
invariant-writers l = record {
  many : length l.writers.items ≡ l.place;
  each : (place : ℕ) (spec : WriterSpec) → slice_get l.writers.items place ≡ Some spec → spec ≡ planned_writer l.producers place;
}
