-- So many producers are there, all alike.
use Rattle.std.proofs.Common.{◌≡◌, ℕ, Some, length}
use Rattle.std.specs.Prelude.{slice_get}
use Rattle.chunk_plain.specs.declared.setup.ProducerSpec.{ProducerSpec}
use Rattle.tracesmb_c.proofs.planning.producers_of.Given as goal

abbrev pub invariant-producers : goal.invariant-producers
invariant-producers l = record {
  many : length l.producers.items ≡ l.index;
  each : (place : ℕ) (one : ProducerSpec) → slice_get l.producers.items place ≡ Some one → one ≡ l.fn.spec;
}
