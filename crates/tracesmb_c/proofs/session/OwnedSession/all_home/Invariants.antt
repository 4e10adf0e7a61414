-- The writers before this one are home.
use Rattle.std.proofs.Common.{◌≡◌, ℕ, ◌<◌, Some}
use Rattle.std.specs.Prelude.{slice_get}
use Rattle.thread_writer.specs.declared.writer.TraceWriter.{TraceWriter}
use Rattle.tracesmb_c.proofs.session.OwnedSession.all_home.Given as goal

abbrev pub invariant-homes : goal.invariant-homes
invariant-homes l = record {
  home : (place : ℕ) → place < l.place → (writer : TraceWriter) × (slice_get l.self.homes.items place ≡ Some (Some writer));
}
