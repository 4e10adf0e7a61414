use Rattle.std.proofs.Common.{◌≡◌, ℕ, ◌≤◌, Some, slice_get, length}
use Rattle.std.specs.Prelude.{vec_capacity}
use Rattle.chunk_plain.specs.declared.plain_seats.PlainWriter.{PlainWriter}
use Rattle.chunk_plain.specs.contracts.plain_words.PlainTableWords.TheImpl.{ghosts as plain}
use Rattle.trace_writer.specs.declared.writer.WriterCore.{WriterCore}
use Rattle.replay_host.specs.Making.{IsNewcomer}
use Rattle.replay_host.proofs.making.fill_writers.Given as goal

abbrev pub invariant-loop-place : goal.invariant-loop-place
invariant-loop-place l = record {
  many : length l.writers.items ≡ l.place;
  room : length l.specs ≤ vec_capacity l.writers;
  made : (place : ℕ) (core : WriterCore PlainWriter) → slice_get l.writers.items place ≡ Some core
      → IsNewcomer (plain.means.setup l.table) place core;
}
