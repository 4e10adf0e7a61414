-- The writers before this one have answered.
use Rattle.std.proofs.Common.{◌≡◌, ℕ, ◌<◌, ◌≤◌, List, [], ◌∷◌, length}
use Rattle.std.specs.Prelude.{slice_get, Some}
use Rattle.trace_model.specs.Calls.{Flushed}
use Rattle.chunk_plain.specs.Letters.{last_flush}
use Rattle.chunk_plain.specs.Views.{asked_in}
use Rattle.chunk_words.specs.Sits.{Passes, known_by_pass}
use Rattle.run_model.specs.Settled.{last_flushes}
use Rattle.scenario_text.specs.declared.scenario.NumberedLine.{NumberedLine}
use Rattle.thread_writer.specs.declared.writer.TraceWriter.{TraceWriter}
use Rattle.thread_writer.specs.Writing.{view_in}
use Rattle.thread_host.specs.Hosts.{HasPlayed, HavePlayed}
use Rattle.thread_host.proofs.answering.answer_all.Given as goal

abbrev pub invariant-writers : goal.invariant-writers
invariant-writers l = record {
  many : length l.writers ≡ length l.fn.writers;
  pass : Passes l.table l.pass;
  known : known_by_pass l.pass ≡ known_by_pass l.fn.pass;
  done : (lines : List NumberedLine) → HavePlayed lines (Flushed ∷ []) l.table l.fn.writers → (place : ℕ) (writer : TraceWriter) → place < l.place
      → slice_get l.writers place ≡ Some writer → HasPlayed lines last_flushes l.table place writer;
  left : (place : ℕ) (writer : TraceWriter) → l.place ≤ place → slice_get l.writers place ≡ Some writer → slice_get l.fn.writers place ≡ Some writer;
  answered : (place : ℕ) (writer : TraceWriter) → place < l.place → slice_get l.writers place ≡ Some writer
      → asked_in (known_by_pass l.fn.pass).letters ≤ last_flush (view_in writer).letters.answers;
}
