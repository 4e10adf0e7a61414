-- The writers before this one have answered.
use Rattle.std.proofs.Common.{◌≡◌, List, ◌++◌, vec_len}
use Rattle.chunk_plain.specs.Setup.{Setup}
use Rattle.chunk_plain.specs.Views.{ServiceView}
use Rattle.service_core.specs.Agreement.{ServiceAgrees}
use Rattle.replay_model.specs.ActNotes.{ActNote}
use Rattle.replay_host.specs.Counting.{answers_to}
use Rattle.replay_host.specs.Tally.{IsTally}
use Rattle.replay_host.proofs.counting.answer_for_rest.Given as goal

abbrev pub invariant-loop-place : goal.invariant-loop-place
invariant-loop-place g l = record {
  made : l.flushes.made ≡ l.fn.flushes.made;
  room : vec_len l.flushes.chunks ≡ vec_len l.fn.flushes.chunks;
  told : l.flushes.answers ≡ l.fn.flushes.answers;
  tally : (notes : List ActNote) (setup : Setup) (view : ServiceView) → IsTally notes l.writers l.fn.flushes
      → ServiceAgrees setup view l.service
      → IsTally (notes ++ answers_to view l.place) l.writers l.flushes;
}
