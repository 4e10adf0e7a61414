-- The writers before this one have completed at most as many chunks as there are ids.
use Rattle.std.proofs.Common.{◌≡◌, ℕ, ◌<◌, ◌≤◌, length}
use Rattle.std.specs.Prelude.{slice_get, Some}
use Rattle.chunk_plain.specs.declared.tokens.TheConstants.{POSITION_LIMIT}
use Rattle.chunk_plain.specs.Histories.{completed_images}
use Rattle.chunk_plain.specs.Setup.{Setup}
use Rattle.chunk_plain.specs.Views.{WriterView}
use Rattle.trace_writer.specs.declared.writer.WriterCore.{WriterCore}
use Rattle.trace_writer.specs.Core.{CoreAgrees}
use Rattle.replay_host.proofs.ids.ids_fit.Given as goal

abbrev pub invariant-loop-i : goal.invariant-loop-i
invariant-loop-i g l = (place : ℕ) (core : WriterCore _) → place < l.i → slice_get l.writers place ≡ Some core
    → (setup : Setup) (view : WriterView)
    → CoreAgrees setup place view core → length (completed_images view.begun) ≤ POSITION_LIMIT
