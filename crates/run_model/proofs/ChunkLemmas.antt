-- What a writer completed and nobody took until the threads are done is in chunks of its own: so of a producer that nobody has collected each
-- chunk is used once at most.
use Rattle.std.proofs.Common.{◌≡◌, ◌∙◌, ℕ, ◌<◌, ◌≤◌, inl, inr, Bool, List, length, sym, ap, arith}
use Rattle.std.proofs.Math.Logic.{∥∥₁_elim}
use Rattle.std.proofs.Math.Nat.{ℕ_set}
use Rattle.trace_model.specs.Delivery.{Delivered}
use Rattle.chunk_plain.specs.Setup.{Setup}
use Rattle.chunk_plain.specs.Views.{At, Content, Completed, taken_of}
use Rattle.chunk_plain.specs.World.{World, Status, Ready, status, writer}
use Rattle.chunk_plain.specs.Owned.{IsOwned}
use Rattle.chunk_plain.specs.Plain.{first_world}
use Rattle.chunk_plain.proofs.MadeLemmas.{first_owned}
use Rattle.chunk_schedules.specs.Moves.{Move}
use Rattle.chunk_schedules.specs.Schedules.{IsSchedule}
use Rattle.chunk_schedules.proofs.ScheduleLemmas.{schedules_keep_ownership}
use Rattle.scenario_text.specs.Scenario.{Parts}
use Rattle.run_model.proofs.LineLemmas.{lines_take_at_most}
use Rattle.run_model.specs.Collected.{CollectedByLines}
use Rattle.run_model.specs.Laws.{LeftAreApart, LeftChunksAreApart, UsesOnce, UncollectedChunksAreUsedOnce}
use Rattle.run_model.specs.Settled.{HasDoneAll}
use Rattle.run_model.specs.Stopped.{StopsBefore}
use Rattle.run_model.proofs.CollectedLemmas.{none_taken}

-- whose complete chunk it is, and at which position
abbrev ready_writer : Status → ℕ
ready_writer (Ready place id content) = place
ready_writer _ = 0

abbrev ready_id : Status → ℕ
ready_id (Ready place id content) = id
ready_id _ = 0

module _ (scenario : Parts) (setup : Setup) (world : World) (closed : Bool) (done : HasDoneAll scenario setup world closed) where
  -- a chunk that the writer has completed waits for the service once the threads are done, where it wasn't taken by then
  waits : (moves : List Move) → IsSchedule setup (first_world setup) moves done.stood → (place id chunk : ℕ) (content : Content) → place < length setup.writers
      → (taken_of done.stood.service place).count ≤ id
      → At (writer world place).begun id (Completed chunk content) → status done.stood chunk ≡ Ready place id content
  waits moves schedule place id chunk content inside left at =
      let owned : IsOwned done.stood = (schedules_keep_ownership setup (first_world setup) done.stood moves (first_owned setup) schedule).0 in
      (owned.owns place chunk).completed_is id content (done.completed place inside id chunk content at) left

  pub left_are_apart : LeftAreApart setup done.stood world
  left_are_apart place other id more chunk content known inside within left beside at there = (
    ∥∥₁_elim done.reached (ℕ_set _ _) (λ (one : (moves : List Move) × IsSchedule setup (first_world setup) moves done.stood). ap ready_writer (same one)),
    ∥∥₁_elim done.reached (ℕ_set _ _) (λ (one : (moves : List Move) × IsSchedule setup (first_world setup) moves done.stood). ap ready_id (same one)),
  )
    where
      same : (moves : List Move) × IsSchedule setup (first_world setup) moves done.stood → Ready place id content ≡ Ready other more known
      same one = sym (waits one.0 one.1 place id chunk content inside left at) ∙ waits one.0 one.1 other more chunk known within beside there

  pub uses_once : CollectedByLines setup scenario.lines done.stood.service → UsesOnce setup scenario.lines world
  uses_once collected place other id more chunk content known inside within none neither at there =
      let untaken = none_taken setup scenario.lines done.stood.service collected place inside none in
      let either = none_taken setup scenario.lines done.stood.service collected other within neither in
      left_are_apart place other id more chunk content known inside within (omega (arith, untaken)) (omega (arith, either)) at there

pub left_chunks_are_apart : LeftChunksAreApart
left_chunks_are_apart = record {
  run = λ scenario setup world run. left_are_apart scenario setup world _ run.before.done;
  in_lines = λ scenario setup world next stops. left_are_apart scenario setup world _ stops.done;
  in_end = λ scenario setup world next stops. left_are_apart scenario setup world _ stops.before.done;
}

pub uncollected_chunks_are_used_once : UncollectedChunksAreUsedOnce
uncollected_chunks_are_used_once = record {
  run = λ scenario setup world run. uses_once scenario setup world _ run.before.done (lines_take_at_most.run _ setup world run);
  stopped = stopped;
}
  where
    stopped : (scenario : Parts) (setup : Setup) (world : World) (next : Delivered) → StopsBefore scenario setup world next → UsesOnce setup scenario.lines world
    stopped scenario setup world next (inl lines) = uses_once scenario setup world _ lines.done (lines_take_at_most.in_lines scenario setup world next lines)
    stopped scenario setup world next (inr ends) = uses_once scenario setup world _ ends.before.done (lines_take_at_most.in_end scenario setup world next ends)
