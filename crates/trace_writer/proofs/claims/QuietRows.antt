-- Quiet steps of a writer in a row.
use Rattle.std.proofs.Common.{◌≡◌, ◌∙◌, refl, sym, subst}
use Rattle.chunk_plain.specs.Meaning.{Meaning}
use Rattle.chunk_plain.proofs.SeatSteps.{stays, steps_follow}
use Rattle.trace_writer.specs.OwnSteps.{IsQuiet, IsSilent}
use Rattle.trace_writer.proofs.holding.KeptChunks.{keeps_same, keeps_both, frees_same, frees_both}

module _ {T W S : Type 0} (means : Meaning T W S) where
  pub quiet_none : (table : T) (seat : W) → means.sits table seat → IsQuiet means table seat table seat
  quiet_none table seat there = record {
    step = stays means table seat there;
    asked = refl;
    claimed = refl;
    stamped = refl;
    chunks = keeps_same (means.view table seat).begun;
    frees_none = frees_same means.told table;
  }

  pub quiet_both : (old : T) (before : W) (mid : T) (between : W) (new : T) (after : W) → IsQuiet means old before mid between
      → IsQuiet means mid between new after → IsQuiet means old before new after
  quiet_both old before mid between new after one two = record {
    step = steps_follow means old before mid between new after one.step two.step;
    asked = two.asked ∙ one.asked;
    claimed = two.claimed ∙ one.claimed;
    stamped = two.stamped ∙ one.stamped;
    chunks = keeps_both (means.view old before).begun (means.view mid between).begun (means.view new after).begun one.chunks two.chunks;
    frees_none = frees_both means.told old mid new one.frees_none two.frees_none;
  }

  pub silent_none : (table : T) (seat : W) → means.sits table seat → IsSilent means table seat table seat
  silent_none table seat there = record { quiet = quiet_none table seat there; calls = refl }

  pub silent_both : (old : T) (before : W) (mid : T) (between : W) (new : T) (after : W) → IsSilent means old before mid between
      → IsSilent means mid between new after → IsSilent means old before new after
  silent_both old before mid between new after one two =
      record { quiet = quiet_both old before mid between new after one.quiet two.quiet; calls = two.calls ∙ one.calls }

  -- the same under other names
  pub quiet_there : (old : T) (seat : W) {new same_new : T} {after same_after : W} → new ≡ same_new → after ≡ same_after
      → IsQuiet means old seat same_new same_after → IsQuiet means old seat new after
  quiet_there old seat {new} {same_new} {after} {same_after} new_is after_is quiet =
      subst (λ (t : T). IsQuiet means old seat t after) (sym new_is)
      (subst (λ (w : W). IsQuiet means old seat same_new w) (sym after_is) quiet)
