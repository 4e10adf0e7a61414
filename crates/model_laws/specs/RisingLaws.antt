-- What a buffer knows of a sequence's positions are rising lists: so it depends on which they are, and not on the order in which
-- they came. And a second close of a sequence changes nothing.
use Rattle.std.specs.Prelude.{◌≡◌, ℕ, ◌==◌, ◌<◌, ◌||◌, true, List, [], ◌∷◌, ⊤}
use Rattle.trace_model.specs.Sequences.{Sequence, is_among, with_number, rising, is_known}
use Rattle.trace_model.specs.Buffers.{Buffer}
use Rattle.trace_model.specs.Patches.{with_close}
use Rattle.trace_model.specs.History.{Event, state_after}

-- each number is above the one before
abbrev pub IsRising : List ℕ → Type 0
IsRising [] = ⊤
IsRising (n ∷ []) = ⊤
IsRising (n ∷ next ∷ numbers) = (n < next) × IsRising (next ∷ numbers)

-- of each sequence, the positions that arrived and the final ones
abbrev pub AllRising : List Sequence → Type 0
AllRising [] = ⊤
AllRising (state ∷ others) = (IsRising state.arrived × IsRising state.final) × AllRising others

-- Rising lists are sets: a list is told by its members.
pub record RisingListsAreSets : Type 0 where
  -- a number that is put in is a member, beside those that were, and the list still rises
  pub put : (n : ℕ) (numbers : List ℕ) → IsRising numbers → IsRising (with_number n numbers)
  pub members : (n m : ℕ) (numbers : List ℕ) → is_among m (with_number n numbers) ≡ ((n == m) || is_among m numbers)
  pub all_put : (numbers : List ℕ) → IsRising (rising numbers)
  pub all_members : (m : ℕ) (numbers : List ℕ) → is_among m (rising numbers) ≡ is_among m numbers
  -- rising lists with the same members are the same
  pub same : (a b : List ℕ) → IsRising a → IsRising b → ((n : ℕ) → is_among n a ≡ is_among n b) → a ≡ b
  -- histories keep them so
  pub kept : (buffer : Buffer) (events : List Event) → AllRising buffer.sequences → AllRising (state_after buffer events).sequences

-- A sequence that is closed twice is as one that is closed once.
abbrev pub SecondCloseChangesNothing : Type 0
SecondCloseChangesNothing = (buffer : Buffer) (sequence : ℕ) → is_known buffer.sequences sequence ≡ true
    → with_close (with_close buffer sequence) sequence ≡ with_close buffer sequence
