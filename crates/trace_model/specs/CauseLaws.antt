-- Each packet is delivered once, or absent under one cause: whatever a history does, it fixes the outcome of no packet
-- twice.
use Rattle.std.specs.Prelude.{◌≡◌, ℕ, Bool, true, false, not, ◌&&◌, ◌||◌, ◌==◌, IsTrue, List, [], ◌∷◌, count_by, ⊤}
use Rattle.std.specs.List.{list_any}
use Rattle.trace_base.specs.declared.policy.FullPolicy.{FullPolicy}
use Rattle.trace_model.specs.Sequences.{Sequence, IsFresh, sequence_in, is_known}
use Rattle.trace_model.specs.Buffers.{empty_buffer}
use Rattle.trace_model.specs.History.{Event, Arrives, ArrivesInPart, Committed, Closed, state_after}
use Rattle.trace_model.specs.Counts.{raised}
use Rattle.trace_model.specs.Reads.{Dropped, Lost, Cut}
use Rattle.trace_model.specs.Balance.{is_delivered, is_absent_under}
use Rattle.trace_model.specs.Causes.{Fixed, fixed_after, is_same_place}

-- the event brings a chunk of the sequence, whole or in part
abbrev pub is_arrival_of : ℕ → Event → Bool
is_arrival_of sequence (Arrives other chunk_id chunk) = other == sequence
is_arrival_of sequence (ArrivesInPart other chunk_id chunk) = other == sequence
is_arrival_of sequence (Committed image patches) = image.sequence == sequence
is_arrival_of sequence event = false

-- the event closes the sequence
abbrev pub is_close_of : ℕ → Event → Bool
is_close_of sequence (Closed other) = other == sequence
is_close_of sequence event = false

-- nothing of the sequence arrives once it is closed
abbrev pub closes_last : ℕ → Bool → List Event → Bool
closes_last sequence closed [] = true
closes_last sequence closed (event ∷ events) =
    not (closed && is_arrival_of sequence event)
    && closes_last sequence (closed || is_close_of sequence event) events

-- no two outcomes are of one packet
abbrev pub AreDistinct : List Fixed → Type 0
AreDistinct [] = ⊤
AreDistinct (fixed ∷ others) =
    IsTrue (not (list_any (λ other. is_same_place other.at fixed.at) others)) × AreDistinct others

-- No packet has two outcomes: the places at which outcomes are fixed are distinct.
abbrev pub PacketsHaveOneOutcome : Type 0
PacketsHaveOneOutcome = (room : ℕ) (policy : FullPolicy) (sequences : List Sequence) (sequence size : ℕ) (events : List Event)
    → is_known sequences sequence ≡ true → IsFresh sequence size (sequence_in sequences sequence)
    → IsTrue (closes_last sequence false events)
    → AreDistinct (fixed_after sequence (empty_buffer room policy sequences) events)

-- What a buffer counts of a sequence is what a history fixed of its packets.
pub record AreCounted (fixed : List Fixed) (state : Sequence) : Type 0 where
  pub delivered : state.delivered ≡ raised 0 (count_by (λ one. is_delivered one.outcome) fixed)
  pub dropped : state.dropped ≡ raised 0 (count_by (λ one. is_absent_under Dropped one.outcome) fixed)
  pub lost : state.lost ≡ raised 0 (count_by (λ one. is_absent_under Lost one.outcome) fixed)
  pub cut : state.cut ≡ raised 0 (count_by (λ one. is_absent_under Cut one.outcome) fixed)

-- What a sequence has counted are the outcomes that were fixed.
abbrev pub CountsAreOutcomes : Type 0
CountsAreOutcomes = (room : ℕ) (policy : FullPolicy) (sequences : List Sequence) (sequence size : ℕ) (events : List Event)
    → is_known sequences sequence ≡ true → IsFresh sequence size (sequence_in sequences sequence)
    → AreCounted (fixed_after sequence (empty_buffer room policy sequences) events)
    (sequence_in (state_after (empty_buffer room policy sequences) events).sequences sequence)
