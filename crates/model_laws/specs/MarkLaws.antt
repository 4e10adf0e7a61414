-- The service's mark, in words: a record of a sequence is unmarked exactly where what a read passed right before it, this read
-- or an earlier one, is a packet that was delivered too. So the first record is marked, and each one before which something
-- was passed that wasn't delivered: a packet with its start or without it, or a gap.
use Rattle.std.specs.Prelude.{◌≡◌, ℕ, ◌==◌, Bool, true, false, not, List, [], ◌∷◌, ◌++◌, length, Some, slice_get, if◌then◌else◌}
use Rattle.trace_base.specs.declared.policy.FullPolicy.{FullPolicy}
use Rattle.trace_model.specs.Sequences.{Sequence, IsFresh, sequence_in, is_known}
use Rattle.trace_model.specs.Buffers.{Buffer, empty_buffer}
use Rattle.trace_model.specs.Row.{Link, row_from_cursor}
use Rattle.trace_model.specs.Reads.{Delivery, turn_of, delivers, count_of, passed_by, link_bytes}
use Rattle.trace_model.specs.History.{Event, Read, buffer_after, delivered_to}

-- the links that an event passes of a sequence
abbrev pub links_at : ℕ → Buffer → Event → List Link
links_at sequence buffer (Read other limit) =
    if other == sequence then passed_by limit (row_from_cursor buffer (sequence_in buffer.sequences other)) else []
links_at sequence buffer event = []

-- all that the reads of a history pass of it, in order
abbrev pub links_passed : ℕ → Buffer → List Event → List Link
links_passed sequence buffer [] = []
links_passed sequence buffer (event ∷ events) =
    links_at sequence buffer event ++ links_passed sequence (buffer_after buffer event) events

-- the last of these was delivered
abbrev pub ends_delivered : List Link → Bool
ends_delivered [] = false
ends_delivered (link ∷ []) = delivers (turn_of link)
ends_delivered (link ∷ next ∷ links) = ends_delivered (next ∷ links)

-- what is delivered of these links, in their order
pub record AreMarkedDeliveries (links : List Link) (delivered : List Delivery) : Type 0 where
  pub many : length delivered ≡ count_of delivers links
  pub each : (before behind : List Link) (link : Link) → links ≡ before ++ link ∷ behind → delivers (turn_of link) ≡ true
      → slice_get delivered (count_of delivers before)
      ≡ Some (record { body = link_bytes link; marked = not (ends_delivered before) })

-- A record is marked exactly where something was passed since the record before.
abbrev pub MarksTellWhatIsMissing : Type 0
MarksTellWhatIsMissing =
    (room : ℕ) (policy : FullPolicy) (sequences : List Sequence) (sequence size : ℕ) (events : List Event)
    → is_known sequences sequence ≡ true → IsFresh sequence size (sequence_in sequences sequence)
    → AreMarkedDeliveries (links_passed sequence (empty_buffer room policy sequences) events)
    (delivered_to sequence (empty_buffer room policy sequences) events)
