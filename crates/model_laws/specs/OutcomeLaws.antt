-- What a history fixes, and what a buffer counts, are outcomes of the packets that the writer began.
use Rattle.std.specs.Prelude.{◌≡◌, ℕ, ◌≤◌, true, false, IsTrue, List, length, count_by}
use Rattle.trace_base.specs.declared.policy.FullPolicy.{FullPolicy}
use Rattle.trace_model.specs.Calls.{Call}
use Rattle.trace_model.specs.Counts.{last_count, raised}
use Rattle.trace_model.specs.Packets.{packets_of, begun_count}
use Rattle.trace_model.specs.Pages.{Page}
use Rattle.trace_model.specs.Cut.{CutsInto}
use Rattle.trace_model.specs.Written.{chains_of}
use Rattle.trace_model.specs.Sequences.{Sequence, IsFresh, sequence_in, is_known}
use Rattle.trace_model.specs.Buffers.{empty_buffer}
use Rattle.trace_model.specs.Reads.{Delivery}
use Rattle.trace_model.specs.History.{Event, state_after, delivered_to}
use Rattle.trace_model.specs.Causes.{Fixed, fixed_after}
use Rattle.trace_model.specs.CauseLaws.{closes_last}
use Rattle.trace_model.specs.Balance.{IsBalanced, CountsOutcomes, counts_of, packet_outcomes, is_delivered}
use Rattle.model_laws.specs.Starts.{ArePagesOf, AllBegin}

-- Whatever a history fixes of a sequence whose arrivals are of these pages, it fixes where a packet of theirs begins.
abbrev pub FixedPlacesAreStarts : Type 0
FixedPlacesAreStarts =
    (room : ℕ) (policy : FullPolicy) (sequences : List Sequence) (sequence : ℕ) (events : List Event) (pages : List Page)
    → ArePagesOf sequence pages events
    → AllBegin (chains_of pages) (fixed_after sequence (empty_buffer room policy sequences) events)

-- As many packets of a sequence are fixed as delivered, and counted as delivered, as its reads delivered: each of these is a record
-- of the trace.
pub record CountsDeliveries (fixed : List Fixed) (delivered : List Delivery) (state : Sequence) : Type 0 where
  pub fixed_many : count_by (λ one. is_delivered one.outcome) fixed ≡ length delivered
  pub counted : state.delivered ≡ raised 0 (length delivered)

-- Over any history: no packet is fixed or counted as delivered that no read delivered, and none that a read delivered is left out.
abbrev pub DeliveriesAreCounted : Type 0
DeliveriesAreCounted =
    (room : ℕ) (policy : FullPolicy) (sequences : List Sequence) (sequence size : ℕ) (events : List Event)
    → is_known sequences sequence ≡ true → IsFresh sequence size (sequence_in sequences sequence)
    → CountsDeliveries (fixed_after sequence (empty_buffer room policy sequences) events)
    (delivered_to sequence (empty_buffer room policy sequences) events)
    (sequence_in (state_after (empty_buffer room policy sequences) events).sequences sequence)

-- A history of a buffer in which all that arrives of a sequence is of the pages of a writer, whose calls make these packets,
-- and nothing of it arrives once it is closed. Fewer packets were begun than a count can tell.
pub record IsHistoryOf (size : ℕ) (calls : List Call) (pages : List Page) (sequences : List Sequence)
    (sequence record_size : ℕ) (events : List Event) : Type 0 where
  pub cut : CutsInto size (packets_of calls) pages
  pub countable : begun_count calls ≤ last_count
  pub known : is_known sequences sequence ≡ true
  pub start : IsFresh sequence record_size (sequence_in sequences sequence)
  pub arrivals : ArePagesOf sequence pages events
  pub closes : IsTrue (closes_last sequence false events)

-- the report's counts are those of the packets' outcomes
abbrev pub CountsAreOfOutcomes : Type 0
CountsAreOfOutcomes =
    (size : ℕ) (calls : List Call) (pages : List Page) (room : ℕ) (policy : FullPolicy) (sequences : List Sequence)
    (sequence record_size : ℕ) (events : List Event)
    → IsHistoryOf size calls pages sequences sequence record_size events
    → CountsOutcomes policy (packet_outcomes (fixed_after sequence (empty_buffer room policy sequences) events) calls pages)
    (counts_of policy calls (sequence_in (state_after (empty_buffer room policy sequences) events).sequences sequence))

-- and each packet that was begun is delivered, or absent under one cause
abbrev pub CountsAreBalanced : Type 0
CountsAreBalanced =
    (size : ℕ) (calls : List Call) (pages : List Page) (room : ℕ) (policy : FullPolicy) (sequences : List Sequence)
    (sequence record_size : ℕ) (events : List Event)
    → IsHistoryOf size calls pages sequences sequence record_size events
    → IsBalanced (counts_of policy calls (sequence_in (state_after (empty_buffer room policy sequences) events).sequences sequence))

-- What the report says of delivered packets is how many the reads delivered.
abbrev pub ReportsCountDeliveries : Type 0
ReportsCountDeliveries =
    (size : ℕ) (calls : List Call) (pages : List Page) (room : ℕ) (policy : FullPolicy) (sequences : List Sequence)
    (sequence record_size : ℕ) (events : List Event)
    → IsHistoryOf size calls pages sequences sequence record_size events
    → (counts_of policy calls (sequence_in (state_after (empty_buffer room policy sequences) events).sequences sequence)).delivered
    ≡ length (delivered_to sequence (empty_buffer room policy sequences) events)
