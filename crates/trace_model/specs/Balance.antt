-- The report of a sequence: each packet that its writer began is delivered, or absent under one cause.
use Rattle.std.specs.Prelude.{◌≡◌, ℕ, ◌+◌, ◌-◌, Bool, true, false, List, [], ◌∷◌, count_by, reverse, unwrap_or, if◌then◌else◌}
use Rattle.trace_base.specs.declared.policy.FullPolicy.{FullPolicy}
use Rattle.trace_model.specs.Calls.{Call}
use Rattle.trace_model.specs.Counts.{raised}
use Rattle.trace_model.specs.Packets.{Packet, packets_of, begun_count, dropped_at_begin}
use Rattle.trace_model.specs.Pages.{Page}
use Rattle.trace_model.specs.Row.{Chain}
use Rattle.trace_model.specs.Sequences.{Sequence}
use Rattle.trace_model.specs.Buffers.{discards}
use Rattle.trace_model.specs.Reads.{Cause, Dropped, Lost, Cut, is_same_cause}
use Rattle.trace_model.specs.Causes.{Outcome, Delivered, Absent, Fixed, outcome_at}
use Rattle.trace_model.specs.Written.{chains_of}

-- what the report says of a sequence
pub record PacketCounts : Type 0 where
  pub begun : ℕ
  pub delivered : ℕ
  pub dropped : ℕ
  pub overwritten : ℕ
  pub discarded : ℕ
  pub cut : ℕ

-- every packet that was begun is delivered, or absent under one of the four causes
pub record IsBalanced (counts : PacketCounts) : Type 0 where
  pub sum : counts.begun ≡ counts.delivered + counts.dropped + counts.overwritten + counts.discarded + counts.cut

-- How many packets have a cause at the end: those that losses and reads counted, and those dropped at their begin.
abbrev pub counted_packets : List Call → Sequence → ℕ
counted_packets calls state =
    state.delivered + raised state.dropped (dropped_at_begin calls) + state.lost + state.cut

-- The counts of a sequence at the end, from its writer's calls and what losses and reads counted of it: a packet that is
-- still without a cause is cut, beside those that reads passed as cut. They stay at the last value, as those of a buffer
-- do. Where more packets had been counted than were begun, the sum would tell.
abbrev pub counts_of : FullPolicy → List Call → Sequence → PacketCounts
counts_of policy calls state = record {
  begun = raised 0 (begun_count calls);
  delivered = state.delivered;
  dropped = raised state.dropped (dropped_at_begin calls);
  overwritten = if discards policy then 0 else state.lost;
  discarded = if discards policy then state.lost else 0;
  cut = raised state.cut (begun_count calls - counted_packets calls state);
}

-- The same packet by packet

-- what became of each packet, of the packets and the chains of the kept ones, the newest first: one that was dropped at
-- its begin counts as dropped, and one of which nothing was fixed as cut
abbrev pub outcomes_of : List Fixed → List Packet → List Chain → List Outcome
outcomes_of fixed [] chains = []
outcomes_of fixed (packet ∷ packets) [] = Absent Dropped ∷ outcomes_of fixed packets []
outcomes_of fixed (packet ∷ packets) (chain ∷ chains) =
    if packet.kept
    then unwrap_or (outcome_at chain.at fixed) (Absent Cut) ∷ outcomes_of fixed packets chains
    else Absent Dropped ∷ outcomes_of fixed packets (chain ∷ chains)

-- the packet is in a record
abbrev pub is_delivered : Outcome → Bool
is_delivered Delivered = true
is_delivered (Absent cause) = false

-- the packet is in no record, by this cause
abbrev pub is_absent_under : Cause → Outcome → Bool
is_absent_under cause Delivered = false
is_absent_under cause (Absent other) = is_same_cause cause other

-- the packets of a history, in the order of their begins, each with its one outcome
abbrev pub packet_outcomes : List Fixed → List Call → List Page → List Outcome
packet_outcomes fixed calls pages = reverse (outcomes_of fixed (packets_of calls) (chains_of pages))

-- the counts are those of the packets' outcomes
pub record CountsOutcomes (policy : FullPolicy) (outcomes : List Outcome) (counts : PacketCounts) : Type 0 where
  pub begun : counts.begun ≡ count_by (λ outcome. true) outcomes
  pub delivered : counts.delivered ≡ count_by is_delivered outcomes
  pub dropped : counts.dropped ≡ count_by (is_absent_under Dropped) outcomes
  pub overwritten : counts.overwritten ≡ (if discards policy then 0 else count_by (is_absent_under Lost) outcomes)
  pub discarded : counts.discarded ≡ (if discards policy then count_by (is_absent_under Lost) outcomes else 0)
  pub cut : counts.cut ≡ count_by (is_absent_under Cut) outcomes
