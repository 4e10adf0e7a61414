-- What a flush promises: once the chunks that the writer had completed by then have come, the next read of all that is
-- due settles what became of each packet that it had emitted.
use Rattle.std.specs.Prelude.{◌≡◌, ℕ, suc, ◌≤◌, ◌==◌, List, [], ◌∷◌, ◌++◌, length, map, take, reverse, Option, Some, if◌then◌else◌}
use Rattle.trace_base.specs.declared.policy.FullPolicy.{FullPolicy}
use Rattle.trace_model.specs.Calls.{Call, Flushed}
use Rattle.trace_model.specs.Packets.{Packet, packets_of, begun_count}
use Rattle.trace_model.specs.Pages.{Page}
use Rattle.trace_model.specs.Cut.{CutsInto}
use Rattle.trace_model.specs.Written.{chains_of}
use Rattle.trace_model.specs.Row.{Chain}
use Rattle.trace_model.specs.Sequences.{Sequence}
use Rattle.trace_model.specs.Buffers.{empty_buffer}
use Rattle.trace_model.specs.Reads.{Dropped}
use Rattle.trace_model.specs.History.{Event, Arrives, Read}
use Rattle.trace_model.specs.Causes.{Outcome, Absent, Fixed, fixed_after, outcome_at}
use Rattle.trace_model.specs.Balance.{packet_outcomes}
use Rattle.delivery_laws.specs.DeliveryLaws.{IsAccountOf}

-- how many chunks of the sequence come whole in these events
abbrev pub arrivals_of : ℕ → List Event → ℕ
arrivals_of sequence [] = 0
arrivals_of sequence (Arrives other chunk_id chunk ∷ events) =
    if other == sequence then suc (arrivals_of sequence events) else arrivals_of sequence events
arrivals_of sequence (event ∷ events) = arrivals_of sequence events

-- What was fixed so far of each packet, of the packets and the chains of the kept ones, the newest first: nothing of one
-- that is still to come. One that was dropped at its begin is absent.
abbrev pub fates_of : List Fixed → List Packet → List Chain → List (Option Outcome)
fates_of fixed [] chains = []
fates_of fixed (packet ∷ packets) [] = Some (Absent Dropped) ∷ fates_of fixed packets []
fates_of fixed (packet ∷ packets) (chain ∷ chains) =
    if packet.kept
    then outcome_at chain.at fixed ∷ fates_of fixed packets chains
    else Some (Absent Dropped) ∷ fates_of fixed packets (chain ∷ chains)

-- The writer flushed between two packets: these were its calls before, and these the pages into which it had cut their
-- packets. Its calls and its pages in the end are those and more.
pub record IsFlushed (size : ℕ) (calls : List Call) (pages : List Page) (before : List Call) (flushed : List Page) : Type 0 where
  pub behind : List Call
  pub calls_are : calls ≡ before ++ Flushed ∷ behind
  pub more : List Page
  pub pages_are : pages ≡ flushed ++ more
  pub cut : CutsInto size (packets_of before) flushed

-- Of each of these packets the outcome is fixed: it is delivered, or absent under one cause.
pub record AreSettled (fixed : List Fixed) (packets : List Packet) (chains : List Chain) : Type 0 where
  pub outcomes : List Outcome
  pub fates : fates_of fixed packets chains ≡ map Some outcomes

-- In an account whose writer flushed, let all chunks that it had completed by then have come, and then let there be a
-- read of its sequence whose limit is at least the number of packets. Behind the read the outcome is fixed of each packet
-- that the writer had begun when it flushed, and it had finished all of them; whatever chunks are overwritten, discarded
-- or scraped before, and whatever the writer does behind its flush. A flush between two packets leaves no length open, so
-- no chunk of these awaits a patch by then, and no fragment of these is missing that a part of a chunk lacks.
abbrev pub EveryFlushIsSettled : Type 0
EveryFlushIsSettled =
    (size : ℕ) (calls : List Call) (pages : List Page) (room : ℕ) (policy : FullPolicy) (sequences : List Sequence)
    (sequence record_size : ℕ) (early later : List Event) (limit : ℕ) (before : List Call) (flushed : List Page)
    → IsAccountOf size calls pages sequences sequence record_size (early ++ Read sequence limit ∷ later)
    → IsFlushed size calls pages before flushed → length flushed ≤ arrivals_of sequence early → begun_count calls ≤ limit
    → AreSettled (fixed_after sequence (empty_buffer room policy sequences) (early ++ Read sequence limit ∷ []))
    (packets_of before) (chains_of flushed)

-- And it stays what it is then: in the end these are the outcomes of the writer's first packets, which the report counts.
abbrev pub EveryOutcomeStays : Type 0
EveryOutcomeStays =
    (size : ℕ) (calls : List Call) (pages : List Page) (room : ℕ) (policy : FullPolicy) (sequences : List Sequence)
    (sequence record_size : ℕ) (early later : List Event) (before : List Call) (flushed : List Page)
    → IsAccountOf size calls pages sequences sequence record_size (early ++ later) → IsFlushed size calls pages before flushed
    → (settled : AreSettled (fixed_after sequence (empty_buffer room policy sequences) early) (packets_of before) (chains_of flushed))
    → take (begun_count before) (packet_outcomes (fixed_after sequence (empty_buffer room policy sequences) (early ++ later)) calls pages)
    ≡ reverse settled.outcomes
