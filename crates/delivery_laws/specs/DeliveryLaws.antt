-- Every history tells: what its reads deliver of a sequence are packets of the sequence's writer.
use Rattle.std.specs.Prelude.{◌≡◌, ℕ, ◌≤◌, true, false, List, [], map}
use Rattle.trace_base.specs.declared.policy.FullPolicy.{FullPolicy}
use Rattle.trace_model.specs.Calls.{Call}
use Rattle.trace_model.specs.Counts.{last_count}
use Rattle.trace_model.specs.Packets.{packets_of, emissions_of, begun_count, AreCalls}
use Rattle.trace_model.specs.Pages.{Page}
use Rattle.trace_model.specs.Cut.{CutsInto, newest_goes_on}
use Rattle.trace_model.specs.Sequences.{Sequence, IsFresh, sequence_in, is_known}
use Rattle.trace_model.specs.Buffers.{empty_buffer}
use Rattle.trace_model.specs.History.{Event, delivered_to}
use Rattle.trace_model.specs.Reads.{Delivery}
use Rattle.trace_model.specs.Record.{record_of}
use Rattle.trace_model.specs.Tells.{Tells}
use Rattle.model_laws.specs.OutcomeLaws.{IsHistoryOf}
use Rattle.delivery_laws.specs.Sheets.{Sheet, SheetsAgree, all_parts, packets_in, sheet_patches}
use Rattle.delivery_laws.specs.Histories.{AreTold, Legal}
use Rattle.delivery_laws.specs.Orders.{InOrder}
use Rattle.delivery_laws.specs.WriterSheets.{sheets_of}

-- Of any chunks with flags that agree, and any history that agrees with them: records are overwritten, discarded or rewritten,
-- come in part, are patched late, and reads have limits.
abbrev pub EveryHistoryTells : Type 0
EveryHistoryTells =
    (sheets : List Sheet) (sequence record_size room : ℕ) (policy : FullPolicy) (sequences : List Sequence) (events : List Event)
    → SheetsAgree false sheets → is_known sequences sequence ≡ true → IsFresh sequence record_size (sequence_in sequences sequence)
    → Legal sheets sequence 0 false (sheet_patches sheets) events
    → AreTold (packets_in (all_parts sheets)) true 0 (delivered_to sequence (empty_buffer room policy sequences) events)

-- An account of one sequence: its writer's calls, the pages into which their packets are cut, and the events of its buffer, in
-- which the pages come in order, as many as came.
pub record IsAccountOf (size : ℕ) (calls : List Call) (pages : List Page) (sequences : List Sequence)
    (sequence record_size : ℕ) (events : List Event) : Type 0 where
  pub possible : AreCalls calls
  pub cut : CutsInto size (packets_of calls) pages
  pub known : is_known sequences sequence ≡ true
  pub start : IsFresh sequence record_size (sequence_in sequences sequence)
  pub order : InOrder (sheets_of (newest_goes_on (packets_of calls)) pages) sequence 0 false [] events

-- The records of the sequence tell of the packets that its writer emitted.
abbrev pub EveryWriterIsTold : Type 0
EveryWriterIsTold =
    (size : ℕ) (calls : List Call) (pages : List Page) (room : ℕ) (policy : FullPolicy) (sequences : List Sequence)
    (sequence record_size : ℕ) (events : List Event)
    → IsAccountOf size calls pages sequences sequence record_size events
    → Tells (emissions_of calls) sequence
    (map (λ (delivery : Delivery). record_of delivery.body sequence delivery.marked)
    (delivered_to sequence (empty_buffer room policy sequences) events))

-- Each account is a history as the laws on reports want it: so each packet that was begun has one outcome, the report's counts
-- are those of the outcomes, and its sum says so.
abbrev pub AccountsAreHistories : Type 0
AccountsAreHistories =
    (size : ℕ) (calls : List Call) (pages : List Page) (sequences : List Sequence) (sequence record_size : ℕ) (events : List Event)
    → IsAccountOf size calls pages sequences sequence record_size events → begun_count calls ≤ last_count
    → IsHistoryOf size calls pages sequences sequence record_size events
