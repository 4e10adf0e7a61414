-- Nothing is absent where all is enough.
use Rattle.std.specs.Prelude.{◌≡◌, ℕ, ◌≤◌, true, false, List, length, All}
use Rattle.trace_base.specs.declared.policy.FullPolicy.{FullPolicy}
use Rattle.trace_model.specs.Calls.{Call}
use Rattle.trace_model.specs.Packets.{packets_of, bodies_of, emissions_of, begun_count}
use Rattle.trace_model.specs.Pages.{Page}
use Rattle.trace_model.specs.Sequences.{Sequence}
use Rattle.trace_model.specs.Buffers.{empty_buffer}
use Rattle.trace_model.specs.History.{Event, delivered_to}
use Rattle.trace_model.specs.Walks.{is_accepted}
use Rattle.delivery_laws.specs.DeliveryLaws.{IsAccountOf}
use Rattle.delivery_laws.specs.Finishing.{AllWhole, Finishes}
use Rattle.delivery_laws.specs.Room.{asked, wanted, EachBelow}

-- In an account that comes to an end, in which no packet was dropped or given up and each was finished, and is one that the
-- packet check accepts, and whose buffer has the bytes that all its sequences ask for, each packet is delivered. (They are delivered in order and each once, since the
-- account's writer is told.)
abbrev pub EveryPacketIsDelivered : Type 0
EveryPacketIsDelivered =
    (size : ℕ) (calls : List Call) (pages : List Page) (room : ℕ) (policy : FullPolicy) (sequences : List Sequence)
    (sequence record_size : ℕ) (events : List Event)
    → IsAccountOf size calls pages sequences sequence record_size events → AllWhole (packets_of calls)
    → All (λ (body : List ℕ). is_accepted body ≡ true) (bodies_of calls)
    → Finishes sequence (length pages) (begun_count calls) 0 false events
    → asked (empty_buffer room policy sequences) events ≤ room
    → length (delivered_to sequence (empty_buffer room policy sequences) events) ≡ length (emissions_of calls)

-- A history asks for no more than a record for each chunk, where the buffer has room for these: nothing is displaced then, so
-- that no chunk asks twice.
abbrev pub EveryAskIsCounted : Type 0
EveryAskIsCounted =
    (room : ℕ) (policy : FullPolicy) (sequences : List Sequence) (chunks : ℕ → ℕ) (events : List Event)
    → EachBelow chunks sequences events → wanted chunks sequences ≤ room
    → asked (empty_buffer room policy sequences) events ≤ wanted chunks sequences
