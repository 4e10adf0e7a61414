-- What a clone tells.
use Rattle.std.specs.Prelude.{ℕ, List}
use Rattle.trace_base.specs.declared.policy.FullPolicy.{FullPolicy}
use Rattle.trace_model.specs.Buffers.{empty_buffer}
use Rattle.trace_model.specs.Calls.{Call}
use Rattle.trace_model.specs.Delivery.{records_of}
use Rattle.trace_model.specs.History.{Event, state_after}
use Rattle.trace_model.specs.Packets.{emissions_of}
use Rattle.trace_model.specs.Pages.{Page}
use Rattle.trace_model.specs.Sequences.{Sequence}
use Rattle.trace_model.specs.Tells.{Tells}
use Rattle.delivery_laws.specs.DeliveryLaws.{IsAccountOf}
use Rattle.trace_buffer.specs.BufferFields.{NumbersOnce}
use Rattle.trace_buffer.specs.Clones.{cloned}
use Rattle.buffer_clone.specs.Clones.{clone_records}

-- Let a buffer be cloned behind any account of a sequence: with chunks still to come, with a packet that goes on, closed or open. The
-- clone's records of the sequence tell of the packets that its writer had emitted, exact, whole, once and in order, the first one marked.
abbrev pub EveryCloneIsTold : Type 0
EveryCloneIsTold =
    (size : ℕ) (calls : List Call) (pages : List Page) (room : ℕ) (policy : FullPolicy) (sequences : List Sequence)
    (sequence record_size : ℕ) (events : List Event)
    → NumbersOnce sequences → IsAccountOf size calls pages sequences sequence record_size events
    → Tells (emissions_of calls) sequence
    (records_of sequence (clone_records (cloned (state_after (empty_buffer room policy sequences) events))))
