-- What the history of a schedule says of one sequence, and how the report counts its packets.
use Rattle.std.specs.Prelude.{◌≡◌, ℕ, ◌≤◌, ◌<◌, true, List, length, Some, slice_get}
use Rattle.trace_base.specs.declared.policy.WriterSpec.{WriterSpec}
use Rattle.trace_model.specs.Balance.{PacketCounts, IsBalanced, CountsOutcomes, counts_of, packet_outcomes}
use Rattle.trace_model.specs.Buffers.{Buffer, empty_buffer}
use Rattle.trace_model.specs.Causes.{fixed_after}
use Rattle.trace_model.specs.Counts.{last_count}
use Rattle.trace_model.specs.History.{state_after, delivered_to}
use Rattle.trace_model.specs.Packets.{begun_count}
use Rattle.trace_model.specs.Sequences.{Sequence, IsFresh, sequence_in, is_known}
use Rattle.delivery_laws.specs.DeliveryLaws.{IsAccountOf}
use Rattle.chunk_plain.specs.Setup.{Setup, IsLaid, sequence_of}
use Rattle.chunk_plain.specs.World.{World, writer}
use Rattle.chunk_plain.specs.Plain.{first_world}
use Rattle.chunk_plain.specs.Histories.{history_of}
use Rattle.world_model.specs.FirstBuffers.{BufferSpec, payload_at, sequences_from}
use Rattle.replay_model.specs.Written.{HasWritten}
use Rattle.chunk_schedules.specs.Moves.{Move}
use Rattle.chunk_schedules.specs.Schedules.{IsSchedule}
use Rattle.schedule_laws.specs.Resting.{IsBetweenCalls, IsNotedInOrder}

-- The history in a world is an account of the sequence of the writer at this place and of the pages of its own chunks, in each buffer that
-- has this sequence as a new one: so all that is promised of accounts is so of it.
pub record HasAccount (setup : Setup) (world : World) (place : ℕ) : Type 0 where
  pub wrote : HasWritten setup place (writer world place)
  pub account : (sequences : List Sequence) (record_size : ℕ) → is_known sequences (sequence_of place) ≡ true
      → IsFresh (sequence_of place) record_size (sequence_in sequences (sequence_of place))
      → IsAccountOf (payload_at setup place) (writer world place).calls wrote.cut.cut.pages sequences (sequence_of place) record_size (history_of world.service)

-- Of each sequence whose writer is between two calls, and on which was noted in order, whatever the other writers are in the middle of.
abbrev pub SequencesHaveAccounts : Type 0
SequencesHaveAccounts = (setup : Setup) (moves : List Move) (world : World) → IsLaid setup
    → IsSchedule setup (first_world setup) moves world
    → (place : ℕ) → place < length setup.writers → IsBetweenCalls setup place (writer world place) → IsNotedInOrder world.service place
    → HasAccount setup world place

-- the buffer that a writer names, as it is made
abbrev pub buffer_named : Setup → WriterSpec → BufferSpec → Buffer
buffer_named setup spec buffer = empty_buffer buffer.size buffer.policy (sequences_from setup spec.buffer 0 setup.writers)

-- what the report says of the writer at this place
abbrev pub counts_at : Setup → World → (place : ℕ) → WriterSpec → BufferSpec → PacketCounts
counts_at setup world place spec buffer =
    counts_of buffer.policy (writer world place).calls
    (sequence_in (state_after (buffer_named setup spec buffer) (history_of world.service)).sequences (sequence_of place))

-- The report counts each packet that the writer began once: it is delivered, or absent under the one cause that the history fixed first. So
-- the sum says. Where a packet stands is said by the pages of the writer's own chunks. As many are counted as delivered as the reads of its
-- sequence deliver.
pub record CountsOnce (setup : Setup) (world : World) (place : ℕ) (spec : WriterSpec) (buffer : BufferSpec) : Type 0 where
  pub balanced : IsBalanced (counts_at setup world place spec buffer)
  pub wrote : HasWritten setup place (writer world place)
  pub outcomes : CountsOutcomes buffer.policy
      (packet_outcomes (fixed_after (sequence_of place) (buffer_named setup spec buffer) (history_of world.service)) (writer world place).calls wrote.cut.cut.pages)
      (counts_at setup world place spec buffer)
  pub records : (counts_at setup world place spec buffer).delivered
      ≡ length (delivered_to (sequence_of place) (buffer_named setup spec buffer) (history_of world.service))

-- Of each such sequence, where no more packets were begun than a count can tell.
abbrev pub EveryPacketIsCounted : Type 0
EveryPacketIsCounted = (setup : Setup) (moves : List Move) (world : World) → IsLaid setup → IsSchedule setup (first_world setup) moves world
    → (place : ℕ) (spec : WriterSpec) (buffer : BufferSpec) → slice_get setup.writers place ≡ Some spec
    → IsBetweenCalls setup place (writer world place) → IsNotedInOrder world.service place
    → begun_count (writer world place).calls ≤ last_count → CountsOnce setup world place spec buffer
