-- A writer with its seat, as its callers see it: its calls and refusals are said by the view of the seat.
use Rattle.std.specs.Prelude.{◌≡◌, ℕ, ◌+◌, ◌*◌, Bool, true, false, not, ◌||◌, List, [], ◌∷◌, length, Option, Some, None, if◌then◌else◌}
use Rattle.trace_model.specs.Encoding.{bytes_head, nested_tag}
use Rattle.trace_model.specs.Packets.{Packet, Account, account_of, packets_of, open_places, newest_is_lost, is_writing, AreCalls, newest_length}
use Rattle.chunk_plain.specs.Setup.{Setup}
use Rattle.chunk_plain.specs.Views.{BegunChunk, Held, Completed, WriterView}
use Rattle.trace_writer.specs.declared.fault.CallFault.{CallFault}
use Rattle.trace_writer.specs.declared.fault.CallFault.TheVariants.{Stalled}
use Rattle.trace_writer.specs.declared.route.Route.{Route}
use Rattle.trace_writer.specs.declared.state.Writer.{Writer}
use Rattle.trace_writer.specs.declared.writer.WriterCore.{WriterCore}
use Rattle.trace_writer.specs.Agreement.{Agrees, NeedsNoChunk}
use Rattle.trace_writer.specs.Claims.{KeepsClaims}
use Rattle.trace_writer.specs.Placing.{BeginsHere}
use Rattle.trace_writer.specs.Empty.{is_empty, is_stalled as is_stalled_state}
use Rattle.trace_writer.specs.Refusals.{field_refusal, nested_refusal}

-- a packet is begun
abbrev pub in_packet : WriterView → Bool
in_packet view = is_writing (packets_of view.calls)

-- how many messages are open in the newest packet
abbrev pub newest_depth : List Packet → ℕ
newest_depth [] = 0
newest_depth (packet ∷ older) = length (open_places packet.text.levels)

-- so many messages are open in the packet that is begun
abbrev pub open_depth : WriterView → ℕ
open_depth view = if in_packet view then newest_depth (packets_of view.calls) else 0

-- why a field of so many bytes is refused where the packet that is begun stands
abbrev pub field_fault : WriterView → ℕ → ℕ → Option CallFault
field_fault view field more = field_refusal (newest_depth (packets_of view.calls)) (newest_length (packets_of view.calls)) field more

-- the bytes of a text's field, so many times over
abbrev pub bytes_size : ℕ → ℕ → List ℕ → ℕ
bytes_size field times text = length (bytes_head field (times * length text)) + times * length text

-- why a nested message is refused there
abbrev pub nested_fault : WriterView → ℕ → Option CallFault
nested_fault view field = nested_refusal (newest_depth (packets_of view.calls)) (newest_length (packets_of view.calls)) field (length (nested_tag field))

-- the writer holds a chunk
abbrev pub holds_chunk : {S : Type 0} → WriterCore S → Bool
holds_chunk core = not (is_empty core.writer.state)

-- the writer has stalled
abbrev pub is_stalled : {S : Type 0} → WriterCore S → Bool
is_stalled core = is_stalled_state core.writer.state

-- where the writer writes: its spec, its producer's chunks and the size of their payloads
abbrev pub route_of : {S : Type 0} → WriterCore S → Route
route_of core = core.writer.route

-- a packet can begin without a further chunk, or the writer begins none
abbrev pub begins_here : {S : Type 0} → WriterCore S → Type 0
begins_here core = BeginsHere core.writer.state

-- the chunk that was begun last is held
abbrev pub last_is_held : List BegunChunk → Bool
last_is_held [] = false
last_is_held (Held chunk head ∷ []) = true
last_is_held (Completed chunk content ∷ []) = false
last_is_held (one ∷ next ∷ begun) = last_is_held (next ∷ begun)

-- the newest packet isn't lost, and no flush came behind it
abbrev pub holds_newest : Account → Bool
holds_newest account = not (is_none_yet account.packets || (newest_is_lost account.packets || account.flushed))
  where
    is_none_yet : List Packet → Bool
    is_none_yet [] = true
    is_none_yet (packet ∷ older) = false

-- A writer agrees with the view of its seat: its packets and their chunks, its claims, and its calls, each of which was possible
-- where it stands. One that isn't stalled holds its newest chunk exactly where its newest packet isn't lost and no flush came
-- behind it.
pub record WriterAgrees (setup : Setup) (place : ℕ) (view : WriterView) (writer : Writer) : Type 0 where
  pub writes : Agrees setup place view writer
  pub claims : KeepsClaims setup place view
  pub possible : AreCalls view.calls
  pub holds : is_stalled_state writer.state ≡ false → not (is_empty writer.state) ≡ holds_newest (account_of view.calls)

-- and so does one with the seat that it was made with
abbrev pub CoreAgrees : {S : Type 0} → Setup → ℕ → WriterView → WriterCore S → Type 0
CoreAgrees setup place view core = WriterAgrees setup place view core.writer

-- why a call of a writer is refused: by its packet, or since the writer is stalled
abbrev pub refusal_of : {S : Type 0} → WriterCore S → Option CallFault → Option CallFault
refusal_of core (Some fault) = Some fault
refusal_of core None = if is_stalled core then Some Stalled else None

-- so many bytes of the packet need no further chunk
abbrev pub FitsHere : {S : Type 0} → WriterCore S → ℕ → Type 0
FitsHere core more = NeedsNoChunk core.writer.state more
