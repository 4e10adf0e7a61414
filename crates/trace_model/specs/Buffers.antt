-- A trace buffer: its records, and what is lost where a new record displaces others. After the tracing service's buffers
-- document.
use Rattle.std.specs.Prelude.{ℕ, Bool, true, false, ◌&&◌, not, nat_lt, ◌==◌, List, [], length, map, filter, find, sum_by, count_by, Option, if◌then◌else◌}
use Rattle.trace_base.specs.declared.policy.FullPolicy.{FullPolicy}
use Rattle.trace_base.specs.declared.policy.FullPolicy.TheVariants.{Ring, Discard}
use Rattle.trace_model.specs.Counts.{raised}
use Rattle.trace_model.specs.Images.{Chunk}
use Rattle.trace_model.specs.Places.{is_met}
use Rattle.trace_model.specs.Sequences.{Sequence, unread_of, unread_starts, sequence_in}

-- a record of a buffer: what it has of a chunk, and where it lies
pub record BufferRecord : Type 0 where
  pub sequence : ℕ
  pub chunk_id : ℕ
  pub at : ℕ
  pub size : ℕ
  pub chunk : Chunk

-- what a new record meets may not be lost unread: the new record is discarded
abbrev pub discards : FullPolicy → Bool
discards Ring = false
discards Discard = true

-- a buffer of the service, after the buffers document: its size and policy, its live records, what it has counted, and its
-- sequences
pub record Buffer : Type 0 where
  -- its size in bytes
  pub room : ℕ
  pub policy : FullPolicy
  -- the write place
  pub next : ℕ
  -- the live records, in the order in which they got their places
  pub live : List BufferRecord
  -- a record was refused by the discard policy, and so is every later one that needs a new place
  pub shut : Bool
  -- records put in a new place; replaced in place; lost with unread fragments; complete images that got no place; live
  -- records that awaited a patch when their sequence was closed; bytes of padding
  pub placed : ℕ
  pub rewritten : ℕ
  pub overwritten : ℕ
  pub discarded : ℕ
  pub unpatched : ℕ
  pub padding : ℕ
  pub sequences : List Sequence

-- a buffer as it is made
abbrev pub empty_buffer : ℕ → FullPolicy → List Sequence → Buffer
empty_buffer room policy sequences = record {
  room = room;
  policy = policy;
  next = 0;
  live = [];
  shut = false;
  placed = 0;
  rewritten = 0;
  overwritten = 0;
  discarded = 0;
  unpatched = 0;
  padding = 0;
  sequences = sequences;
}

-- the record is of this chunk
abbrev pub is_of : ℕ → ℕ → BufferRecord → Bool
is_of sequence chunk_id stored = (stored.sequence == sequence) && (stored.chunk_id == chunk_id)

-- the live record of a chunk
abbrev pub live_at : Buffer → ℕ → ℕ → Option BufferRecord
live_at buffer sequence chunk_id = find (is_of sequence chunk_id) buffer.live

-- Losses

-- a next record of this size, or its padding, meets the record
abbrev pub meets : Buffer → ℕ → BufferRecord → Bool
meets buffer size stored = is_met buffer.room buffer.next size stored.at stored.size

-- how many fragments of the record its reader hasn't passed
abbrev pub unread_in : Sequence → BufferRecord → ℕ
unread_in state stored = unread_of state stored.chunk_id (length stored.chunk.fragments)

-- the record has a fragment that its sequence's cursor hasn't passed
abbrev pub is_unread : List Sequence → BufferRecord → Bool
is_unread sequences stored = nat_lt 0 (unread_in (sequence_in sequences stored.sequence) stored)

-- Losing the record loses something of the sequence: it is one of its records, and no partial one of an open sequence,
-- whose chunk is still to come whole.
abbrev pub is_loss_of : Sequence → BufferRecord → Bool
is_loss_of state stored = (stored.sequence == state.number) && not (stored.chunk.partial && not state.closed)

-- with the record a fragment of this sequence is lost that wasn't read; a part of a chunk whose sequence is open loses nothing
abbrev pub is_unread_loss : Sequence → BufferRecord → Bool
is_unread_loss state stored = is_loss_of state stored && nat_lt 0 (unread_in state stored)

-- how many packets the sequence loses with the record
abbrev pub packets_lost : Sequence → BufferRecord → ℕ
packets_lost state stored = if is_loss_of state stored then unread_starts state stored.chunk_id stored.chunk else 0

-- the sequence once these records are lost
abbrev pub with_losses : List BufferRecord → Sequence → Sequence
with_losses records state = record state { lost = raised state.lost (sum_by (packets_lost state) records) }

-- the buffer once a next record of this size has displaced what it meets
abbrev pub made_room : Buffer → ℕ → Buffer
made_room buffer size = record buffer {
  live = filter (λ stored. not (meets buffer size stored)) buffer.live;
  overwritten =
      raised buffer.overwritten
      (sum_by (λ stored. count_by (λ state. is_unread_loss state stored) buffer.sequences)
      (filter (meets buffer size) buffer.live));
  sequences = map (with_losses (filter (meets buffer size) buffer.live)) buffer.sequences;
}
