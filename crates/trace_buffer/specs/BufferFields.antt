-- What the fields of a buffer mean.
use Rattle.std.specs.Prelude.{◌≡◌, ℕ, ◌+◌, ◌*◌, ◌^◌, ◌<◌, ◌≤◌, true, false, ◌&&◌, List, [], ◌∷◌, length, map, find, None}
use Rattle.std.specs.Option.{option_map}
use Rattle.std.specs.Ordering.{nat_cmp}
use Rattle.std.specs.FinMap.{FinMap, get, len}
use Rattle.page_geometry.specs.Sizes.{record_size}
use Rattle.chunk_index.specs.Value.{IndexValue, key_of}
use Rattle.ring_bytes.specs.declared.key.RecordKey.{RecordKey}
use Rattle.ring_bytes.specs.Value.{Stored, RingValue, NoneAt}
use Rattle.trace_model.specs.Arrivals.{is_too_far}
use Rattle.trace_model.specs.Buffers.{Buffer, BufferRecord, is_of}
use Rattle.trace_model.specs.Reading.{reading_of, is_readable}
use Rattle.trace_model.specs.Sequences.{Sequence, is_known, sequence_in, has_arrived}
use Rattle.trace_buffer.specs.Records.{record_of, is_at_key}
use Rattle.trace_buffer.specs.Unfinished.{unfinished_of}
use Rattle.trace_buffer.specs.declared.buffer.TraceBuffer.TheInside.{Inside}

-- a buffer as one of the model
abbrev pub buffer_view : Inside → Buffer
buffer_view a = record {
  room = a.ring.room;
  policy = a.policy;
  next = a.ring.next;
  live = map record_of a.ring.live;
  shut = a.shut;
  placed = a.placed;
  rewritten = a.rewritten;
  overwritten = a.overwritten;
  discarded = a.discarded;
  unpatched = a.unpatched;
  padding = a.padding;
  sequences = a.rows.items;
}

-- Each chunk has one record, and each place too

abbrev pub NoneOf : ℕ → ℕ → List Stored → Type 0
NoneOf sequence chunk_id [] = Unit {0}
NoneOf sequence chunk_id (stored ∷ records) =
    (is_at_key sequence chunk_id stored ≡ false) × NoneOf sequence chunk_id records

-- no chunk has two live records
abbrev pub KeysOnce : List Stored → Type 0
KeysOnce [] = Unit {0}
KeysOnce (stored ∷ records) = NoneOf stored.key.sequence stored.key.chunk_id records × KeysOnce records

-- no two live records lie at one place
abbrev pub PlacesOnce : List Stored → Type 0
PlacesOnce [] = Unit {0}
PlacesOnce (stored ∷ records) = NoneAt stored.at records × PlacesOnce records

-- the index has the places of the live records, and no other
pub record IsIndexed (places : FinMap nat_cmp ℕ) (live : List Stored) : Type 0 where
  pub found : (sequence chunk_id : ℕ) → sequence < 2 ^ 32 → chunk_id < 2 ^ 32
      → get places (key_of sequence chunk_id)
      ≡ option_map (λ (stored : Stored). stored.at) (find (is_at_key sequence chunk_id) live)
  pub few : len places ≡ length live
  pub keys : KeysOnce live
  pub places_once : PlacesOnce live

-- a record is of a sequence of the buffer, and reads; a part of a chunk is of one that is still to come
pub record IsKept (rows : List Sequence) (stored : Stored) : Type 0 where
  pub known : is_known rows stored.key.sequence ≡ true
  pub size : record_size (length stored.payload) ≡ (sequence_in rows stored.key.sequence).size
  pub reads : is_readable (reading_of stored.key.count stored.payload) ≡ true
  pub number : stored.key.sequence < 2 ^ 32
  pub id : stored.key.chunk_id < 2 ^ 32
  pub part : stored.key.partial ≡ true
      → (has_arrived (sequence_in rows stored.key.sequence) stored.key.chunk_id ≡ false)
      × (is_too_far (sequence_in rows stored.key.sequence) stored.key.chunk_id ≡ false)

-- what a new record has to be for that
abbrev pub IsPartNear : Buffer → RecordKey → Type 0
IsPartNear buffer key =
    key.partial ≡ true
    → (has_arrived (sequence_in buffer.sequences key.sequence) key.chunk_id ≡ false)
    × (is_too_far (sequence_in buffer.sequences key.sequence) key.chunk_id ≡ false)

-- the chunk has no record of a part of it
abbrev pub NoPart : Buffer → ℕ → ℕ → Type 0
NoPart buffer sequence chunk_id =
    find (λ (r : BufferRecord). is_of sequence chunk_id r && r.chunk.partial) buffer.live ≡ None

-- each live record is one that the buffer keeps
abbrev pub AllKept : List Sequence → List Stored → Type 0
AllKept rows [] = Unit {0}
AllKept rows (stored ∷ records) = IsKept rows stored × AllKept rows records

-- no sequence stands twice
abbrev pub NumbersOnce : List Sequence → Type 0
NumbersOnce [] = Unit {0}
NumbersOnce (state ∷ rows) = (is_known rows state.number ≡ false) × NumbersOnce rows

-- a record of each sequence fits into the buffer, and one more than the index has entries for don't
abbrev pub AllFit : ℕ → ℕ → List Sequence → Type 0
AllFit room capacity [] = Unit {0}
AllFit room capacity (state ∷ rows) =
    (state.size ≤ room) × (room < state.size * (capacity + 1)) × AllFit room capacity rows

-- ring, index and rows belong together
pub record AreParts (ring : RingValue) (index : IndexValue) (rows : List Sequence) : Type 0 where
  pub indexed : IsIndexed index.places ring.live
  pub kept : AllKept rows ring.live
  pub once : NumbersOnce rows
  pub fit : AllFit ring.room index.capacity rows

-- the fields of a buffer hold together
pub record IsBuffer (a : Inside) : Type 0 where
  pub parts : AreParts a.ring a.index a.rows.items
  pub counted : a.unfinished ≡ unfinished_of a.rows.items a.ring.live
