-- What a sequence keeps of its records as it is closed.
use Rattle.std.specs.Prelude.{◌≡◌, ℕ, ◌==◌, ◌&&◌, true, false, List, [], ◌∷◌, map, filter, if◌then◌else◌}
use Rattle.ring_bytes.specs.declared.key.RecordKey.{RecordKey}
use Rattle.ring_bytes.specs.Value.{Stored}
use Rattle.trace_model.specs.Arrivals.{is_too_far}
use Rattle.trace_model.specs.Buffers.{BufferRecord}
use Rattle.trace_model.specs.Sequences.{Sequence, has_arrived, rising, with_number}

-- the positions of the sequence of which a part is there
abbrev pub parts_of : ℕ → List BufferRecord → List ℕ
parts_of number live =
    map
    (λ (stored : BufferRecord). stored.chunk_id)
    (filter (λ (stored : BufferRecord). (stored.sequence == number) && stored.chunk.partial) live)

-- the chunks of which a part is there as the sequence is closed
abbrev pub finals_of : ℕ → List BufferRecord → List ℕ
finals_of number live = rising (parts_of number live)

-- the positions once that of the record is put in, where it is a part of a chunk of the sequence
abbrev pub final_with : ℕ → RecordKey → List ℕ → List ℕ
final_with number key ids = if (key.sequence == number) && key.partial then with_number key.chunk_id ids else ids

-- where the record is such a part, its chunk is still to come, and not too far ahead
abbrev pub IsStillNear : Sequence → RecordKey → Type 0
IsStillNear state key =
    key.sequence ≡ state.number → key.partial ≡ true
    → (has_arrived state key.chunk_id ≡ false) × (is_too_far state key.chunk_id ≡ false)

-- each live part is of a chunk that may still come
abbrev pub PartsAreNear : Sequence → List Stored → Type 0
PartsAreNear state [] = Unit {0}
PartsAreNear state (stored ∷ records) = IsStillNear state stored.key × PartsAreNear state records
