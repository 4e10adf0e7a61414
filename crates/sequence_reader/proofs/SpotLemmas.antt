-- Where a reader's cursor stands in a chunk that has a record.
use Rattle.std.proofs.Common.{◌≡◌, ℕ, suc, ◌<◌, ◌≤◌, ◌&&◌, not, Bool, true, false, List, length, Option, Some, sym, ap, ◌∙◌, subst, arith}
use Rattle.ring_bytes.specs.declared.key.RecordKey.{RecordKey}
use Rattle.trace_model.specs.Buffers.{Buffer, BufferRecord, live_at}
use Rattle.trace_model.specs.Images.{Chunk}
use Rattle.trace_model.specs.Reading.{reading_of, is_readable, fragments_of}
use Rattle.trace_model.specs.Row.{is_part, place}
use Rattle.trace_model.specs.Sequences.{sequence_in}
use Rattle.trace_buffer.specs.Calls.{TellsRecord}
use Rattle.trace_buffer.proofs.LossLemmas.{reading_length}
use Rattle.sequence_reader.specs.declared.spot.Bounds.{Bounds}
use Rattle.sequence_reader.specs.declared.spot.Spot.{Spot}
use Rattle.sequence_reader.specs.Spots.{AreBounds, FitsChunk, rows_of, start_from}
use Rattle.sequence_reader.proofs.RowLemmas.{row_next, slot_here}

fragments_are : (key : RecordKey) (payload : List ℕ) (stored : BufferRecord) → TellsRecord key payload stored → fragments_of (reading_of key.count payload) ≡ stored.chunk.fragments
fragments_are key payload stored tells = ap (λ (chunk : Chunk). chunk.fragments) tells.chunk

long : (key : RecordKey) (payload : List ℕ) (stored : BufferRecord) → TellsRecord key payload stored → length stored.chunk.fragments ≡ key.count
long key payload stored tells =
    sym (ap length (fragments_are key payload stored tells)) ∙ reading_length key.count payload (ap is_readable tells.reads)

the_same : (o : Option BufferRecord) (stored other : BufferRecord) → o ≡ Some stored → o ≡ Some other → stored ≡ other
the_same o stored other is found = let both : Some stored ≡ Some other = sym is ∙ found in cc

pub fits_within : (key : RecordKey) (payload : List ℕ) (stored other : BufferRecord) (o : Option BufferRecord) (closed : Bool) (spot : Spot)
    → TellsRecord key payload stored → o ≡ Some stored → o ≡ Some other → spot.passed < key.count
    → spot.offset ≡ start_from 0 spot.passed (fragments_of (reading_of key.count payload)) → FitsChunk closed other.chunk spot
fits_within key payload stored other o closed spot tells is found less offset =
    subst (λ (r : BufferRecord). FitsChunk closed r.chunk spot) (the_same o stored other is found)
    (record {
      offset = λ few. offset ∙ ap (start_from 0 spot.passed) (fragments_are key payload stored tells);
      left = λ all some. absurd (omega (arith, all, less, long key payload stored tells));
    })

pub fits_part : (key : RecordKey) (payload : List ℕ) (stored other : BufferRecord) (o : Option BufferRecord) (closed : Bool) (spot : Spot)
    → TellsRecord key payload stored → o ≡ Some stored → o ≡ Some other → key.count ≤ spot.passed → (key.partial && not closed) ≡ true → FitsChunk closed other.chunk spot
fits_part key payload stored other o closed spot tells is found more part =
    subst (λ (r : BufferRecord). FitsChunk closed r.chunk spot) (the_same o stored other is found)
    (record {
      offset = λ few. absurd (omega (arith, few, more, long key payload stored tells));
      left = λ all some. ap (λ (chunk : Chunk). is_part closed chunk) (sym tells.chunk) ∙ part;
    })

pub passed_row : (b : Buffer) (bounds : Bounds) (i k : ℕ) (key : RecordKey) (payload : List ℕ) (stored : BufferRecord) → AreBounds b bounds → TellsRecord key payload stored
    → live_at b bounds.sequence i ≡ Some stored → i < bounds.end → key.count ≤ k → (key.partial && not bounds.closed) ≡ false
    → rows_of b bounds.sequence (place i k) ≡ rows_of b bounds.sequence (place (suc i) 0)
passed_row b bounds i k key payload stored are tells live before more whole =
    row_next b (sequence_in b.sequences bounds.sequence) i k stored.chunk (slot_here b bounds.sequence i stored are.known live)
    (subst (λ n. i < n) (sym are.end) before) (omega (arith, more, long key payload stored tells))
    (ap (λ x. is_part x stored.chunk) are.closed ∙ ap (λ (chunk : Chunk). is_part bounds.closed chunk) (sym tells.chunk) ∙ whole)
