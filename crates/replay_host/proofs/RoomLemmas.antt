-- A buffer is as large behind any events as before.
use Rattle.std.proofs.Common.{◌≡◌, ◌∙◌, ℕ, Bool, true, false, cond, List, [], ◌∷◌, length, refl}
use Rattle.trace_model.specs.Arrivals.{Arrived, Kept, Rewritten, Duplicate, Discarded, TooFar, BadChunk, settled, discarded_buffer, arrival_of, partial_arrival_of, with_arrival, with_image, once_read}
use Rattle.trace_model.specs.Buffers.{Buffer}
use Rattle.trace_model.specs.History.{Event, Arrives, ArrivesInPart, Patched, Committed, Closed, Read, after, buffer_after, event_sequence, state_after}
use Rattle.trace_model.specs.Images.{Image, Chunk, Patch, complete_chunk, partial_chunk, whole_chunk}
use Rattle.trace_model.specs.Patches.{with_patch, with_patches, closed_buffer}
use Rattle.trace_model.specs.Reading.{Reading, Fragments, Unreadable, reading_of}
use Rattle.trace_model.specs.Sequences.{sequence_in, is_known}

room_settled : (outcome : Arrived) (b : Buffer) (q chunk_id : ℕ) (chunk : Chunk) → (settled outcome b q chunk_id chunk).room ≡ b.room
room_settled Kept b q chunk_id chunk = refl
room_settled Rewritten b q chunk_id chunk = refl
room_settled Duplicate b q chunk_id chunk = refl
room_settled Discarded b q chunk_id chunk = step chunk.partial
  where
    step : (x : Bool) → (cond x (record b { shut = true }) (discarded_buffer b q chunk_id chunk)).room ≡ b.room
    step true = refl
    step false = refl
room_settled TooFar b q chunk_id chunk = refl
room_settled (BadChunk fragment) b q chunk_id chunk = refl

room_arrival : (b : Buffer) (q chunk_id : ℕ) (chunk : Chunk) → (with_arrival b q chunk_id chunk).room ≡ b.room
room_arrival b q chunk_id chunk = room_settled (arrival_of b q chunk_id) b q chunk_id (complete_chunk chunk)

room_patches : (b : Buffer) (q : ℕ) (patches : List Patch) → (with_patches b q patches).room ≡ b.room
room_patches b q [] = refl
room_patches b q (patch ∷ patches) = room_patches (with_patch b q patch) q patches

room_image : (b : Buffer) (image : Image) → (with_image b image).room ≡ b.room
room_image b image = by_reading (reading_of image.count image.payload)
  where
    by_reading : (reading : Reading) → (once_read b (with_arrival b image.sequence image.chunk_id) image.flags reading).room ≡ b.room
    by_reading (Fragments fragments) = room_arrival b image.sequence image.chunk_id (whole_chunk image.flags fragments)
    by_reading (Unreadable number) = refl

room_event : (b : Buffer) (event : Event) → (after b event).room ≡ b.room
room_event b (Arrives q chunk_id chunk) = room_arrival b q chunk_id chunk
room_event b (ArrivesInPart q chunk_id chunk) = room_settled (partial_arrival_of b q chunk_id (length chunk.fragments)) b q chunk_id (partial_chunk chunk)
room_event b (Patched q patches) = room_patches b q patches
room_event b (Committed image patches) = room_patches (with_image b image) image.sequence patches ∙ room_image b image
room_event b (Closed q) = step (sequence_in b.sequences q).closed
  where
    step : (x : Bool) → (cond x b (closed_buffer b q)).room ≡ b.room
    step true = refl
    step false = refl
room_event b (Read q limit) = refl

pub room_after : (events : List Event) (b : Buffer) → (state_after b events).room ≡ b.room
room_after [] b = refl
room_after (event ∷ events) b = room_after events (buffer_after b event) ∙ step (is_known b.sequences (event_sequence event))
  where
    step : (x : Bool) → (cond x (after b event) b).room ≡ b.room
    step true = room_event b event
    step false = refl
