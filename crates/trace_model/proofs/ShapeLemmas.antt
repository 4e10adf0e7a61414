-- No event but its close changes the number of a sequence, the length of its records, the id of its first chunk, or that it is open.
use Rattle.std.proofs.Common.{◌≡◌, ◌∙◌, ℕ, Bool, true, false, ◌||◌, List, [], ◌∷◌, length, map, refl, sym, ap}
use Rattle.std.specs.Prelude.{cond, ◌==◌, filter}
use Rattle.std.specs.List.{list_any}
use Rattle.std.proofs.lemmas.Bool.{false≢true}
use Rattle.trace_model.specs.Images.{Image, Chunk, Patch, whole_chunk, complete_chunk, partial_chunk}
use Rattle.trace_model.specs.Reading.{Reading, Fragments, Unreadable, reading_of}
use Rattle.trace_model.specs.Sequences.{Sequence, sequence_in, is_known, changed_at, fresh}
use Rattle.trace_model.specs.Buffers.{Buffer, meets, with_losses}
use Rattle.trace_model.specs.Arrivals.{Arrived, Kept, Rewritten, Duplicate, Discarded, TooFar, BadChunk, arrival_of, partial_arrival_of, with_arrived, with_discarded, discarded_buffer, settled, makes_arrive, with_arrival, once_read, with_image}
use Rattle.trace_model.specs.Patches.{with_patch, with_patches, closed_sequence, closed_buffer}
use Rattle.trace_model.specs.Row.{row_from_cursor}
use Rattle.trace_model.specs.Reads.{passed_by, sequence_after}
use Rattle.trace_model.specs.History.{Event, Arrives, ArrivesInPart, Patched, Committed, Closed, Read, event_sequence, after, buffer_after}

-- what is seen of a sequence
pub record Shape : Type 0 where
  pub number : ℕ
  pub size : ℕ
  pub from : ℕ
  pub closed : Bool

abbrev pub shape_of : Bool → Sequence → Shape
shape_of all state = record { number = state.number; size = state.size; from = state.from; closed = cond all state.closed false }

-- the event closes a sequence
abbrev pub is_close : Event → Bool
is_close (Closed q) = true
is_close _ = false

-- with or without that it is closed
module _ (all : Bool) where
  abbrev pub shapes : List Sequence → List Shape
  shapes sequences = map (shape_of all) sequences

  shapes_map : (change : Sequence → Sequence) → ((s : Sequence) → shape_of all (change s) ≡ shape_of all s) → (ss : List Sequence) → shapes (map change ss) ≡ shapes ss
  shapes_map change keeps [] = refl
  shapes_map change keeps (s ∷ ss) = ap (λ (x : Shape). x ∷ shapes (map change ss)) (keeps s) ∙ ap (λ (xs : List Shape). shape_of all s ∷ xs) (shapes_map change keeps ss)

  shapes_changed : (q : ℕ) (change : Sequence → Sequence) → ((s : Sequence) → shape_of all (change s) ≡ shape_of all s) → (ss : List Sequence) → shapes (changed_at q change ss) ≡ shapes ss
  shapes_changed q change keeps ss = shapes_map (λ s. cond (s.number == q) (change s) s) (λ s. step s (s.number == q)) ss
    where
      step : (s : Sequence) (b : Bool) → shape_of all (cond b (change s) s) ≡ shape_of all s
      step s true = keeps s
      step s false = refl

  shapes_settled : (outcome : Arrived) (b : Buffer) (q chunk_id : ℕ) (chunk : Chunk) → shapes (settled outcome b q chunk_id chunk).sequences ≡ shapes b.sequences
  shapes_settled Kept b q chunk_id chunk = shapes_map (with_losses (filter (meets b (sequence_in b.sequences q).size) b.live)) (λ s. refl) b.sequences
  shapes_settled Rewritten b q chunk_id chunk = refl
  shapes_settled Duplicate b q chunk_id chunk = refl
  shapes_settled Discarded b q chunk_id chunk = step chunk.partial
    where
      step : (x : Bool) → shapes (cond x (record b { shut = true }) (discarded_buffer b q chunk_id chunk)).sequences ≡ shapes b.sequences
      step true = refl
      step false = shapes_changed q (with_discarded chunk_id chunk) (λ s. refl) b.sequences
  shapes_settled TooFar b q chunk_id chunk = refl
  shapes_settled (BadChunk fragment) b q chunk_id chunk = refl

  shapes_arrival : (b : Buffer) (q chunk_id : ℕ) (chunk : Chunk) → shapes (with_arrival b q chunk_id chunk).sequences ≡ shapes b.sequences
  shapes_arrival b q chunk_id chunk =
      step (makes_arrive (arrival_of b q chunk_id)) (settled (arrival_of b q chunk_id) b q chunk_id (complete_chunk chunk)).sequences
      ∙ shapes_settled (arrival_of b q chunk_id) b q chunk_id (complete_chunk chunk)
    where
      step : (x : Bool) (ss : List Sequence) → shapes (cond x (changed_at q (with_arrived chunk_id (length chunk.fragments)) ss) ss) ≡ shapes ss
      step true ss = shapes_changed q (with_arrived chunk_id (length chunk.fragments)) (λ s. refl) ss
      step false ss = refl

  shapes_patches : (b : Buffer) (q : ℕ) (patches : List Patch) → shapes (with_patches b q patches).sequences ≡ shapes b.sequences
  shapes_patches b q [] = refl
  shapes_patches b q (patch ∷ patches) = shapes_patches (with_patch b q patch) q patches

  shapes_image : (b : Buffer) (image : Image) → shapes (with_image b image).sequences ≡ shapes b.sequences
  shapes_image b image = by_reading (reading_of image.count image.payload)
    where
      by_reading : (reading : Reading) → shapes (once_read b (with_arrival b image.sequence image.chunk_id) image.flags reading).sequences ≡ shapes b.sequences
      by_reading (Fragments fragments) = shapes_arrival b image.sequence image.chunk_id (whole_chunk image.flags fragments)
      by_reading (Unreadable number) = refl

  -- every event but a close
  shapes_after : (b : Buffer) (event : Event) → is_close event ≡ false → shapes (after b event).sequences ≡ shapes b.sequences
  shapes_after b (Arrives q chunk_id chunk) none = shapes_arrival b q chunk_id chunk
  shapes_after b (ArrivesInPart q chunk_id chunk) none = shapes_settled (partial_arrival_of b q chunk_id (length chunk.fragments)) b q chunk_id (partial_chunk chunk)
  shapes_after b (Patched q patches) none = shapes_patches b q patches
  shapes_after b (Committed image patches) none = shapes_patches (with_image b image) image.sequence patches ∙ shapes_image b image
  shapes_after b (Closed q) none = absurd (false≢true (sym none))
  shapes_after b (Read q limit) none = shapes_changed q (sequence_after (passed_by limit (row_from_cursor b (sequence_in b.sequences q)))) (λ s. refl) b.sequences

  pub known_shapes : (ss : List Sequence) (q : ℕ) → is_known ss q ≡ list_any (λ (s : Shape). s.number == q) (shapes ss)
  known_shapes [] q = refl
  known_shapes (s ∷ ss) q = ap (λ (b : Bool). (s.number == q) || b) (known_shapes ss q)

  -- one sequence, by its shape
  abbrev shape_in : List Shape → ℕ → Shape
  shape_in [] q = shape_of all (fresh q 0 0)
  shape_in (s ∷ ss) q = cond (s.number == q) s (shape_in ss q)

  in_shapes : (ss : List Sequence) (q : ℕ) → shape_of all (sequence_in ss q) ≡ shape_in (shapes ss) q
  in_shapes [] q = refl
  in_shapes (s ∷ ss) q = step (s.number == q) (in_shapes ss q)
    where
      step : (b : Bool) → shape_of all (sequence_in ss q) ≡ shape_in (shapes ss) q
          → shape_of all (cond b s (sequence_in ss q)) ≡ cond b (shape_of all s) (shape_in (shapes ss) q)
      step true e = refl
      step false e = e

  pub same_shape : (ss ts : List Sequence) (q : ℕ) → shapes ts ≡ shapes ss → shape_of all (sequence_in ts q) ≡ shape_of all (sequence_in ss q)
  same_shape ss ts q same = in_shapes ts q ∙ ap (λ (xs : List Shape). shape_in xs q) same ∙ sym (in_shapes ss q)

-- no event changes the number of a sequence, or the length of its records
pub shapes_event : (b : Buffer) (event : Event) → shapes false (buffer_after b event).sequences ≡ shapes false b.sequences
shapes_event b event = step (is_known b.sequences (event_sequence event))
  where
    close : (p : ℕ) (x : Bool) → shapes false (cond x b (closed_buffer b p)).sequences ≡ shapes false b.sequences
    close p true = refl
    close p false = shapes_changed false p (closed_sequence b.live) (λ s. refl) b.sequences

    by_event : (e : Event) → shapes false (after b e).sequences ≡ shapes false b.sequences
    by_event (Arrives p chunk_id chunk) = shapes_after false b (Arrives p chunk_id chunk) refl
    by_event (ArrivesInPart p chunk_id chunk) = shapes_after false b (ArrivesInPart p chunk_id chunk) refl
    by_event (Patched p patches) = shapes_after false b (Patched p patches) refl
    by_event (Committed image patches) = shapes_after false b (Committed image patches) refl
    by_event (Closed p) = close p (sequence_in b.sequences p).closed
    by_event (Read p limit) = shapes_after false b (Read p limit) refl

    step : (x : Bool) → shapes false (cond x (after b event) b).sequences ≡ shapes false b.sequences
    step true = by_event event
    step false = refl

pub size_after : (b : Buffer) (event : Event) (q : ℕ) → (sequence_in (buffer_after b event).sequences q).size ≡ (sequence_in b.sequences q).size
size_after b event q = ap (λ (s : Shape). s.size) (same_shape false b.sequences (buffer_after b event).sequences q (shapes_event b event))

pub from_after : (b : Buffer) (event : Event) (q : ℕ) → (sequence_in (buffer_after b event).sequences q).from ≡ (sequence_in b.sequences q).from
from_after b event q = ap (λ (s : Shape). s.from) (same_shape false b.sequences (buffer_after b event).sequences q (shapes_event b event))

-- one that closes none leaves open what is open
pub closed_after : (b : Buffer) (event : Event) (q : ℕ) → is_close event ≡ false → (sequence_in (buffer_after b event).sequences q).closed ≡ (sequence_in b.sequences q).closed
closed_after b event q none = ap (λ (s : Shape). s.closed) (same_shape true b.sequences (buffer_after b event).sequences q (step (is_known b.sequences (event_sequence event))))
  where
    step : (x : Bool) → shapes true (cond x (after b event) b).sequences ≡ shapes true b.sequences
    step true = shapes_after true b event none
    step false = refl
