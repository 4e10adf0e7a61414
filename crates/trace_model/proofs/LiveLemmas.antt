-- The live records of a buffer are those of its placements.
use Rattle.std.proofs.Common.{◌≡◌, ◌∙◌, ℕ, length, Bool, true, false, not, ◌&&◌, List, [], ◌∷◌, ◌++◌, map, refl, sym, ap}
use Rattle.std.specs.Prelude.{filter, cond}
use Rattle.trace_model.specs.Images.{Chunk, Patch, complete_chunk, partial_chunk, whole_chunk, last_holds}
use Rattle.trace_model.specs.Places.{Placement, placement_after, placements_from, live_after, place_after, is_met}
use Rattle.trace_model.specs.Reading.{Reading, Fragments, Unreadable, reading_of}
use Rattle.trace_model.specs.Sequences.{sequence_in, is_known}
use Rattle.trace_model.specs.Buffers.{Buffer, BufferRecord, is_of, made_room, empty_buffer}
use Rattle.trace_model.specs.Arrivals.{Arrived, Kept, Rewritten, Duplicate, Discarded, TooFar, BadChunk, arrival_of, partial_arrival_of, image_arrival_of, settled, arrival_noted, with_arrival, with_image, with_record, with_rewritten, discarded_buffer, once_read, outcome_of}
use Rattle.trace_model.specs.Patches.{with_patch, with_patches, closed_buffer, awaits_at, patched_chunk}
use Rattle.trace_model.specs.Reads.{with_read}
use Rattle.trace_model.specs.History.{Event, Arrives, ArrivesInPart, Patched, Committed, Closed, Read, event_sequence, after, buffer_after, state_after}
use Rattle.trace_model.specs.PlaceLaws.{Interval, interval_of, placed_interval, placed_where, placed_by, placed_sizes, LiveAreUnmet}
use Rattle.trace_model.proofs.PlaceLemmas.{map-filter, live_after-all, live_after-append, next_after, placements_from-append}
use Rattle.std.proofs.lemmas.List.{map-append}

-- records of these sizes get new places from the first buffer to the second
record Moves (b c : Buffer) (sizes : List ℕ) : Type 0 where
  live : (ps : List Placement) → map interval_of b.live ≡ map placed_interval ps
      → map interval_of c.live ≡ map placed_interval (live_after ps (placements_from b.room b.next sizes))
  room : c.room ≡ b.room
  next : c.next ≡ next_after b.room b.next sizes

-- the second buffer has its records where the first one has them
record Stays (b c : Buffer) : Type 0 where
  live : map interval_of c.live ≡ map interval_of b.live
  room : c.room ≡ b.room
  next : c.next ≡ b.next

stays_same : (b : Buffer) → Stays b b
stays_same b = record { live = refl; room = refl; next = refl }

stays_both : (b c d : Buffer) → Stays b c → Stays c d → Stays b d
stays_both b c d h k = record { live = k.live ∙ h.live; room = k.room ∙ h.room; next = k.next ∙ h.next }

moves_none : (b c : Buffer) → Stays b c → Moves b c []
moves_none b c h = record { live = λ ps e. h.live ∙ e; room = h.room; next = h.next }

moves_stays : (b c d : Buffer) (sizes : List ℕ) → Moves b c sizes → Stays c d → Moves b d sizes
moves_stays b c d sizes h k = record { live = λ ps e. k.live ∙ h.live ps e; room = k.room ∙ h.room; next = k.next ∙ h.next }

-- changes of what records have keep their places
same_intervals : (f : BufferRecord → BufferRecord) → ((r : BufferRecord) → interval_of (f r) ≡ interval_of r)
    → (rs : List BufferRecord) → map interval_of (map f rs) ≡ map interval_of rs
same_intervals f h [] = refl
same_intervals f h (r ∷ rs) = ap (λ (i : Interval). i ∷ map interval_of (map f rs)) (h r) ∙ ap (λ (is : List Interval). interval_of r ∷ is) (same_intervals f h rs)

chunk_changed : (b : Bool) (r : BufferRecord) (chunk : Chunk) → interval_of (cond b (record r { chunk = chunk }) r) ≡ interval_of r
chunk_changed true r chunk = refl
chunk_changed false r chunk = refl

stays_rewritten : (b : Buffer) (sequence chunk_id : ℕ) (chunk : Chunk) → Stays b (with_rewritten b sequence chunk_id chunk)
stays_rewritten b sequence chunk_id chunk = record {
  live = same_intervals (λ (r : BufferRecord). cond (is_of sequence chunk_id r) (record r { chunk = chunk }) r)
      (λ r. chunk_changed (is_of sequence chunk_id r) r chunk) b.live;
  room = refl;
  next = refl;
}

stays_patched : (b : Buffer) (sequence : ℕ) (patch : Patch) → Stays b (with_patch b sequence patch)
stays_patched b sequence patch = record {
  live = same_intervals
      (λ (r : BufferRecord). cond (awaits_at sequence patch.chunk_id r && last_holds r.chunk.fragments patch) (record r { chunk = patched_chunk patch r.chunk }) r)
      (λ r. chunk_changed (awaits_at sequence patch.chunk_id r && last_holds r.chunk.fragments patch) r (patched_chunk patch r.chunk)) b.live;
  room = refl;
  next = refl;
}

stays_all_patched : (patches : List Patch) (b : Buffer) (sequence : ℕ) → Stays b (with_patches b sequence patches)
stays_all_patched [] b sequence = stays_same b
stays_all_patched (patch ∷ others) b sequence =
    stays_both b (with_patch b sequence patch) (with_patches (with_patch b sequence patch) sequence others)
    (stays_patched b sequence patch) (stays_all_patched others (with_patch b sequence patch) sequence)

-- a next record of this size doesn't meet the interval
abbrev unmet : Buffer → ℕ → Interval → Bool
unmet b size i = not (is_met b.room b.next size i.at i.size)

moves_record : (b : Buffer) (sequence chunk_id size : ℕ) (chunk : Chunk)
    → Moves b (with_record (made_room b size) sequence chunk_id size chunk) (size ∷ [])
moves_record b sequence chunk_id size chunk = record {
  live = λ ps e.
      let here : Interval = record { at = place_after b.room b.next size; size = size } in
      let new : BufferRecord = record { sequence = sequence; chunk_id = chunk_id; at = place_after b.room b.next size; size = size; chunk = chunk } in
      map-append interval_of (filter (λ (r : BufferRecord). unmet b size (interval_of r)) b.live) (new ∷ [])
      ∙ ap (λ (is : List Interval). is ++ here ∷ [])
      (map-filter interval_of (unmet b size) b.live ∙ ap (filter (unmet b size)) e ∙ sym (map-filter placed_interval (unmet b size) ps))
      ∙ sym (map-append placed_interval (filter (λ (p : Placement). unmet b size (placed_interval p)) ps) (placement_after b.room b.next size ∷ []));
  room = refl;
  next = refl;
}

-- Events

stays_noted : (outcome : Arrived) (sequence chunk_id count : ℕ) (b c : Buffer) → Stays b c → Stays b (arrival_noted outcome sequence chunk_id count c)
stays_noted outcome sequence chunk_id count b c h = record { live = h.live; room = h.room; next = h.next }

stays_where : (partial : Bool) (b c d : Buffer) → Stays b c → Stays b d → Stays b (cond partial c d)
stays_where true b c d h k = h
stays_where false b c d h k = k

moves_settled : (outcome : Arrived) (b : Buffer) (sequence chunk_id : ℕ) (chunk : Chunk)
    → Moves b (settled outcome b sequence chunk_id chunk) (placed_where outcome (sequence_in b.sequences sequence).size)
moves_settled Kept b sequence chunk_id chunk = moves_record b sequence chunk_id (sequence_in b.sequences sequence).size chunk
moves_settled Rewritten b sequence chunk_id chunk = moves_none b (with_rewritten b sequence chunk_id chunk) (stays_rewritten b sequence chunk_id chunk)
moves_settled Duplicate b sequence chunk_id chunk = moves_none b b (stays_same b)
moves_settled Discarded b sequence chunk_id chunk =
    moves_none b (settled Discarded b sequence chunk_id chunk)
    (stays_where chunk.partial b (record b { shut = true }) (discarded_buffer b sequence chunk_id chunk)
    (record { live = refl; room = refl; next = refl }) (record { live = refl; room = refl; next = refl }))
moves_settled TooFar b sequence chunk_id chunk = moves_none b b (stays_same b)
moves_settled (BadChunk fragment) b sequence chunk_id chunk = moves_none b b (stays_same b)

moves_arrival : (b : Buffer) (sequence chunk_id : ℕ) (chunk : Chunk)
    → Moves b (with_arrival b sequence chunk_id chunk) (placed_where (arrival_of b sequence chunk_id) (sequence_in b.sequences sequence).size)
moves_arrival b sequence chunk_id chunk =
    let outcome : Arrived = arrival_of b sequence chunk_id in
    let c : Buffer = settled outcome b sequence chunk_id (complete_chunk chunk) in
    moves_stays b c (arrival_noted outcome sequence chunk_id (length chunk.fragments) c) (placed_where outcome (sequence_in b.sequences sequence).size)
    (moves_settled outcome b sequence chunk_id (complete_chunk chunk))
    (stays_noted outcome sequence chunk_id (length chunk.fragments) c c (stays_same c))

moves_read : (b : Buffer) (sequence chunk_id flags : ℕ) (reading : Reading)
    → Moves b (once_read b (with_arrival b sequence chunk_id) flags reading)
    (placed_where (outcome_of (arrival_of b sequence chunk_id) reading) (sequence_in b.sequences sequence).size)
moves_read b sequence chunk_id flags (Fragments fragments) = moves_arrival b sequence chunk_id (whole_chunk flags fragments)
moves_read b sequence chunk_id flags (Unreadable number) = moves_none b b (stays_same b)

moves_close : (closed : Bool) (b : Buffer) (sequence : ℕ) → Moves b (cond closed b (closed_buffer b sequence)) []
moves_close true b sequence = moves_none b b (stays_same b)
moves_close false b sequence = moves_none b (closed_buffer b sequence) (record { live = refl; room = refl; next = refl })

moves_event : (b : Buffer) (event : Event) → Moves b (after b event) (placed_by b event)
moves_event b (Arrives sequence chunk_id chunk) = moves_arrival b sequence chunk_id chunk
moves_event b (ArrivesInPart sequence chunk_id chunk) =
    moves_settled (partial_arrival_of b sequence chunk_id (length chunk.fragments)) b sequence chunk_id (partial_chunk chunk)
moves_event b (Patched sequence patches) = moves_none b (with_patches b sequence patches) (stays_all_patched patches b sequence)
moves_event b (Committed image patches) =
    moves_stays b (with_image b image) (with_patches (with_image b image) image.sequence patches)
    (placed_where (image_arrival_of b image) (sequence_in b.sequences image.sequence).size)
    (moves_read b image.sequence image.chunk_id image.flags (reading_of image.count image.payload))
    (stays_all_patched patches (with_image b image) image.sequence)
moves_event b (Closed sequence) = moves_close (sequence_in b.sequences sequence).closed b sequence
moves_event b (Read sequence limit) = moves_none b (with_read b sequence limit) (record { live = refl; room = refl; next = refl })

moves_known : (known : Bool) (b : Buffer) (event : Event) → Moves b (cond known (after b event) b) (cond known (placed_by b event) [])
moves_known true b event = moves_event b event
moves_known false b event = moves_none b b (stays_same b)

lives : (b : Buffer) (events : List Event) (ps : List Placement) → map interval_of b.live ≡ map placed_interval ps
    → map interval_of (state_after b events).live ≡ map placed_interval (live_after ps (placements_from b.room b.next (placed_sizes b events)))
lives b [] ps e = e
lives b (event ∷ events) ps e =
    let c : Buffer = buffer_after b event in
    let sizes : List ℕ = cond (is_known b.sequences (event_sequence event)) (placed_by b event) [] in
    let step : Moves b c sizes = moves_known (is_known b.sequences (event_sequence event)) b event in
    let more : List ℕ = placed_sizes c events in
    let now : List Placement = live_after ps (placements_from b.room b.next sizes) in
    lives c events now (step.live ps e)
    ∙ ap (λ (room : ℕ). map placed_interval (live_after now (placements_from room c.next more))) step.room
    ∙ ap (λ (next : ℕ). map placed_interval (live_after now (placements_from b.room next more))) step.next
    ∙ ap (map placed_interval) (sym (live_after-append ps (placements_from b.room b.next sizes) (placements_from b.room (next_after b.room b.next sizes) more)))
    ∙ ap (λ (qs : List Placement). map placed_interval (live_after ps qs)) (sym (placements_from-append b.room b.next sizes more))

pub live_are_unmet : LiveAreUnmet
live_are_unmet room policy sequences events =
    let b : Buffer = empty_buffer room policy sequences in
    lives b events [] refl
    ∙ ap (map placed_interval) (live_after-all [] (placements_from room 0 (placed_sizes b events)))
