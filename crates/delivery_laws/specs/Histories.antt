-- Histories of a buffer that agree with what the writer of one of its sequences wrote, and what their reads deliver of it.
use Rattle.std.specs.Prelude.{◌≡◌, ℕ, suc, ◌==◌, ◌<◌, ◌≤◌, Bool, true, false, not, ◌||◌, List, [], ◌∷◌, ◌++◌, length, Some, slice_get, MatchBool, ⊤}
use Rattle.trace_model.specs.Images.{Chunk, Fragment, Patch, patched_last, last_holds}
use Rattle.trace_model.specs.Fading.{ShowFragments}
use Rattle.trace_model.specs.Reads.{Delivery}
use Rattle.trace_model.specs.History.{Event, Arrives, ArrivesInPart, Patched, Committed, Closed, Read}
use Rattle.delivery_laws.specs.Sheets.{Sheet, WrittenPacket}

-- The deliveries are packets that were written whole, at rising places from `next` on, each marked exactly where it is the
-- first or its place isn't the one behind that of the delivery before.
abbrev pub AreTold : List WrittenPacket → Bool → ℕ → List Delivery → Type 0
AreTold packets first next [] = ⊤
AreTold packets first next (delivery ∷ deliveries) =
    (place : ℕ) × (next ≤ place) × (slice_get packets place ≡ Some (record { bytes = delivery.body; whole = true }))
    × (delivery.marked ≡ (first || not (place == next))) × AreTold packets false (suc place) deliveries

-- The patches that are still to come make the fragments of a chunk those that were written, each while the chunk awaits one.
abbrev pub Completes : List Patch → ℕ → Bool → List Fragment → List Fragment → Type 0
Completes [] chunk_id awaits fragments written = ShowFragments false awaits fragments written
Completes (patch ∷ later) chunk_id awaits fragments written =
    MatchBool (patch.chunk_id == chunk_id)
    ((awaits ≡ true) × (last_holds fragments patch ≡ true)
    × Completes later chunk_id (not patch.last) (patched_last patch fragments) written)
    (Completes later chunk_id awaits fragments written)

-- the chunk at this position, complete, while these patches are still to come
pub record IsComplete (sheets : List Sheet) (later : List Patch) (chunk_id : ℕ) (chunk : Chunk) : Type 0 where
  pub sheet : Sheet
  pub there : slice_get sheets chunk_id ≡ Some sheet
  pub same : chunk ≡ sheet.chunk
  pub completes : Completes later chunk_id chunk.awaits chunk.fragments sheet.written
  pub some : 0 < length chunk.fragments

-- Some fragments of the chunk at this position, and never all: these are the first ones, as they were written. So a scrape takes
-- them while the writer holds the chunk.
pub record IsPart (sheets : List Sheet) (chunk_id : ℕ) (chunk : Chunk) : Type 0 where
  pub sheet : Sheet
  pub there : slice_get sheets chunk_id ≡ Some sheet
  pub continues : chunk.continues ≡ sheet.chunk.continues
  pub shows : ShowFragments true false chunk.fragments sheet.written
  pub some : 0 < length chunk.fragments

-- The events agree with the chunks of the sequence's writer: so many of them have come, in order; the sequence is closed or
-- not, and nothing of it comes once it is; and these patches are still to come. What other sequences do is free.
abbrev pub Legal : List Sheet → ℕ → ℕ → Bool → List Patch → List Event → Type 0
Legal sheets sequence come closed later [] = ⊤
Legal sheets sequence come closed later (Arrives other chunk_id chunk ∷ events) =
    MatchBool (other == sequence)
    ((closed ≡ false) × (chunk_id ≡ come) × IsComplete sheets later come chunk
    × Legal sheets sequence (suc come) closed later events)
    (Legal sheets sequence come closed later events)
Legal sheets sequence come closed later (ArrivesInPart other chunk_id chunk ∷ events) =
    MatchBool (other == sequence)
    ((closed ≡ false) × (chunk_id ≡ come) × IsPart sheets come chunk × Legal sheets sequence come closed later events)
    (Legal sheets sequence come closed later events)
Legal sheets sequence come closed later (Patched other patches ∷ events) =
    MatchBool (other == sequence)
    ((left : List Patch) × (later ≡ patches ++ left) × Legal sheets sequence come closed left events)
    (Legal sheets sequence come closed later events)
Legal sheets sequence come closed later (Committed image patches ∷ events) =
    ((image.sequence == sequence) ≡ false) × Legal sheets sequence come closed later events
Legal sheets sequence come closed later (Closed other ∷ events) =
    MatchBool (other == sequence)
    ((closed ≡ false) × Legal sheets sequence come true later events)
    (Legal sheets sequence come closed later events)
Legal sheets sequence come closed later (Read other limit ∷ events) = Legal sheets sequence come closed later events
