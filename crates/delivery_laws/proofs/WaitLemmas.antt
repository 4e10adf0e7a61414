-- Records that await patches get them, and a chunk that comes has a record.
use Rattle.std.proofs.Common.{◌≡◌, ◌∙◌, ℕ, ◌+◌, ◌≤◌, Bool, true, false, not, ◌&&◌, ◌||◌, List, [], ◌∷◌, ◌++◌, Option, Some, None, refl, sym, ap}
use Rattle.std.specs.Prelude.{cond, ◌==◌, find, filter, is_some, MatchBool}
use Rattle.std.proofs.lemmas.Bool.{false≢true, eqb-true, eq-eqb, and_parts, and_from, or_right}
use Rattle.std.proofs.lemmas.List.Folds.{list_any-append}
use Rattle.std.proofs.Math.Bool.{or-false}
use Rattle.trace_model.specs.Images.{Chunk, Patch, patched_last, last_holds}
use Rattle.trace_model.specs.Sequences.{is_among, sequence_in}
use Rattle.trace_model.specs.Buffers.{Buffer, BufferRecord, is_of, live_at, meets, made_room}
use Rattle.trace_model.specs.Places.{place_after}
use Rattle.trace_model.specs.Arrivals.{Arrived, Kept, Rewritten, Duplicate, Discarded, TooFar, BadChunk, is_refused, placing_of, settled, discarded_buffer}
use Rattle.trace_model.specs.Patches.{awaits_at, patched_chunk, with_patch, with_patches}
use Rattle.trace_model.specs.Sent.{chunks_of, LastsAre}
use Rattle.delivery_laws.specs.Sheets.{Sheet}
use Rattle.delivery_laws.specs.Histories.{Completes}
use Rattle.delivery_laws.specs.Room.{asks_for}
use Rattle.delivery_laws.proofs.KnownLemmas.{IsGood, EachOf, IsKnown}
use Rattle.delivery_laws.proofs.KeepLemmas.{each_append, each_filter, each_change}
use Rattle.delivery_laws.proofs.OwnEvents.{patched_known}
use Rattle.delivery_laws.proofs.RoomLemmas.{has_record, IsRoomy, none_refused}
use Rattle.delivery_laws.proofs.CalmLemmas.{Waits}

-- Records that wait for patches

-- a chunk that comes gives a new record or changes its own, or nothing
pub settled_each : (q : ℕ) (P : BufferRecord → Type 0) (b : Buffer) (chunk_id : ℕ) (chunk : Chunk) → EachOf q P b.live
    → ((r : BufferRecord) → r.chunk_id ≡ chunk_id → r.chunk ≡ chunk → P r) → (outcome : Arrived) → EachOf q P (settled outcome b q chunk_id chunk).live
settled_each q P b chunk_id chunk each new Kept =
    each_append q P (filter (λ stored. not (meets b (sequence_in b.sequences q).size stored)) b.live)
    (record { sequence = q; chunk_id = chunk_id; at = place_after b.room b.next (sequence_in b.sequences q).size; size = (sequence_in b.sequences q).size; chunk = chunk } ∷ [])
    (each_filter q P (λ stored. not (meets b (sequence_in b.sequences q).size stored)) b.live each)
    ((λ of. new (record { sequence = q; chunk_id = chunk_id; at = place_after b.room b.next (sequence_in b.sequences q).size; size = (sequence_in b.sequences q).size; chunk = chunk }) refl refl), tt)
settled_each q P b chunk_id chunk each new Rewritten =
    each_change q P P (λ stored. cond (is_of q chunk_id stored) (record stored { chunk = chunk }) stored)
    (λ r old of. by_test r (is_of q chunk_id r) refl old of) b.live each
  where
    by_test : (r : BufferRecord) (x : Bool) → is_of q chunk_id r ≡ x → ((r.sequence == q) ≡ true → P r)
        → ((cond x (record r { chunk = chunk }) r).sequence == q) ≡ true → P (cond x (record r { chunk = chunk }) r)
    by_test r true e old of = new (record r { chunk = chunk }) (eqb-true r.chunk_id chunk_id (and_parts (r.sequence == q) (r.chunk_id == chunk_id) e).1) refl
    by_test r false e old of = old of
settled_each q P b chunk_id chunk each new Duplicate = each
settled_each q P b chunk_id chunk each new Discarded = step chunk.partial
  where
    step : (x : Bool) → EachOf q P (cond x (record b { shut = true }) (discarded_buffer b q chunk_id chunk)).live
    step true = each
    step false = each
settled_each q P b chunk_id chunk each new TooFar = each
settled_each q P b chunk_id chunk each new (BadChunk fragment) = each

each_both : (q : ℕ) (P Q : BufferRecord → Type 0) (rs : List BufferRecord) → EachOf q P rs → EachOf q Q rs → EachOf q (λ r. P r × Q r) rs
each_both q P Q [] h k = tt
each_both q P Q (r ∷ rs) h k = ((λ e. (h.0 e, k.0 e)), each_both q P Q rs h.1 k.1)

module _ (sheets : List Sheet) (q come : ℕ) (closed : Bool) where
  patched_waits : (patch : Patch) (later first : List Patch) (r : BufferRecord) (x : Bool) → (awaits_at q patch.chunk_id r && last_holds r.chunk.fragments patch) ≡ x
      → (r.sequence == q) ≡ true → LastsAre [] (patch ∷ first) → IsGood sheets come (patch ∷ later) r → Waits (patch ∷ first) r
      → Waits first (cond x (record r { chunk = patched_chunk patch r.chunk }) r)
  patched_waits patch later first r true e of lasts good waits more =
      let holds = and_parts (awaits_at q patch.chunk_id r) (last_holds r.chunk.fragments patch) e in
      let awaits = and_parts (is_of q patch.chunk_id r) r.chunk.awaits holds.0 in
      let same : r.chunk_id ≡ patch.chunk_id = eqb-true r.chunk_id patch.chunk_id (and_parts (r.sequence == q) (r.chunk_id == patch.chunk_id) awaits.0).1 in
      ap (λ (n : ℕ). is_among n (chunks_of first)) same
      ∙ was (is_among patch.chunk_id (chunks_of first)) (ap not (sym lasts.0) ∙ more)
    where
      was : (a : Bool) → not (not (a || false)) ≡ true → a ≡ true
      was true h = refl
      was false h = absurd (false≢true h)
  patched_waits patch later first r false e of lasts good waits more = by_id (patch.chunk_id == r.chunk_id) refl (waits more)
    where
      by_part : (patch.chunk_id == r.chunk_id) ≡ true → (p : Bool) → r.chunk.partial ≡ p → ⊥
      by_part f true p = false≢true (sym (good.part p).2 ∙ more)
      by_part f false p =
          let holds = here (patch.chunk_id == r.chunk_id) f (good.complete p).2 in
          let is : is_of q patch.chunk_id r ≡ true = and_from (r.sequence == q) (r.chunk_id == patch.chunk_id) of (eq-eqb r.chunk_id patch.chunk_id (sym (eqb-true patch.chunk_id r.chunk_id f))) in
          false≢true (sym e ∙ and_from (awaits_at q patch.chunk_id r) (last_holds r.chunk.fragments patch) (and_from (is_of q patch.chunk_id r) r.chunk.awaits is more) holds)
        where
          here : (x : Bool) → x ≡ true
              → MatchBool x ((r.chunk.awaits ≡ true) × (last_holds r.chunk.fragments patch ≡ true) × Completes later r.chunk_id (not patch.last) (patched_last patch r.chunk.fragments) good.sheet.written)
              (Completes later r.chunk_id r.chunk.awaits r.chunk.fragments good.sheet.written)
              → last_holds r.chunk.fragments patch ≡ true
          here true g h = h.1
          here false g h = absurd (false≢true g)

      by_id : (x : Bool) → (patch.chunk_id == r.chunk_id) ≡ x → (x || is_among r.chunk_id (chunks_of first)) ≡ true → is_among r.chunk_id (chunks_of first) ≡ true
      by_id true f h = absurd (by_part f r.chunk.partial refl)
      by_id false f h = h

  -- what is left is to come; the patches that are waited for are the first ones of it
  pub patches_wait : (patches left first : List Patch) (b : Buffer) → IsKnown sheets q come closed (patches ++ left) b → LastsAre [] (patches ++ first)
      → EachOf q (Waits (patches ++ first)) b.live → EachOf q (Waits first) (with_patches b q patches).live
  patches_wait [] left first b known lasts waits = waits
  patches_wait (patch ∷ patches) left first b known lasts waits =
      patches_wait patches left first (with_patch b q patch) (patched_known sheets q come closed patch (patches ++ left) b known) lasts.1
      (each_change q (λ r. IsGood sheets come (patch ∷ (patches ++ left)) r × Waits (patch ∷ (patches ++ first)) r) (Waits (patches ++ first))
      (λ stored. cond (awaits_at q patch.chunk_id stored && last_holds stored.chunk.fragments patch) (record stored { chunk = patched_chunk patch stored.chunk }) stored)
      (λ r both of.
      let here : (r.sequence == q) ≡ true = of_record r (awaits_at q patch.chunk_id r && last_holds r.chunk.fragments patch) of in
      patched_waits patch (patches ++ left) (patches ++ first) r (awaits_at q patch.chunk_id r && last_holds r.chunk.fragments patch) refl here lasts (both here).0 (both here).1)
      b.live (each_both q (IsGood sheets come (patch ∷ (patches ++ left))) (Waits (patch ∷ (patches ++ first))) b.live known.live waits))
    where
      of_record : (r : BufferRecord) (x : Bool) → ((cond x (record r { chunk = patched_chunk patch r.chunk }) r).sequence == q) ≡ true → (r.sequence == q) ≡ true
      of_record r true h = h
      of_record r false h = h

-- A chunk that comes has a record

pub arrival_has : (q come : ℕ) (b : Buffer) (chunk : Chunk) → IsRoomy b → b.next + asks_for (placing_of b q come) (sequence_in b.sequences q).size ≤ b.room
    → (has_record q come b.live ≡ true → has_record q come (settled (placing_of b q come) b q come chunk).live ≡ true)
    → has_record q come (settled (placing_of b q come) b q come chunk).live ≡ true
arrival_has q come b chunk roomy low stays = by_live (live_at b q come) refl low stays
  where
    found : (rs : List BufferRecord) (r : BufferRecord) → find (is_of q come) rs ≡ Some r → has_record q come rs ≡ true
    found [] r e = absurd (cc)
    found (t ∷ rs) r e = step (is_of q come t) e (found rs r)
      where
        step : (x : Bool) → cond x (Some t) (find (is_of q come) rs) ≡ Some r → (find (is_of q come) rs ≡ Some r → has_record q come rs ≡ true) → (x || has_record q come rs) ≡ true
        step true e k = refl
        step false e k = k e

    new : has_record q come (settled Kept b q come chunk).live ≡ true
    new =
        list_any-append (is_of q come) (made_room b (sequence_in b.sequences q).size).live
        (record { sequence = q; chunk_id = come; at = place_after b.room b.next (sequence_in b.sequences q).size; size = (sequence_in b.sequences q).size; chunk = chunk } ∷ [])
        ∙ or_right (has_record q come (made_room b (sequence_in b.sequences q).size).live)
        (has_record q come (record { sequence = q; chunk_id = come; at = place_after b.room b.next (sequence_in b.sequences q).size; size = (sequence_in b.sequences q).size; chunk = chunk } ∷ []))
        (or-false ((q == q) && (come == come)) ∙ and_from (q == q) (come == come) (eq-eqb q q refl) (eq-eqb come come refl))

    by_refused : (x : Bool) → is_refused b (sequence_in b.sequences q).size ≡ x → b.next + asks_for (cond x Discarded Kept) (sequence_in b.sequences q).size ≤ b.room
        → has_record q come (settled (cond x Discarded Kept) b q come chunk).live ≡ true
    by_refused true e l = absurd (false≢true (sym (none_refused b (sequence_in b.sequences q).size roomy l) ∙ e))
    by_refused false e l = new

    by_live : (o : Option BufferRecord) → live_at b q come ≡ o
        → b.next + asks_for (cond (is_some o) Rewritten (cond (is_refused b (sequence_in b.sequences q).size) Discarded Kept)) (sequence_in b.sequences q).size ≤ b.room
        → (has_record q come b.live ≡ true → has_record q come (settled (cond (is_some o) Rewritten (cond (is_refused b (sequence_in b.sequences q).size) Discarded Kept)) b q come chunk).live ≡ true)
        → has_record q come (settled (cond (is_some o) Rewritten (cond (is_refused b (sequence_in b.sequences q).size) Discarded Kept)) b q come chunk).live ≡ true
    by_live (Some r) e l s = s (found b.live r e)
    by_live None e l s = by_refused (is_refused b (sequence_in b.sequences q).size) refl l
