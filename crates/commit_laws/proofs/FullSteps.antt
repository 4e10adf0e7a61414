-- In a buffer with bytes enough nothing of a sequence is lost, and a chunk that awaits patches gets its last one or stays open for ever.
use Rattle.std.proofs.Common.{◌≡◌, ◌∙◌, ℕ, ◌+◌, ◌<◌, ◌≤◌, ◌⊎◌, Bool, true, false, not, ◌&&◌, ◌||◌, List, [], ◌∷◌, ◌++◌, length, Some, refl, sym, ap, subst, arith, inl, inr}
use Rattle.std.specs.Prelude.{cond, ◌==◌, slice_get, MatchBool}
use Rattle.std.specs.List.{list_any}
use Rattle.std.proofs.lemmas.Bool.{false≢true, and_from, and_parts, eq-eqb, eqb-false, eqb-true}
use Rattle.trace_model.specs.Arrivals.{Arrived, arrival_of, image_arrival_of, once_read, outcome_of, placing_of, settled, with_arrival, with_image}
use Rattle.trace_model.specs.Buffers.{Buffer, BufferRecord, is_of}
use Rattle.trace_model.specs.History.{Event, Arrives, ArrivesInPart, Patched, Committed, Closed, Read, after, buffer_after, event_sequence}
use Rattle.trace_model.specs.Images.{Chunk, Image, Patch, complete_chunk, has_flag_4, last_holds, patched_last, whole_chunk}
use Rattle.trace_model.specs.Patches.{awaits_at, closed_buffer, patched_chunk, with_close, with_patch, with_patches}
use Rattle.trace_model.specs.Sequences.{Sequence, has_arrived, is_among, is_known, sequence_in, with_number}
use Rattle.trace_model.proofs.SequenceLemmas.{among_with}
use Rattle.delivery_laws.specs.Histories.{Completes}
use Rattle.delivery_laws.specs.Room.{asks, asks_for}
use Rattle.delivery_laws.specs.Sheets.{Sheet}
use Rattle.delivery_laws.proofs.DeliversAll.{taken}
use Rattle.delivery_laws.proofs.HistoryLemmas.{as_long}
use Rattle.delivery_laws.proofs.KeepLemmas.{Keeps, each_change, keeps_event}
use Rattle.delivery_laws.proofs.KnownLemmas.{EachOf, completes_shows}
use Rattle.delivery_laws.proofs.RoomLemmas.{Grows, IsRoomy, event_grows, has_record}
use Rattle.delivery_laws.proofs.WaitLemmas.{arrival_has, settled_each}
use Rattle.delivery_laws.proofs.Walks.{Inside}
use Rattle.commit_laws.specs.CommitHistories.{AreCommitted, IsImageOf, patches_to}
use Rattle.commit_laws.specs.Commits.{commits_in, patches_brought, refuses}
use Rattle.commit_laws.proofs.CommitEvents.{arrives_met, close_met, commit_met, patch_met, placing_is}
use Rattle.commit_laws.proofs.CommitSteps.{IsOn, is_read_of}
use Rattle.commit_laws.proofs.FullRows.{StaysOpen}
use Rattle.commit_laws.proofs.MetRecords.{IsMet, IsMetRecord}

-- the last patch for the chunk is among these
abbrev pub has_last : ℕ → List Patch → Bool
has_last chunk_id patches = list_any (λ (patch : Patch). (patch.chunk_id == chunk_id) && patch.last) patches

module _ (sheets : List Sheet) (q : ℕ) where
  -- What a chunk that awaits patches needs: it runs on, and its last patch is among these, or its packet is never whole.
  abbrev pub Settles : List Patch → ℕ → Type 0
  Settles later chunk_id =
      ((sheet : Sheet) → slice_get sheets chunk_id ≡ Some sheet → sheet.chunk.runs_on ≡ true) × ((has_last chunk_id later ≡ true) ⊎ StaysOpen sheets chunk_id)

  -- each chunk that comes and awaits patches has what it needs
  abbrev pub AllSettle : List Event → Type 0
  AllSettle [] = Unit {0}
  AllSettle (Committed image patches ∷ events) =
      ((image.sequence == q) ≡ true → has_flag_4 image.flags ≡ true → Settles (patches ++ patches_to q events) image.chunk_id) × AllSettle events
  AllSettle (event ∷ events) = AllSettle events

  abbrev pub Waits : List Patch → BufferRecord → Type 0
  Waits later r = r.chunk.awaits ≡ true → Settles later r.chunk_id

  -- nothing of the sequence is lost
  pub record IsFull (later : List Patch) (b : Buffer) : Type 0 where
    pub roomy : IsRoomy b
    pub all : (i : ℕ) → has_arrived (sequence_in b.sequences q) i ≡ true → has_record q i b.live ≡ true
    pub waits : EachOf q (Waits later) b.live

  other_full : (later : List Patch) (b : Buffer) (event : Event) (more : ℕ) → is_known b.sequences q ≡ true → (event_sequence event ≡ q → ⊥) → IsFull later b
      → Grows b (buffer_after b event) more → IsFull later (buffer_after b event)
  other_full later b event more known other full grows =
      let waits : Keeps q (Waits later) b (buffer_after b event) = keeps_event q (Waits later) b event other in
      record {
        roomy = grows.roomy;
        all = λ i h. grows.stays q i (full.all i (sym (ap (λ (s : Sequence). is_among i s.arrived) (waits.same known)) ∙ h));
        waits = waits.live full.waits;
      }

  -- Patches

  last-other : (chunk_id : ℕ) (patch : Patch) (later : List Patch) → ((patch.chunk_id == chunk_id) && patch.last) ≡ false → has_last chunk_id (patch ∷ later) ≡ has_last chunk_id later
  last-other chunk_id patch later e = ap (λ (b : Bool). b || has_last chunk_id later) e

  waits_behind : (chunk_id : ℕ) (patch : Patch) (later : List Patch) → ((patch.chunk_id == chunk_id) && patch.last) ≡ false → Settles (patch ∷ later) chunk_id → Settles later chunk_id
  waits_behind chunk_id patch later e s = (s.0, by_last s.1)
    where
      by_last : (has_last chunk_id (patch ∷ later) ≡ true) ⊎ StaysOpen sheets chunk_id → (has_last chunk_id later ≡ true) ⊎ StaysOpen sheets chunk_id
      by_last (inl h) = inl (sym (last-other chunk_id patch later e) ∙ h)
      by_last (inr h) = inr h

  module _ (came : List ℕ) where
    record_waits : (patch : Patch) (later : List Patch) (r : BufferRecord) (x : Bool) → (awaits_at q patch.chunk_id r && last_holds r.chunk.fragments patch) ≡ x
        → (r.sequence == q) ≡ true → IsMetRecord sheets came (patch ∷ later) r → Waits (patch ∷ later) r → Waits later (cond x (record r { chunk = patched_chunk patch r.chunk }) r)
    record_waits patch later r true e of met waits more =
        let holds = and_parts (awaits_at q patch.chunk_id r) (last_holds r.chunk.fragments patch) e in
        let awaits = and_parts (is_of q patch.chunk_id r) r.chunk.awaits holds.0 in
        waits_behind r.chunk_id patch later (ap (λ (b : Bool). (patch.chunk_id == r.chunk_id) && b) (was patch.last more) ∙ and_false (patch.chunk_id == r.chunk_id)) (waits awaits.1)
      where
        was : (b : Bool) → not b ≡ true → b ≡ false
        was true m = absurd (false≢true m)
        was false m = refl

        and_false : (b : Bool) → (b && false) ≡ false
        and_false true = refl
        and_false false = refl
    record_waits patch later r false e of met waits more = by_id (patch.chunk_id == r.chunk_id) refl met.completes
      where
        by_id : (x : Bool) → (patch.chunk_id == r.chunk_id) ≡ x
            → MatchBool x ((r.chunk.awaits ≡ true) × (last_holds r.chunk.fragments patch ≡ true) × Completes later r.chunk_id (not patch.last) (patched_last patch r.chunk.fragments) met.sheet.written)
            (Completes later r.chunk_id r.chunk.awaits r.chunk.fragments met.sheet.written)
            → Settles later r.chunk_id
        by_id true f h =
            let is : is_of q patch.chunk_id r ≡ true = and_from (r.sequence == q) (r.chunk_id == patch.chunk_id) of (eq-eqb r.chunk_id patch.chunk_id (sym (eqb-true patch.chunk_id r.chunk_id f))) in
            absurd (false≢true (sym e ∙ and_from (awaits_at q patch.chunk_id r) (last_holds r.chunk.fragments patch) (and_from (is_of q patch.chunk_id r) r.chunk.awaits is h.0) h.1))
        by_id false f h = waits_behind r.chunk_id patch later (ap (λ (b : Bool). b && patch.last) f) (waits more)

    each_two : (P R : BufferRecord → Type 0) (rs : List BufferRecord) → EachOf q P rs → EachOf q R rs → EachOf q (λ r. P r × R r) rs
    each_two P R [] h k = tt
    each_two P R (r ∷ rs) h k = ((λ e. (h.0 e, k.0 e)), each_two P R rs h.1 k.1)

    patches_waits : (closed : Bool) (patches left : List Patch) (b : Buffer) → IsMet sheets q came closed (patches ++ left) b → EachOf q (Waits (patches ++ left)) b.live
        → EachOf q (Waits left) (with_patches b q patches).live
    patches_waits closed [] left b met waits = waits
    patches_waits closed (patch ∷ patches) left b met waits =
        patches_waits closed patches left (with_patch b q patch) (patch_met sheets q came closed patch (patches ++ left) b met)
        (each_change q (λ r. IsMetRecord sheets came (patch ∷ (patches ++ left)) r × Waits (patch ∷ (patches ++ left)) r) (Waits (patches ++ left))
        (λ stored. cond (awaits_at q patch.chunk_id stored && last_holds stored.chunk.fragments patch) (record stored { chunk = patched_chunk patch stored.chunk }) stored)
        (λ r both of.
        let here : (r.sequence == q) ≡ true = of_record r (awaits_at q patch.chunk_id r && last_holds r.chunk.fragments patch) of in
        record_waits patch (patches ++ left) r (awaits_at q patch.chunk_id r && last_holds r.chunk.fragments patch) refl here (both here).0 (both here).1)
        b.live (each_two (IsMetRecord sheets came (patch ∷ (patches ++ left))) (Waits (patch ∷ (patches ++ left))) b.live met.live waits))
      where
        of_record : (r : BufferRecord) (x : Bool) → ((cond x (record r { chunk = patched_chunk patch r.chunk }) r).sequence == q) ≡ true → (r.sequence == q) ≡ true
        of_record r true h = h
        of_record r false h = h

  -- A commit of the sequence

  module _ (came : List ℕ) (left : List Patch) (image : Image) (patches : List Patch) (own : image.sequence ≡ q) (b : Buffer) (met : IsMet sheets q came false (patches ++ left) b)
      (accepted : refuses (image_arrival_of b image) ≡ false) (is : IsImageOf sheets (patches ++ left) image)
      (inside : Inside sheets (sequence_in b.sequences q).cursor.chunk_id (sequence_in b.sequences q).cursor.passed)
      (fits : b.next + cond (is_known b.sequences image.sequence) (asks b (Committed image patches)) 0 ≤ b.room) where
    abbrev id : ℕ
    id = image.chunk_id

    abbrev chunk : Chunk
    chunk = whole_chunk image.flags is.fragments

    known : is_known b.sequences image.sequence ≡ true
    known = ap (is_known b.sequences) own ∙ met.known

    outcome : image_arrival_of b image ≡ arrival_of b q id
    outcome = ap (outcome_of (arrival_of b image.sequence id)) is.reads ∙ ap (λ (n : ℕ). arrival_of b n id) own

    placed : (has_arrived (sequence_in b.sequences q) id ≡ false) × (arrival_of b q id ≡ placing_of b q id)
    placed = placing_is b q id (ap refuses (sym outcome) ∙ accepted)

    before : (sequence_in b.sequences q).cursor.chunk_id ≡ id → (sequence_in b.sequences q).cursor.passed < length is.fragments
    before at =
        let complete = is.complete in
        let low = inside complete.sheet (ap (slice_get sheets) at ∙ complete.there) in
        let long = as_long chunk.awaits is.fragments complete.sheet.written (completes_shows (patches ++ left) id chunk.awaits is.fragments complete.sheet.written complete.completes) in
        omega (arith, low, long)

    image_is : with_arrival b q id chunk ≡ with_image b image
    image_is = sym (ap (once_read b (with_arrival b image.sequence id) image.flags) is.reads ∙ ap (λ (n : ℕ). with_arrival b n id chunk) own)

    came_now : IsMet sheets q (with_number id came) false (patches ++ left) (with_arrival b q id chunk)
    came_now = (arrives_met sheets q came (patches ++ left) id chunk is.complete b met (ap refuses (sym outcome) ∙ accepted) before).0

    grows_first : IsRoomy b → Grows b (with_image b image) (asks b (Committed image patches))
    grows_first roomy =
        let grows = event_grows b (Committed image []) roomy fits in
        subst (λ (x : Bool). Grows b (cond x (after b (Committed image [])) b) (cond x (asks b (Committed image patches)) 0)) known grows

    grows_then : IsRoomy b → Grows (with_image b image) (with_patches (with_image b image) image.sequence patches) 0
    grows_then roomy =
        let one = grows_first roomy in
        let knows : is_known (with_image b image).sequences image.sequence ≡ true =
        ap (is_known (with_image b image).sequences) own ∙ subst (λ (c : Buffer). is_known c.sequences q ≡ true) image_is came_now.known in
        let next = one.next in
        let room = one.room in
        let low : b.next + asks b (Committed image patches) ≤ b.room = subst (λ (x : Bool). b.next + cond x (asks b (Committed image patches)) 0 ≤ b.room) known fits in
        let grows = event_grows (with_image b image) (Patched image.sequence patches) one.roomy
        (subst (λ (x : Bool). (with_image b image).next + cond x 0 0 ≤ (with_image b image).room) (sym knows) (omega (arith, next, room, low))) in
        subst (λ (x : Bool). Grows (with_image b image) (cond x (with_patches (with_image b image) image.sequence patches) (with_image b image)) (cond x 0 0)) knows grows

    has_new : IsRoomy b → has_record q id (with_image b image).live ≡ true
    has_new roomy =
        let one = grows_first roomy in
        let asks_is : asks b (Committed image patches) ≡ asks_for (placing_of b q id) (sequence_in b.sequences q).size =
        ap (λ (o : Arrived). asks_for o (sequence_in b.sequences image.sequence).size) (outcome ∙ placed.1) ∙ ap (λ (n : ℕ). asks_for (placing_of b q id) (sequence_in b.sequences n).size) own in
        let low : b.next + asks b (Committed image patches) ≤ b.room = subst (λ (x : Bool). b.next + cond x (asks b (Committed image patches)) 0 ≤ b.room) known fits in
        let live_is : (settled (placing_of b q id) b q id (complete_chunk chunk)).live ≡ (with_image b image).live =
        ap (λ (o : Arrived). (settled o b q id (complete_chunk chunk)).live) (sym placed.1) ∙ ap (λ (c : Buffer). c.live) image_is in
        let has = arrival_has q id b (complete_chunk chunk) roomy (omega (arith, low, asks_is)) (λ h. ap (has_record q id) live_is ∙ one.stays q id h) in
        sym (ap (has_record q id) live_is) ∙ has

    waits_first : EachOf q (Waits (patches ++ left)) b.live → (has_flag_4 image.flags ≡ true → Settles (patches ++ left) id) → EachOf q (Waits (patches ++ left)) (with_arrival b q id chunk).live
    waits_first waits settles =
        settled_each q (Waits (patches ++ left)) b id (complete_chunk chunk) waits
        (λ r at e a. subst (Settles (patches ++ left)) (sym at) (settles (sym (ap (λ (c : Chunk). c.awaits) e) ∙ a)))
        (arrival_of b q id)

    pub commit_full : IsFull (patches ++ left) b → (has_flag_4 image.flags ≡ true → Settles (patches ++ left) id) → IsFull left (with_patches (with_image b image) image.sequence patches)
    commit_full full settles =
        let one = grows_first full.roomy in
        let two = grows_then full.roomy in
        let done = commit_met sheets q came left image patches own b met accepted is.fragments is.reads is.complete before in
        let waits = patches_waits (with_number id came) false patches left (with_arrival b q id chunk) came_now (waits_first full.waits settles) in
        let buffer_is : with_patches (with_arrival b q id chunk) q patches ≡ with_patches (with_image b image) image.sequence patches =
        ap (λ (c : Buffer). with_patches c q patches) image_is ∙ ap (λ (n : ℕ). with_patches (with_image b image) n patches) (sym own) in
        record {
          roomy = two.roomy;
          all = λ i h. two.stays q i (by_id i (id == i) refl (sym (among_with id i came) ∙ sym (ap (is_among i) done.0.arrived) ∙ h));
          waits = subst (λ (c : Buffer). EachOf q (Waits left) c.live) buffer_is waits;
        }
      where
        by_id : (i : ℕ) (x : Bool) → (id == i) ≡ x → (x || is_among i came) ≡ true → has_record q i (with_image b image).live ≡ true
        by_id i true e h = subst (λ (n : ℕ). has_record q n (with_image b image).live ≡ true) (eqb-true id i e) (has_new full.roomy)
        by_id i false e h = (grows_first full.roomy).stays q i (full.all i (ap (is_among i) met.arrived ∙ h))

  -- One event

  module _ (came : List ℕ) (closed : Bool) (b : Buffer) (events : List Event) where
    pub event_full : (event : Event) → is_read_of q event ≡ false → IsOn sheets q came closed b (event ∷ events) → IsFull (patches_to q (event ∷ events)) b → AllSettle (event ∷ events)
        → Inside sheets (sequence_in b.sequences q).cursor.chunk_id (sequence_in b.sequences q).cursor.passed
        → b.next + cond (is_known b.sequences (event_sequence event)) (asks b event) 0 ≤ b.room → IsFull (patches_to q events) (buffer_after b event)
    event_full (Arrives other id chunk) e on full settles inside fits =
        other_full (patches_to q events) b (Arrives other id chunk) _ on.met.known (eqb-false other q on.committed.0) full (event_grows b (Arrives other id chunk) full.roomy fits)
    event_full (ArrivesInPart other id chunk) e on full settles inside fits =
        other_full (patches_to q events) b (ArrivesInPart other id chunk) _ on.met.known (eqb-false other q on.committed.0) full (event_grows b (ArrivesInPart other id chunk) full.roomy fits)
    event_full (Patched other patches) e on full settles inside fits =
        other_full (patches_to q events) b (Patched other patches) _ on.met.known (eqb-false other q on.committed.0) full (event_grows b (Patched other patches) full.roomy fits)
    event_full (Read other limit) e on full settles inside fits =
        other_full (patches_to q events) b (Read other limit) _ on.met.known (eqb-false other q e) full (event_grows b (Read other limit) full.roomy fits)
    event_full (Closed other) e on full settles inside fits = by_own (other == q) refl on.committed
      where
        same_live : (x : Bool) → EachOf q (Waits (patches_to q events)) (cond x b (closed_buffer b q)).live
        same_live true = full.waits
        same_live false = full.waits

        by_own : (x : Bool) → (other == q) ≡ x
            → MatchBool x (((i : ℕ) → i < length sheets → is_among i came ≡ true) × AreCommitted sheets q came true events) (AreCommitted sheets q came closed events)
            → IsFull (patches_to q events) (buffer_after b (Closed other))
        by_own false f h = other_full (patches_to q events) b (Closed other) _ on.met.known (eqb-false other q f) full (event_grows b (Closed other) full.roomy fits)
        by_own true f h =
            let same : other ≡ q = eqb-true other q f in
            let done = close_met sheets q came (patches_to q events) closed b on.met h.0 in
            let now : with_close b q ≡ buffer_after b (Closed other) = taken b (Closed q) on.met.known ∙ ap (λ (n : ℕ). buffer_after b (Closed n)) (sym same) in
            let grows = event_grows b (Closed other) full.roomy fits in
            let arrived : (sequence_in (buffer_after b (Closed other)).sequences q).arrived ≡ (sequence_in b.sequences q).arrived =
            sym (ap (λ (c : Buffer). (sequence_in c.sequences q).arrived) now) ∙ done.0.arrived ∙ sym on.met.arrived in
            record {
              roomy = grows.roomy;
              all = λ i k. grows.stays q i (full.all i (sym (ap (is_among i) arrived) ∙ k));
              waits = subst (λ (c : Buffer). EachOf q (Waits (patches_to q events)) c.live) now (same_live (sequence_in b.sequences q).closed);
            }
    event_full (Committed image patches) e on full settles inside fits = by_own (image.sequence == q) refl on.met full on.committed on.accepted.0 settles.0
      where
        own : (image.sequence == q) ≡ true → closed ≡ false → IsMet sheets q came closed (patches ++ patches_to q events) b → IsFull (patches ++ patches_to q events) b
            → IsImageOf sheets (patches ++ patches_to q events) image → refuses (image_arrival_of b image) ≡ false → (has_flag_4 image.flags ≡ true → Settles (patches ++ patches_to q events) image.chunk_id)
            → IsFull (patches_to q events) (buffer_after b (Committed image patches))
        own f open_now met full is accept settle =
            let sequence_is : image.sequence ≡ q = eqb-true image.sequence q f in
            subst (IsFull (patches_to q events)) (taken b (Committed image patches) (ap (is_known b.sequences) sequence_is ∙ met.known))
            (commit_full came (patches_to q events) image patches sequence_is b (subst (λ (c : Bool). IsMet sheets q came c (patches ++ patches_to q events) b) open_now met) accept is inside fits full settle)

        by_own : (x : Bool) → (image.sequence == q) ≡ x
            → IsMet sheets q came closed (patches_brought (cond x (record { image = image; patches = patches } ∷ commits_in q events) (commits_in q events))) b
            → IsFull (patches_brought (cond x (record { image = image; patches = patches } ∷ commits_in q events) (commits_in q events))) b
            → MatchBool x ((closed ≡ false) × IsImageOf sheets (patches ++ patches_to q events) image × AreCommitted sheets q (with_number image.chunk_id came) closed events)
            (AreCommitted sheets q came closed events)
            → (x ≡ true → refuses (image_arrival_of b image) ≡ false) → (x ≡ true → has_flag_4 image.flags ≡ true → Settles (patches ++ patches_to q events) image.chunk_id)
            → IsFull (patches_to q events) (buffer_after b (Committed image patches))
        by_own true f met full h accept settle = own f h.0 met full h.1 (accept refl) (settle refl)
        by_own false f met full h accept settle =
            other_full (patches_to q events) b (Committed image patches) _ met.known (eqb-false image.sequence q f) full (event_grows b (Committed image patches) full.roomy fits)
