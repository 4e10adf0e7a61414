-- What is known is kept by other sequences' events, and by the sequence's own commits, whatever their order, closes and reads.
use Rattle.std.proofs.Common.{◌≡◌, ◌∙◌, ℕ, suc, ◌<◌, Bool, true, false, not, ◌&&◌, ◌||◌, List, [], ◌∷◌, ◌++◌, length, map, refl, sym, ap, subst, arith}
use Rattle.std.specs.Prelude.{cond, ◌==◌, slice_get, filter, is_some, nat_le, MatchBool}
use Rattle.std.proofs.lemmas.Bool.{false≢true, eqb-true, eq-eqb, and_parts, and_from, leb-true}
use Rattle.trace_model.specs.Images.{Chunk, Fragment, Image, Patch, complete_chunk, last_holds, patched_last, whole_chunk}
use Rattle.trace_model.specs.Sequences.{Sequence, changed_at, has_arrived, is_among, is_known, rising, sequence_in, with_number}
use Rattle.trace_model.specs.Buffers.{Buffer, BufferRecord, is_of, live_at, meets, with_losses}
use Rattle.trace_model.specs.Places.{place_after}
use Rattle.trace_model.specs.Arrivals.{Arrived, Discarded, Duplicate, Kept, Rewritten, TooFar, arrival_noted, arrival_of, image_arrival_of, is_refused, is_too_far, makes_arrive, once_read, outcome_of, placing_of, settled, with_arrival, with_arrived, with_discarded, with_image}
use Rattle.trace_model.specs.Patches.{awaits_at, closed_buffer, closed_sequence, patched_chunk, with_close, with_patch, with_patches}
use Rattle.trace_model.specs.Reading.{Fragments, reading_of}
use Rattle.trace_model.specs.Reads.{passed_by, sequence_after, with_read}
use Rattle.trace_model.specs.Row.{row_from_cursor}
use Rattle.trace_model.proofs.PageLemmas.{same_long}
use Rattle.trace_model.proofs.SequenceLemmas.{among_more, among_new, among_with, changed_here, known-map, known_changed, number_of, sequence_in-map}
use Rattle.delivery_laws.specs.Histories.{Completes, IsComplete}
use Rattle.delivery_laws.specs.Sheets.{Sheet}
use Rattle.delivery_laws.proofs.KeepLemmas.{Keeps, SameReader, each_append, each_change, each_filter, unlost}
use Rattle.delivery_laws.proofs.KnownLemmas.{EachOf, HasSheet}
use Rattle.delivery_laws.proofs.OwnEvents.{read_now}
use Rattle.commit_laws.specs.Commits.{refuses}
use Rattle.commit_laws.proofs.MetRecords.{IsMet, IsMetRecord}

-- Other sequences

pub met_kept : (sheets : List Sheet) (q : ℕ) (came : List ℕ) (closed : Bool) (later : List Patch) (a b : Buffer) → IsMet sheets q came closed later a
    → Keeps q (IsMetRecord sheets came later) a b → IsMet sheets q came closed later b
met_kept sheets q came closed later a b met keeps =
    let same : unlost (sequence_in b.sequences q) ≡ unlost (sequence_in a.sequences q) = keeps.same met.known in
    record {
      known = keeps.known met.known;
      arrived = ap (λ (x : Sequence). x.arrived) same ∙ met.arrived;
      shut = ap (λ (x : Sequence). x.closed) same ∙ met.shut;
      none = ap (λ (x : Sequence). x.final) same ∙ met.none;
      sheet_of = met.sheet_of;
      all = met.all;
      live = keeps.live met.live;
    }

-- A chunk comes

-- an outcome that doesn't refuse is a placing
pub placing_is : (b : Buffer) (q id : ℕ) → refuses (arrival_of b q id) ≡ false → (has_arrived (sequence_in b.sequences q) id ≡ false) × (arrival_of b q id ≡ placing_of b q id)
placing_is b q id accepted = by_case (has_arrived (sequence_in b.sequences q) id) (is_too_far (sequence_in b.sequences q) id) accepted
  where
    by_case : (x y : Bool) → refuses (cond x Duplicate (cond y TooFar (placing_of b q id))) ≡ false → (x ≡ false) × (cond x Duplicate (cond y TooFar (placing_of b q id)) ≡ placing_of b q id)
    by_case true y e = absurd (false≢true (sym e))
    by_case false true e = absurd (false≢true (sym e))
    by_case false false e = (refl, refl)

-- the sequence as it was, but for its losses
record Unlosing (q : ℕ) (old new : List Sequence) : Type 0 where
  known : is_known new q ≡ true
  same : unlost (sequence_in new q) ≡ unlost (sequence_in old q)

module _ (sheets : List Sheet) (q : ℕ) (came : List ℕ) (later : List Patch) (id : ℕ) where
  record_more : (r : BufferRecord) → IsMetRecord sheets came later r → IsMetRecord sheets (with_number id came) later r
  record_more r met = record {
    sheet = met.sheet;
    there = met.there;
    whole = met.whole;
    arrived = among_more r.chunk_id id came met.arrived;
    continues = met.continues;
    runs_on = met.runs_on;
    completes = met.completes;
    some = met.some;
  }

  each_more : (rs : List BufferRecord) → EachOf q (IsMetRecord sheets came later) rs → EachOf q (IsMetRecord sheets (with_number id came) later) rs
  each_more [] each = tt
  each_more (r ∷ rs) each = ((λ of. record_more r (each.0 of)), each_more rs each.1)

  module _ (chunk : Chunk) (is : IsComplete sheets later id chunk) where
    record_new : (r : BufferRecord) → r.chunk_id ≡ id → r.chunk ≡ complete_chunk chunk → IsMetRecord sheets (with_number id came) later r
    record_new r at e = record {
      sheet = is.sheet;
      there = ap (slice_get sheets) at ∙ is.there;
      whole = ap (λ (c : Chunk). c.partial) e;
      arrived = ap (λ (n : ℕ). is_among n (with_number id came)) at ∙ among_new id came;
      continues = ap (λ (c : Chunk). c.continues) e ∙ ap (λ (c : Chunk). c.continues) is.same;
      runs_on = ap (λ (c : Chunk). c.runs_on) e ∙ ap (λ (c : Chunk). c.runs_on) is.same;
      completes = subst (λ (c : Chunk). Completes later r.chunk_id c.awaits c.fragments is.sheet.written) (sym e)
          (subst (λ (n : ℕ). Completes later n chunk.awaits chunk.fragments is.sheet.written) (sym at) is.completes);
      some = subst (λ (c : Chunk). 0 < length c.fragments) (sym e) is.some;
    }

    each_rewritten : (rs : List BufferRecord) → EachOf q (IsMetRecord sheets came later) rs
        → EachOf q (IsMetRecord sheets (with_number id came) later) (map (λ stored. cond (is_of q id stored) (record stored { chunk = complete_chunk chunk }) stored) rs)
    each_rewritten rs each =
        each_change q (IsMetRecord sheets came later) (IsMetRecord sheets (with_number id came) later) (λ stored. cond (is_of q id stored) (record stored { chunk = complete_chunk chunk }) stored)
        (λ r met of. by_test r (is_of q id r) refl met of) rs each
      where
        by_test : (r : BufferRecord) (x : Bool) → is_of q id r ≡ x → ((r.sequence == q) ≡ true → IsMetRecord sheets came later r)
            → ((cond x (record r { chunk = complete_chunk chunk }) r).sequence == q) ≡ true → IsMetRecord sheets (with_number id came) later (cond x (record r { chunk = complete_chunk chunk }) r)
        by_test r true e met of = record_new (record r { chunk = complete_chunk chunk }) (eqb-true r.chunk_id id (and_parts (r.sequence == q) (r.chunk_id == id) e).1) refl
        by_test r false e met of = record_more r (met of)

    -- what is known once the chunk has a place, or none
    record HasCome (b after : Buffer) : Type 0 where
      sequences : Unlosing q b.sequences after.sequences
      live : EachOf q (IsMetRecord sheets (with_number id came) later) after.live

    comes : (b : Buffer) → is_known b.sequences q ≡ true → EachOf q (IsMetRecord sheets came later) b.live
        → (makes_arrive (placing_of b q id) ≡ true) × HasCome b (settled (placing_of b q id) b q id (complete_chunk chunk))
    comes b known live = by_live (is_some (live_at b q id)) (is_refused b (sequence_in b.sequences q).size)
      where
        by_live : (x y : Bool)
            → (makes_arrive (cond x Rewritten (cond y Discarded Kept)) ≡ true) × HasCome b (settled (cond x Rewritten (cond y Discarded Kept)) b q id (complete_chunk chunk))
        by_live true y = (refl, record { sequences = record { known = known; same = refl }; live = each_rewritten b.live live })
        by_live false true = (
          refl,
          record {
            sequences = record {
              known = known_changed q q (with_discarded id (complete_chunk chunk)) (λ s. refl) b.sequences ∙ known;
              same = ap unlost (changed_here q (with_discarded id (complete_chunk chunk)) (λ s. refl) b.sequences known);
            };
            live = each_more b.live live;
          },
        )
        by_live false false = (
          refl,
          record {
            sequences = record {
              known = known-map (with_losses (filter (meets b (sequence_in b.sequences q).size) b.live)) (λ s. refl) b.sequences q ∙ known;
              same = ap unlost (sequence_in-map (with_losses (filter (meets b (sequence_in b.sequences q).size) b.live)) (λ s. refl) b.sequences q known);
            };
            live = each_append q (IsMetRecord sheets (with_number id came) later) (filter (λ stored. not (meets b (sequence_in b.sequences q).size stored)) b.live)
                (record { sequence = q; chunk_id = id; at = place_after b.room b.next (sequence_in b.sequences q).size; size = (sequence_in b.sequences q).size; chunk = complete_chunk chunk } ∷ [])
                (each_filter q (IsMetRecord sheets (with_number id came) later) (λ stored. not (meets b (sequence_in b.sequences q).size stored)) b.live (each_more b.live live))
                ((λ of. record_new (record { sequence = q; chunk_id = id; at = place_after b.room b.next (sequence_in b.sequences q).size; size = (sequence_in b.sequences q).size; chunk = complete_chunk chunk }) refl refl), tt);
          },
        )

    -- a chunk arrives that isn't refused; the cursor isn't past its fragments
    pub arrives_met : (b : Buffer) → IsMet sheets q came false later b → refuses (arrival_of b q id) ≡ false
        → ((sequence_in b.sequences q).cursor.chunk_id ≡ id → (sequence_in b.sequences q).cursor.passed < length chunk.fragments)
        → IsMet sheets q (with_number id came) false later (with_arrival b q id chunk) × SameReader (sequence_in b.sequences q) (sequence_in (with_arrival b q id chunk).sequences q)
    arrives_met b met accepted inside =
        let placed = comes b met.known met.live in
        subst (λ (o : Arrived). IsMet sheets q (with_number id came) false later (arrival_noted o q id (length chunk.fragments) (settled o b q id (complete_chunk chunk)))
        × SameReader (sequence_in b.sequences q) (sequence_in (arrival_noted o q id (length chunk.fragments) (settled o b q id (complete_chunk chunk))).sequences q))
        (sym (placing_is b q id accepted).1)
        (noted (settled (placing_of b q id) b q id (complete_chunk chunk)) placed.1 (makes_arrive (placing_of b q id)) placed.0)
      where
        cursor_stays : (s : Sequence) → s.cursor ≡ (sequence_in b.sequences q).cursor → ((s.cursor.chunk_id == id) && nat_le (length chunk.fragments) s.cursor.passed) ≡ false
        cursor_stays s same = by_test (s.cursor.chunk_id == id) refl (nat_le (length chunk.fragments) s.cursor.passed) refl
          where
            by_test : (x : Bool) → (s.cursor.chunk_id == id) ≡ x → (y : Bool) → nat_le (length chunk.fragments) s.cursor.passed ≡ y → (x && y) ≡ false
            by_test false f y g = refl
            by_test true f false g = refl
            by_test true f true g =
                let here : (sequence_in b.sequences q).cursor.chunk_id ≡ id = sym (ap (λ c. c.chunk_id) same) ∙ eqb-true s.cursor.chunk_id id f in
                let low = inside here in
                let at : s.cursor.passed ≡ (sequence_in b.sequences q).cursor.passed = ap (λ c. c.passed) same in
                let high = leb-true (length chunk.fragments) s.cursor.passed g in
                absurd (omega (arith, low, at, high))

        noted : (c : Buffer) → HasCome b c → (arrive : Bool) → arrive ≡ true
            → IsMet sheets q (with_number id came) false later (record c { sequences = cond arrive (changed_at q (with_arrived id (length chunk.fragments)) c.sequences) c.sequences })
            × SameReader (sequence_in b.sequences q) (sequence_in (cond arrive (changed_at q (with_arrived id (length chunk.fragments)) c.sequences) c.sequences) q)
        noted c has false e = absurd (false≢true e)
        noted c has true e =
            let now : sequence_in (changed_at q (with_arrived id (length chunk.fragments)) c.sequences) q ≡ with_arrived id (length chunk.fragments) (sequence_in c.sequences q) =
            changed_here q (with_arrived id (length chunk.fragments)) (λ s. refl) c.sequences has.sequences.known in
            let same = has.sequences.same in
            let cursor : (sequence_in c.sequences q).cursor ≡ (sequence_in b.sequences q).cursor = ap (λ (x : Sequence). x.cursor) same in (
              record {
                known = known_changed q q (with_arrived id (length chunk.fragments)) (λ s. refl) c.sequences ∙ has.sequences.known;
                arrived = ap (λ (x : Sequence). x.arrived) now ∙ ap (with_number id) (ap (λ (x : Sequence). x.arrived) same ∙ met.arrived);
                shut = ap (λ (x : Sequence). x.closed) now ∙ ap (λ (x : Sequence). x.closed) same ∙ met.shut;
                none = ap (λ (x : Sequence). x.final) now ∙ ap (λ (x : Sequence). x.final) same ∙ met.none;
                sheet_of = λ i h. by_id i (id == i) refl (sym (among_with id i came) ∙ h);
                all = λ c. absurd (false≢true c);
                live = has.live;
              },
              record {
                cursor = ap (λ (x : Sequence). x.cursor) now
                    ∙ ap (λ (x : Bool). cond x (record { chunk_id = suc id; passed = 0 }) (sequence_in c.sequences q).cursor) (cursor_stays (sequence_in c.sequences q) cursor)
                    ∙ cursor;
                missing = ap (λ (x : Sequence). x.missing) now ∙ ap (λ (x : Sequence). x.missing) same;
                delivered = ap (λ (x : Sequence). x.delivered) now ∙ ap (λ (x : Sequence). x.delivered) same;
              },
            )
          where
            by_id : (i : ℕ) (x : Bool) → (id == i) ≡ x → (x || is_among i came) ≡ true → HasSheet sheets i
            by_id i true f h = subst (HasSheet sheets) (eqb-true id i f) (is.sheet, is.there)
            by_id i false f h = met.sheet_of i h

-- Patches

module _ (sheets : List Sheet) (q : ℕ) (came : List ℕ) (closed : Bool) where
  record_patched : (patch : Patch) (later : List Patch) (r : BufferRecord) (x : Bool) → (awaits_at q patch.chunk_id r && last_holds r.chunk.fragments patch) ≡ x
      → (r.sequence == q) ≡ true → IsMetRecord sheets came (patch ∷ later) r → IsMetRecord sheets came later (cond x (record r { chunk = patched_chunk patch r.chunk }) r)
  record_patched patch later r true e of met =
      let holds = and_parts (awaits_at q patch.chunk_id r) (last_holds r.chunk.fragments patch) e in
      let awaits = and_parts (is_of q patch.chunk_id r) r.chunk.awaits holds.0 in
      let same : r.chunk_id ≡ patch.chunk_id = eqb-true r.chunk_id patch.chunk_id (and_parts (r.sequence == q) (r.chunk_id == patch.chunk_id) awaits.0).1 in
      record {
        sheet = met.sheet;
        there = met.there;
        whole = met.whole;
        arrived = met.arrived;
        continues = met.continues;
        runs_on = met.runs_on;
        completes = here (patch.chunk_id == r.chunk_id) (eq-eqb patch.chunk_id r.chunk_id (sym same)) met.completes;
        some = let long = same_long r.chunk.fragments patch in let some = met.some in omega (arith, long, some);
      }
    where
      here : (x : Bool) → x ≡ true
          → MatchBool x ((r.chunk.awaits ≡ true) × (last_holds r.chunk.fragments patch ≡ true) × Completes later r.chunk_id (not patch.last) (patched_last patch r.chunk.fragments) met.sheet.written)
          (Completes later r.chunk_id r.chunk.awaits r.chunk.fragments met.sheet.written)
          → Completes later r.chunk_id (not patch.last) (patched_last patch r.chunk.fragments) met.sheet.written
      here true f h = h.2
      here false f h = absurd (false≢true f)
  record_patched patch later r false e of met = record {
    sheet = met.sheet;
    there = met.there;
    whole = met.whole;
    arrived = met.arrived;
    continues = met.continues;
    runs_on = met.runs_on;
    completes = elsewhere (patch.chunk_id == r.chunk_id) refl met.completes;
    some = met.some;
  }
    where
      elsewhere : (x : Bool) → (patch.chunk_id == r.chunk_id) ≡ x
          → MatchBool x ((r.chunk.awaits ≡ true) × (last_holds r.chunk.fragments patch ≡ true) × Completes later r.chunk_id (not patch.last) (patched_last patch r.chunk.fragments) met.sheet.written)
          (Completes later r.chunk_id r.chunk.awaits r.chunk.fragments met.sheet.written)
          → Completes later r.chunk_id r.chunk.awaits r.chunk.fragments met.sheet.written
      elsewhere true f h =
          let is : is_of q patch.chunk_id r ≡ true = and_from (r.sequence == q) (r.chunk_id == patch.chunk_id) of (eq-eqb r.chunk_id patch.chunk_id (sym (eqb-true patch.chunk_id r.chunk_id f))) in
          absurd (false≢true (sym e ∙ and_from (awaits_at q patch.chunk_id r) (last_holds r.chunk.fragments patch) (and_from (is_of q patch.chunk_id r) r.chunk.awaits is h.0) h.1))
      elsewhere false f h = h

  pub patch_met : (patch : Patch) (later : List Patch) (b : Buffer) → IsMet sheets q came closed (patch ∷ later) b → IsMet sheets q came closed later (with_patch b q patch)
  patch_met patch later b met = record {
    known = met.known;
    arrived = met.arrived;
    shut = met.shut;
    none = met.none;
    sheet_of = met.sheet_of;
    all = met.all;
    live = each_change q (IsMetRecord sheets came (patch ∷ later)) (IsMetRecord sheets came later)
        (λ stored. cond (awaits_at q patch.chunk_id stored && last_holds stored.chunk.fragments patch) (record stored { chunk = patched_chunk patch stored.chunk }) stored)
        (λ r is of.
        let here : (r.sequence == q) ≡ true = of_record r (awaits_at q patch.chunk_id r && last_holds r.chunk.fragments patch) of in
        record_patched patch later r (awaits_at q patch.chunk_id r && last_holds r.chunk.fragments patch) refl here (is here))
        b.live met.live;
  }
    where
      of_record : (r : BufferRecord) (x : Bool) → ((cond x (record r { chunk = patched_chunk patch r.chunk }) r).sequence == q) ≡ true → (r.sequence == q) ≡ true
      of_record r true h = h
      of_record r false h = h

  pub patches_met : (patches left : List Patch) (b : Buffer) → IsMet sheets q came closed (patches ++ left) b
      → IsMet sheets q came closed left (with_patches b q patches) × ((with_patches b q patches).sequences ≡ b.sequences)
  patches_met [] left b met = (met, refl)
  patches_met (patch ∷ patches) left b met = patches_met patches left (with_patch b q patch) (patch_met patch (patches ++ left) b met)

-- A commit

module _ (sheets : List Sheet) (q : ℕ) (came : List ℕ) (left : List Patch) (image : Image) (patches : List Patch) (own : image.sequence ≡ q) where
  -- the buffer has met one chunk more, and its commit's patches are put in
  pub commit_met : (b : Buffer) → IsMet sheets q came false (patches ++ left) b → refuses (image_arrival_of b image) ≡ false
      → (fragments : List Fragment) → reading_of image.count image.payload ≡ Fragments fragments → IsComplete sheets (patches ++ left) image.chunk_id (whole_chunk image.flags fragments)
      → ((sequence_in b.sequences q).cursor.chunk_id ≡ image.chunk_id → (sequence_in b.sequences q).cursor.passed < length fragments)
      → IsMet sheets q (with_number image.chunk_id came) false left (with_patches (with_image b image) image.sequence patches)
      × SameReader (sequence_in b.sequences q) (sequence_in (with_patches (with_image b image) image.sequence patches).sequences q)
  commit_met b met accepted fragments reads is inside =
      let id : ℕ = image.chunk_id in
      let chunk : Chunk = whole_chunk image.flags fragments in
      let outcome : image_arrival_of b image ≡ arrival_of b q id =
      ap (outcome_of (arrival_of b image.sequence id)) reads ∙ ap (λ (n : ℕ). arrival_of b n id) own in
      let came_now = arrives_met sheets q came (patches ++ left) id chunk is b met (ap refuses (sym outcome) ∙ accepted) inside in
      let image_is : with_arrival b q id chunk ≡ with_image b image =
      sym (ap (once_read b (with_arrival b image.sequence id) image.flags) reads ∙ ap (λ (n : ℕ). with_arrival b n id chunk) own) in
      let done = patches_met sheets q (with_number id came) false patches left (with_arrival b q id chunk) came_now.0 in
      let buffer_is : with_patches (with_arrival b q id chunk) q patches ≡ with_patches (with_image b image) image.sequence patches =
      ap (λ (c : Buffer). with_patches c q patches) image_is ∙ ap (λ (n : ℕ). with_patches (with_image b image) n patches) (sym own) in
      let reader : SameReader (sequence_in b.sequences q) (sequence_in (with_patches (with_arrival b q id chunk) q patches).sequences q) =
      subst (λ (ss : List Sequence). SameReader (sequence_in b.sequences q) (sequence_in ss q)) (sym done.1) came_now.1 in (
        subst (IsMet sheets q (with_number id came) false left) buffer_is done.0,
        subst (λ (c : Buffer). SameReader (sequence_in b.sequences q) (sequence_in c.sequences q)) buffer_is reader,
      )

-- A close

module _ (sheets : List Sheet) (q : ℕ) (came : List ℕ) (later : List Patch) where
  no_parts : (n : ℕ) → n ≡ q → (rs : List BufferRecord) → EachOf q (IsMetRecord sheets came later) rs
      → filter (λ stored. (stored.sequence == n) && stored.chunk.partial) rs ≡ []
  no_parts n same [] each = refl
  no_parts n same (r ∷ rs) each = step ((r.sequence == n) && r.chunk.partial) refl (no_parts n same rs each.1)
    where
      step : (x : Bool) → ((r.sequence == n) && r.chunk.partial) ≡ x → filter (λ stored. (stored.sequence == n) && stored.chunk.partial) rs ≡ []
          → cond x (r ∷ filter (λ stored. (stored.sequence == n) && stored.chunk.partial) rs) (filter (λ stored. (stored.sequence == n) && stored.chunk.partial) rs) ≡ []
      step false e k = k
      step true e k =
          let parts = and_parts (r.sequence == n) r.chunk.partial e in
          let met = each.0 (eq-eqb r.sequence q (eqb-true r.sequence n parts.0 ∙ same)) in
          absurd (false≢true (sym met.whole ∙ parts.1))

  pub close_met : (closed : Bool) (b : Buffer) → IsMet sheets q came closed later b → ((i : ℕ) → i < length sheets → is_among i came ≡ true)
      → IsMet sheets q came true later (with_close b q) × SameReader (sequence_in b.sequences q) (sequence_in (with_close b q).sequences q)
  close_met closed b met all = by_close (sequence_in b.sequences q).closed refl
    where
      by_close : (x : Bool) → (sequence_in b.sequences q).closed ≡ x
          → IsMet sheets q came true later (cond x b (closed_buffer b q)) × SameReader (sequence_in b.sequences q) (sequence_in (cond x b (closed_buffer b q)).sequences q)
      by_close true e = (
        record { known = met.known; arrived = met.arrived; shut = e; none = met.none; sheet_of = met.sheet_of; all = λ c. all; live = met.live },
        record { cursor = refl; missing = refl; delivered = refl },
      )
      by_close false e =
          let now : sequence_in (closed_buffer b q).sequences q ≡ closed_sequence b.live (sequence_in b.sequences q) =
          changed_here q (closed_sequence b.live) (λ s. refl) b.sequences met.known in (
            record {
              known = known_changed q q (closed_sequence b.live) (λ s. refl) b.sequences ∙ met.known;
              arrived = ap (λ (x : Sequence). x.arrived) now ∙ met.arrived;
              shut = ap (λ (x : Sequence). x.closed) now;
              none = ap (λ (x : Sequence). x.final) now
                  ∙ ap (λ (rs : List BufferRecord). rising (map (λ (stored : BufferRecord). stored.chunk_id) rs)) (no_parts (sequence_in b.sequences q).number (number_of b.sequences q met.known) b.live met.live);
              sheet_of = met.sheet_of;
              all = λ c. all;
              live = met.live;
            },
            record {
              cursor = ap (λ (x : Sequence). x.cursor) now;
              missing = ap (λ (x : Sequence). x.missing) now;
              delivered = ap (λ (x : Sequence). x.delivered) now;
            },
          )

-- A read

pub read_met : (sheets : List Sheet) (q : ℕ) (came : List ℕ) (closed : Bool) (later : List Patch) (limit : ℕ) (b : Buffer) → IsMet sheets q came closed later b
    → IsMet sheets q came closed later (with_read b q limit)
read_met sheets q came closed later limit b met =
    let now = read_now q limit b met.known in
    record {
      known = known_changed q q (sequence_after (passed_by limit (row_from_cursor b (sequence_in b.sequences q)))) (λ s. refl) b.sequences ∙ met.known;
      arrived = ap (λ (x : Sequence). x.arrived) now ∙ met.arrived;
      shut = ap (λ (x : Sequence). x.closed) now ∙ met.shut;
      none = ap (λ (x : Sequence). x.final) now ∙ met.none;
      sheet_of = met.sheet_of;
      all = met.all;
      live = met.live;
    }
