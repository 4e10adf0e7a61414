-- What is known is kept by parts of a chunk, by patches, by a close and by reads.
use Rattle.std.proofs.Common.{◌≡◌, ◌∙◌, ℕ, ◌<◌, Bool, true, false, not, ◌&&◌, ◌||◌, List, [], ◌∷◌, ◌++◌, length, map, refl, sym, ap, subst, arith}
use Rattle.std.specs.Prelude.{cond, ◌==◌, slice_get, filter, MatchBool}
use Rattle.std.proofs.lemmas.Bool.{false≢true, eqb-true, eq-eqb, and_parts, and_from}
use Rattle.trace_model.specs.Images.{Chunk, Patch, patched_last, last_holds, partial_chunk}
use Rattle.trace_model.specs.Fading.{ShowFragments}
use Rattle.trace_model.specs.Sequences.{Sequence, is_among, sequence_in, is_known}
use Rattle.trace_model.specs.Buffers.{Buffer, BufferRecord, is_of, made_room}
use Rattle.trace_model.specs.Places.{place_after}
use Rattle.trace_model.specs.Arrivals.{Arrived, Kept, Rewritten, Duplicate, Discarded, TooFar, BadChunk, partial_arrival_of, settled, with_partial_arrival}
use Rattle.trace_model.specs.Patches.{awaits_at, patched_chunk, with_patch, with_patches, closed_sequence, closed_buffer, with_close}
use Rattle.trace_model.specs.Row.{row_from_cursor}
use Rattle.trace_model.specs.Reads.{passed_by, sequence_after, with_read}
use Rattle.trace_model.proofs.SequenceLemmas.{changed_here, known_changed, number_of}
use Rattle.trace_model.proofs.PageLemmas.{same_long}
use Rattle.model_laws.proofs.RisingLemmas.{rising_lists_are_sets}
use Rattle.delivery_laws.specs.Sheets.{Sheet}
use Rattle.delivery_laws.specs.Histories.{Completes, IsPart}
use Rattle.delivery_laws.proofs.KnownLemmas.{IsGood, EachOf, HasSheet, IsKnown}
use Rattle.delivery_laws.proofs.KeepLemmas.{Keeps, keeps_same, keeps_both, keeps_room, each_change, each_append, reader_kept, known_kept}
use Rattle.delivery_laws.proofs.EventLemmas.{Continues}

-- Parts of a chunk

module _ (sheets : List Sheet) (q come : ℕ) (later : List Patch) where
  good_part : (r : BufferRecord) (chunk : Chunk) → IsPart sheets come chunk → r.chunk_id ≡ come → r.chunk ≡ partial_chunk chunk → IsGood sheets come later r
  good_part r chunk is at e = record {
    sheet = is.sheet;
    there = ap (slice_get sheets) at ∙ is.there;
    continues = ap (λ (c : Chunk). c.continues) e ∙ is.continues;
    complete = λ p. absurd (false≢true (sym p ∙ ap (λ (c : Chunk). c.partial) e));
    part = λ p. (
      at,
      ap (λ (c : Chunk). c.runs_on) e,
      ap (λ (c : Chunk). c.awaits) e,
      subst (λ (c : Chunk). ShowFragments true false c.fragments is.sheet.written) (sym e) is.shows,
    );
    some = subst (λ (c : Chunk). 0 < length c.fragments) (sym e) is.some;
  }

  keeps_part : (b : Buffer) (chunk : Chunk) → IsPart sheets come chunk → (outcome : Arrived)
      → Keeps q (IsGood sheets come later) b (settled outcome b q come (partial_chunk chunk))
  keeps_part b chunk is Kept =
      keeps_both q (IsGood sheets come later) b (made_room b (sequence_in b.sequences q).size) (settled Kept b q come (partial_chunk chunk))
      (keeps_room q (IsGood sheets come later) b (sequence_in b.sequences q).size)
      (record {
        known = λ h. h;
        same = λ h. refl;
        live = λ each. each_append q (IsGood sheets come later) (made_room b (sequence_in b.sequences q).size).live
            (record { sequence = q; chunk_id = come; at = place_after b.room b.next (sequence_in b.sequences q).size; size = (sequence_in b.sequences q).size; chunk = partial_chunk chunk } ∷ []) each
            ((λ of. good_part (record { sequence = q; chunk_id = come; at = place_after b.room b.next (sequence_in b.sequences q).size; size = (sequence_in b.sequences q).size; chunk = partial_chunk chunk }) chunk is refl refl), tt);
      })
  keeps_part b chunk is Rewritten = record {
    known = λ h. h;
    same = λ h. refl;
    live = λ each. each_change q (IsGood sheets come later) (IsGood sheets come later) (λ stored. cond (is_of q come stored) (record stored { chunk = partial_chunk chunk }) stored)
        (λ r good of. by_test r (is_of q come r) refl good of) b.live each;
  }
    where
      by_test : (r : BufferRecord) (x : Bool) → is_of q come r ≡ x → ((r.sequence == q) ≡ true → IsGood sheets come later r)
          → ((cond x (record r { chunk = partial_chunk chunk }) r).sequence == q) ≡ true → IsGood sheets come later (cond x (record r { chunk = partial_chunk chunk }) r)
      by_test r true e good of = good_part (record r { chunk = partial_chunk chunk }) chunk is (eqb-true r.chunk_id come (and_parts (r.sequence == q) (r.chunk_id == come) e).1) refl
      by_test r false e good of = good of
  keeps_part b chunk is Duplicate = keeps_same q (IsGood sheets come later) b
  keeps_part b chunk is Discarded = record { known = λ h. h; same = λ h. refl; live = λ h. h }
  keeps_part b chunk is TooFar = keeps_same q (IsGood sheets come later) b
  keeps_part b chunk is (BadChunk fragment) = keeps_same q (IsGood sheets come later) b

  pub arrives_in_part : (b : Buffer) (chunk : Chunk) → IsKnown sheets q come false later b → IsPart sheets come chunk
      → Continues sheets q come later come false later b (with_partial_arrival b q come chunk)
  arrives_in_part b chunk known is =
      let keeps : Keeps q (IsGood sheets come later) b (with_partial_arrival b q come chunk) = keeps_part b chunk is (partial_arrival_of b q come (length chunk.fragments)) in
      record {
        known = known_kept sheets q come false later b (with_partial_arrival b q come chunk) known keeps;
        reader = reader_kept (sequence_in b.sequences q) (sequence_in (with_partial_arrival b q come chunk).sequences q) (keeps.same known.known);
      }

-- Patches

module _ (sheets : List Sheet) (q come : ℕ) (closed : Bool) where
  good_patched : (patch : Patch) (later : List Patch) (r : BufferRecord) (x : Bool) → (awaits_at q patch.chunk_id r && last_holds r.chunk.fragments patch) ≡ x
      → (r.sequence == q) ≡ true → IsGood sheets come (patch ∷ later) r → IsGood sheets come later (cond x (record r { chunk = patched_chunk patch r.chunk }) r)
  good_patched patch later r true e of good =
      let holds = and_parts (awaits_at q patch.chunk_id r) (last_holds r.chunk.fragments patch) e in
      let awaits = and_parts (is_of q patch.chunk_id r) r.chunk.awaits holds.0 in
      let same : r.chunk_id ≡ patch.chunk_id = eqb-true r.chunk_id patch.chunk_id (and_parts (r.sequence == q) (r.chunk_id == patch.chunk_id) awaits.0).1 in
      record {
        sheet = good.sheet;
        there = good.there;
        continues = good.continues;
        complete = λ p.
            let c = good.complete p in
            (c.0, c.1, here (patch.chunk_id == r.chunk_id) (eq-eqb patch.chunk_id r.chunk_id (sym same)) c.2);
        part = λ p. absurd (false≢true (sym (good.part p).2 ∙ awaits.1));
        some = let long = same_long r.chunk.fragments patch in let some = good.some in omega (arith, long, some);
      }
    where
      here : (x : Bool) → x ≡ true
          → MatchBool x ((r.chunk.awaits ≡ true) × (last_holds r.chunk.fragments patch ≡ true) × Completes later r.chunk_id (not patch.last) (patched_last patch r.chunk.fragments) good.sheet.written)
          (Completes later r.chunk_id r.chunk.awaits r.chunk.fragments good.sheet.written)
          → Completes later r.chunk_id (not patch.last) (patched_last patch r.chunk.fragments) good.sheet.written
      here true f h = h.2
      here false f h = absurd (false≢true f)
  good_patched patch later r false e of good = record {
    sheet = good.sheet;
    there = good.there;
    continues = good.continues;
    complete = λ p. let c = good.complete p in (c.0, c.1, elsewhere (patch.chunk_id == r.chunk_id) refl c.2);
    part = good.part;
    some = good.some;
  }
    where
      elsewhere : (x : Bool) → (patch.chunk_id == r.chunk_id) ≡ x
          → MatchBool x ((r.chunk.awaits ≡ true) × (last_holds r.chunk.fragments patch ≡ true) × Completes later r.chunk_id (not patch.last) (patched_last patch r.chunk.fragments) good.sheet.written)
          (Completes later r.chunk_id r.chunk.awaits r.chunk.fragments good.sheet.written)
          → Completes later r.chunk_id r.chunk.awaits r.chunk.fragments good.sheet.written
      elsewhere true f h =
          let is : is_of q patch.chunk_id r ≡ true = and_from (r.sequence == q) (r.chunk_id == patch.chunk_id) of (eq-eqb r.chunk_id patch.chunk_id (sym (eqb-true patch.chunk_id r.chunk_id f))) in
          absurd (false≢true (sym e ∙ and_from (awaits_at q patch.chunk_id r) (last_holds r.chunk.fragments patch) (and_from (is_of q patch.chunk_id r) r.chunk.awaits is h.0) h.1))
      elsewhere false f h = h

  pub patched_known : (patch : Patch) (later : List Patch) (b : Buffer) → IsKnown sheets q come closed (patch ∷ later) b → IsKnown sheets q come closed later (with_patch b q patch)
  patched_known patch later b known = record {
    known = known.known;
    arrived = known.arrived;
    shut = known.shut;
    none = known.none;
    final = known.final;
    came = known.came;
    live = each_change q (IsGood sheets come (patch ∷ later)) (IsGood sheets come later)
        (λ stored. cond (awaits_at q patch.chunk_id stored && last_holds stored.chunk.fragments patch) (record stored { chunk = patched_chunk patch stored.chunk }) stored)
        (λ r good of.
        let here : (r.sequence == q) ≡ true = of_record r (awaits_at q patch.chunk_id r && last_holds r.chunk.fragments patch) of in
        good_patched patch later r (awaits_at q patch.chunk_id r && last_holds r.chunk.fragments patch) refl here (good here))
        b.live known.live;
  }
    where
      of_record : (r : BufferRecord) (x : Bool) → ((cond x (record r { chunk = patched_chunk patch r.chunk }) r).sequence == q) ≡ true → (r.sequence == q) ≡ true
      of_record r true h = h
      of_record r false h = h

  pub patches_known : (patches left : List Patch) (b : Buffer) → IsKnown sheets q come closed (patches ++ left) b
      → IsKnown sheets q come closed left (with_patches b q patches) × (((with_patches b q patches).sequences) ≡ b.sequences)
  patches_known [] left b known = (known, refl)
  patches_known (patch ∷ patches) left b known = patches_known patches left (with_patch b q patch) (patched_known patch (patches ++ left) b known)

-- A close

module _ (sheets : List Sheet) (q come : ℕ) (later : List Patch) where
  -- the positions of partial records are all the next one's
  final_ids : (n : ℕ) → n ≡ q → (rs : List BufferRecord) → EachOf q (IsGood sheets come later) rs → (i : ℕ)
      → is_among i (map (λ (stored : BufferRecord). stored.chunk_id) (filter (λ stored. (stored.sequence == n) && stored.chunk.partial) rs)) ≡ true
      → (i ≡ come) × HasSheet sheets i
  final_ids n same [] each i h = absurd (false≢true h)
  final_ids n same (r ∷ rs) each i h =
      step ((r.sequence == n) && r.chunk.partial) refl h (final_ids n same rs each.1 i)
    where
      step : (x : Bool) → ((r.sequence == n) && r.chunk.partial) ≡ x
          → is_among i (map (λ (stored : BufferRecord). stored.chunk_id)
          (cond x (r ∷ filter (λ stored. (stored.sequence == n) && stored.chunk.partial) rs) (filter (λ stored. (stored.sequence == n) && stored.chunk.partial) rs))) ≡ true
          → (is_among i (map (λ (stored : BufferRecord). stored.chunk_id) (filter (λ stored. (stored.sequence == n) && stored.chunk.partial) rs)) ≡ true → (i ≡ come) × HasSheet sheets i)
          → (i ≡ come) × HasSheet sheets i
      step false e h k = k h
      step true e h k = here (r.chunk_id == i) refl h
        where
          here : (y : Bool) → (r.chunk_id == i) ≡ y
              → (y || is_among i (map (λ (stored : BufferRecord). stored.chunk_id) (filter (λ stored. (stored.sequence == n) && stored.chunk.partial) rs))) ≡ true
              → (i ≡ come) × HasSheet sheets i
          here false f h = k h
          here true f h =
              let parts = and_parts (r.sequence == n) r.chunk.partial e in
              let good = each.0 (eq-eqb r.sequence q (eqb-true r.sequence n parts.0 ∙ same)) in
              let at : r.chunk_id ≡ i = eqb-true r.chunk_id i f in
              (sym at ∙ (good.part parts.1).0, subst (HasSheet sheets) at (good.sheet, good.there))

  pub closes : (b : Buffer) → IsKnown sheets q come false later b → Continues sheets q come later come true later b (with_close b q)
  closes b known =
      subst (λ (x : Bool). Continues sheets q come later come true later b (cond x b (closed_buffer b q))) (sym known.shut)
      (let now : sequence_in (closed_buffer b q).sequences q ≡ closed_sequence b.live (sequence_in b.sequences q) =
      changed_here q (closed_sequence b.live) (λ s. refl) b.sequences known.known in
      record {
        known = record {
          known = known_changed q q (closed_sequence b.live) (λ s. refl) b.sequences ∙ known.known;
          arrived = ap (λ (x : Sequence). x.arrived) now ∙ known.arrived;
          shut = ap (λ (x : Sequence). x.closed) now;
          none = λ o. absurd (false≢true (sym o));
          final = λ i h. final_ids (sequence_in b.sequences q).number (number_of b.sequences q known.known) b.live known.live i
              (sym (rising_lists_are_sets.all_members i
              (map (λ (stored : BufferRecord). stored.chunk_id) (filter (λ stored. (stored.sequence == (sequence_in b.sequences q).number) && stored.chunk.partial) b.live)))
              ∙ sym (ap (λ (x : Sequence). is_among i x.final) now) ∙ h);
          came = known.came;
          live = known.live;
        };
        reader = record {
          cursor = ap (λ (x : Sequence). x.cursor) now;
          missing = ap (λ (x : Sequence). x.missing) now;
          delivered = ap (λ (x : Sequence). x.delivered) now;
        };
      })

-- A read

pub read_now : (q limit : ℕ) (b : Buffer) → is_known b.sequences q ≡ true
    → sequence_in (with_read b q limit).sequences q ≡ sequence_after (passed_by limit (row_from_cursor b (sequence_in b.sequences q))) (sequence_in b.sequences q)
read_now q limit b known = changed_here q (sequence_after (passed_by limit (row_from_cursor b (sequence_in b.sequences q)))) (λ s. refl) b.sequences known

pub read_known : (sheets : List Sheet) (q come : ℕ) (closed : Bool) (later : List Patch) (limit : ℕ) (b : Buffer) → IsKnown sheets q come closed later b
    → IsKnown sheets q come closed later (with_read b q limit)
read_known sheets q come closed later limit b known =
    let now = read_now q limit b known.known in
    record {
      known = known_changed q q (sequence_after (passed_by limit (row_from_cursor b (sequence_in b.sequences q)))) (λ s. refl) b.sequences ∙ known.known;
      arrived = ap (λ (x : Sequence). x.arrived) now ∙ known.arrived;
      shut = ap (λ (x : Sequence). x.closed) now ∙ known.shut;
      none = λ o. ap (λ (x : Sequence). x.final) now ∙ known.none o;
      final = λ i h. known.final i (sym (ap (λ (x : Sequence). is_among i x.final) now) ∙ h);
      came = known.came;
      live = known.live;
    }
