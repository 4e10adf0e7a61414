-- What became of each packet is fixed that begins before the reader, or in a chunk that came and is gone: one event keeps that. And a read of all
-- that is due fixes it of each packet that begins in the chunks which are there whole and await nothing.
use Rattle.std.proofs.Common.{◌≡◌, ◌∙◌, ℕ, zero, suc, ◌+◌, ◌-◌, ◌<◌, ◌≤◌, ◌⊎◌, Bool, true, false, not, ◌&&◌, ◌||◌, List, [], ◌∷◌, ◌++◌, length, Option, Some, None, refl, sym, ap, subst, arith, inl, inr}
use Rattle.std.specs.Prelude.{cond, ◌==◌, slice_get}
use Rattle.std.specs.List.{flat_map}
use Rattle.std.proofs.lemmas.Bool.{false≢true, cases_lt}
use Rattle.std.proofs.lemmas.Option.{same_Some}
use Rattle.trace_model.specs.Images.{Fragment, Patch}
use Rattle.trace_model.specs.Fading.{ShowFragments}
use Rattle.trace_model.specs.Sequences.{Sequence, sequence_in, is_known, has_arrived, is_among, base_of, end_of}
use Rattle.trace_model.specs.Buffers.{Buffer, BufferRecord, live_at}
use Rattle.trace_model.specs.Row.{Slot, Link, place, is_part, slot_from, slot_of, slots_of, horizon, row_from_cursor}
use Rattle.trace_model.specs.RowLaws.{Before, UpTo}
use Rattle.trace_model.specs.Reads.{delivers, passed_by, left_by, count_of, with_read}
use Rattle.trace_model.specs.History.{Event, event_sequence, buffer_after}
use Rattle.trace_model.specs.Causes.{Fixed, fixed_by, fixed_by_link}
use Rattle.trace_model.proofs.CursorLemmas.{not_both}
use Rattle.trace_model.proofs.RowPlaceLemmas.{rows_rise}
use Rattle.delivery_laws.specs.Sheets.{Sheet}
use Rattle.delivery_laws.proofs.IdLemmas.{among_upto, not_upto}
use Rattle.delivery_laws.proofs.AdjacentLemmas.{begin_of, Adjacent, row_adjacent, reader_after, cursor_is}
use Rattle.delivery_laws.proofs.KnownLemmas.{IsGood, EachOf, IsKnown, IsFound, found_at, completes_shows, base_is, arrived_is, arrived_above, live_is, known_some}
use Rattle.delivery_laws.proofs.KeepLemmas.{SameReader}
use Rattle.delivery_laws.proofs.OwnEvents.{read_now}
use Rattle.delivery_laws.proofs.StartRows.{IsFixed, fixed_first, fixed_behind, HasStart, ShowsStart, row_has, read_fixes}
use Rattle.delivery_laws.proofs.FarRows.{IsDone, AreDone, row_far, left_far}
use Rattle.delivery_laws.proofs.LossLemmas.{before_or_not, event_loses}

-- a packet begins at the place: a fragment was written there, and it continues no other
pub record IsBegun (sheets : List Sheet) (i k : ℕ) : Type 0 where
  pub sheet : Sheet
  pub there : slice_get sheets i ≡ Some sheet
  pub inside : k < length sheet.written
  pub begins : (sheet.chunk.continues && (k == 0)) ≡ false

pub same_length : (awaits : Bool) (fragments written : List Fragment) → ShowFragments false awaits fragments written → length fragments ≡ length written
same_length awaits [] [] h = refl
same_length awaits [] (w ∷ ws) h = absurd h
same_length awaits (f ∷ fs) [] h = absurd h
same_length awaits (f ∷ fs) (w ∷ ws) h = let e = same_length awaits fs ws h.2 in omega (arith, e)

-- the slots from a chunk on, and how many there are
pub slots_get : (b : Buffer) (s : Sequence) (count j d : ℕ) → (slice_get (slots_of b s j count) d ≡ Some (slot_of b s (j + d))) ⊎ (slice_get (slots_of b s j count) d ≡ None)
slots_get b s zero j d = inr (none d)
  where
    none : (d : ℕ) → slice_get {X = Slot} [] d ≡ None
    none zero = refl
    none (suc d) = refl
slots_get b s (suc count) j zero = let at : j ≡ j + 0 = omega arith in inl (ap (λ (i : ℕ). Some (slot_of b s i)) at)
slots_get b s (suc count) j (suc d) = further (slots_get b s count (suc j) d)
  where
    further : ((slice_get (slots_of b s (suc j) count) d ≡ Some (slot_of b s (suc j + d))) ⊎ (slice_get (slots_of b s (suc j) count) d ≡ None))
        → (slice_get (slots_of b s (suc j) count) d ≡ Some (slot_of b s (j + suc d))) ⊎ (slice_get (slots_of b s (suc j) count) d ≡ None)
    further (inl e) = let at : suc j + d ≡ j + suc d = omega arith in inl (e ∙ ap (λ (i : ℕ). Some (slot_of b s i)) at)
    further (inr e) = inr e

slots_long : (b : Buffer) (s : Sequence) (count j : ℕ) → length (slots_of b s j count) ≡ count
slots_long b s zero j = refl
slots_long b s (suc count) j = let e = slots_long b s count (suc j) in omega (arith, e)

-- each record that is live, of the chunks before this one, awaits nothing
abbrev pub Quiet : ℕ → BufferRecord → Type 0
Quiet n r = r.chunk_id < n → r.chunk.awaits ≡ false

module _ (sheets : List Sheet) (q : ℕ) where
  -- of chunks that came, or of an open sequence
  abbrev pub Counts : ℕ → Bool → ℕ → Type 0
  Counts come closed i = (i < come) ⊎ (closed ≡ false)

  pub record AreSettled (come : ℕ) (closed : Bool) (past : List Fixed) (b : Buffer) : Type 0 where
    pub before : (i k : ℕ) → IsBegun sheets i k → Counts come closed i → Before (place i k) (sequence_in b.sequences q).cursor → IsFixed (place i k) past
    pub gone : (i k : ℕ) → IsBegun sheets i k → i < come → live_at b q i ≡ None → IsFixed (place i k) past

  module _ (come : ℕ) (closed : Bool) (later : List Patch) (b : Buffer) (known : IsKnown sheets q come closed later b) where
    -- a live record of a chunk that came is whole
    record IsWhole (i k : ℕ) (r : BufferRecord) : Type 0 where
      partial : r.chunk.partial ≡ false
      inside : k < length r.chunk.fragments
      begins : (r.chunk.continues && (k == 0)) ≡ false

    found_whole : (i k : ℕ) → IsBegun sheets i k → (r : BufferRecord) → IsFound (IsGood sheets come later) i r → r.chunk.partial ≡ false → IsWhole i k r
    found_whole i k begun r found p =
        let good = found.holds in
        let same : good.sheet ≡ begun.sheet = same_Some good.sheet begun.sheet (sym good.there ∙ ap (slice_get sheets) found.same ∙ begun.there) in
        let long = same_length r.chunk.awaits r.chunk.fragments good.sheet.written
        (completes_shows later r.chunk_id r.chunk.awaits r.chunk.fragments good.sheet.written (good.complete p).2) in
        let written = ap (λ (s : Sheet). length s.written) same in
        let within = begun.inside in
        record {
          partial = p;
          inside = omega (arith, long, written, within);
          begins = ap (λ (c : Bool). c && (k == 0)) (good.continues ∙ ap (λ (s : Sheet). s.chunk.continues) same) ∙ begun.begins;
        }

    came_whole : (i k : ℕ) → IsBegun sheets i k → i < come → (r : BufferRecord) → live_at b q i ≡ Some r → IsWhole i k r
    came_whole i k begun low r there =
        let found = found_at q (IsGood sheets come later) i b.live r known.live there in
        by_part found r.chunk.partial refl
      where
        by_part : IsFound (IsGood sheets come later) i r → (p : Bool) → r.chunk.partial ≡ p → IsWhole i k r
        by_part found true p = let at = (found.holds.part p).0 in let same = found.same in absurd (omega (arith, low, at, same))
        by_part found false p = found_whole i k begun r found p

    -- one event
    pub settled_next : (come' : ℕ) (closed' : Bool) (past : List Fixed) (event : Event) → AreSettled come closed past b
        → SameReader (sequence_in b.sequences q) (sequence_in (buffer_after b event).sequences q)
        → come' ≤ suc come → ((i : ℕ) → Counts come' closed' i → Counts come closed i)
        → ((k : ℕ) → IsBegun sheets come k → come < come' → live_at (buffer_after b event) q come ≡ None
        → IsFixed (place come k) (past ++ cond (is_known b.sequences (event_sequence event)) (fixed_by b (sequence_in b.sequences q) event) []))
        → AreSettled come' closed' (past ++ cond (is_known b.sequences (event_sequence event)) (fixed_by b (sequence_in b.sequences q) event) []) (buffer_after b event)
    settled_next come' closed' past event settled reader most counts new = record {
      before = λ i k begun counted before.
          fixed_first (place i k) past (cond (is_known b.sequences (event_sequence event)) (fixed_by b (sequence_in b.sequences q) event) [])
          (settled.before i k begun (counts i counted) (subst (Before (place i k)) reader.cursor before));
      gone = λ i k begun low none. by_place i k begun low none (cases_lt i come);
    }
      where
        by_place : (i k : ℕ) → IsBegun sheets i k → i < come' → live_at (buffer_after b event) q i ≡ None → ((i < come) ⊎ (come ≤ i))
            → IsFixed (place i k) (past ++ cond (is_known b.sequences (event_sequence event)) (fixed_by b (sequence_in b.sequences q) event) [])
        by_place i k begun low none (inr high) =
            let same : come ≡ i = omega (arith, low, high, most) in
            subst (λ (j : ℕ). IsFixed (place j k) (past ++ cond (is_known b.sequences (event_sequence event)) (fixed_by b (sequence_in b.sequences q) event) [])) same
            (new k (subst (λ (j : ℕ). IsBegun sheets j k) (sym same) begun) (omega (arith, low, same))
            (ap (live_at (buffer_after b event) q) same ∙ none))
        by_place i k begun low none (inl came) = by_live (live_at b q i) refl (before_or_not (place i k) (sequence_in b.sequences q).cursor)
          where
            by_live : (o : Option BufferRecord) → live_at b q i ≡ o → Before (place i k) (sequence_in b.sequences q).cursor ⊎ UpTo (sequence_in b.sequences q).cursor (place i k)
                → IsFixed (place i k) (past ++ cond (is_known b.sequences (event_sequence event)) (fixed_by b (sequence_in b.sequences q) event) [])
            by_live None e at =
                fixed_first (place i k) past (cond (is_known b.sequences (event_sequence event)) (fixed_by b (sequence_in b.sequences q) event) []) (settled.gone i k begun came e)
            by_live (Some r) e (inl before) =
                fixed_first (place i k) past (cond (is_known b.sequences (event_sequence event)) (fixed_by b (sequence_in b.sequences q) event) [])
                (settled.before i k begun (inl came) before)
            by_live (Some r) e (inr behind) =
                let whole = came_whole i k begun came r e in
                fixed_behind (place i k) past (cond (is_known b.sequences (event_sequence event)) (fixed_by b (sequence_in b.sequences q) event) [])
                (event_loses q i k b known.known
                (record { stored = r; there = e; whole = whole.partial; inside = whole.inside; begins = whole.begins; unread = behind }) event none)

    -- A read

    s : Sequence
    s = sequence_in b.sequences q

    abbrev row : List Link
    row = row_from_cursor b (sequence_in b.sequences q)

    row_is_adjacent : Adjacent row
    row_is_adjacent = row_adjacent (sequence_in b.sequences q).closed
        (slots_of b (sequence_in b.sequences q) (sequence_in b.sequences q).cursor.chunk_id (horizon (sequence_in b.sequences q) - (sequence_in b.sequences q).cursor.chunk_id))
        (sequence_in b.sequences q).cursor.chunk_id (sequence_in b.sequences q).cursor.passed
        (known_some sheets q come closed later b known (horizon (sequence_in b.sequences q) - (sequence_in b.sequences q).cursor.chunk_id) (sequence_in b.sequences q).cursor.chunk_id)

    -- the slot of a chunk in which a packet begins
    slot_shows : (i k : ℕ) → IsBegun sheets i k → Counts come closed i → (i < come → live_at b q i ≡ None → ⊥)
        → ShowsStart (sequence_in b.sequences q).closed k (Some (slot_of b (sequence_in b.sequences q) i))
    slot_shows i k begun counted there =
        by_live (live_at b (sequence_in b.sequences q).number i) refl (has_arrived (sequence_in b.sequences q) i || is_among i (sequence_in b.sequences q).final) refl
      where
        open_now : (i < come → ⊥) → closed ≡ false
        open_now not_come = by_counted counted
          where
            by_counted : Counts come closed i → closed ≡ false
            by_counted (inl low) = absurd (not_come low)
            by_counted (inr e) = e

        by_live : (o : Option BufferRecord) → live_at b (sequence_in b.sequences q).number i ≡ o
            → (x : Bool) → (has_arrived (sequence_in b.sequences q) i || is_among i (sequence_in b.sequences q).final) ≡ x
            → ShowsStart (sequence_in b.sequences q).closed k (Some (slot_from o x))
        by_live (Some r) e x f =
            let found = found_at q (IsGood sheets come later) i b.live r known.live (sym (live_is sheets q come closed later b known i) ∙ e) in
            by_part found r.chunk.partial refl (cases_lt k (length r.chunk.fragments))
          where
            by_part : IsFound (IsGood sheets come later) i r → (p : Bool) → r.chunk.partial ≡ p → ((k < length r.chunk.fragments) ⊎ (length r.chunk.fragments ≤ k))
                → ((k < length r.chunk.fragments) × ((r.chunk.continues && (k == 0)) ≡ false)) ⊎ ((length r.chunk.fragments ≤ k) × (is_part (sequence_in b.sequences q).closed r.chunk ≡ true))
            by_part found false p at = let whole = found_whole i k begun r found p in inl (whole.inside, whole.begins)
            by_part found true p (inl low) =
                let good = found.holds in
                let same : good.sheet ≡ begun.sheet = same_Some good.sheet begun.sheet (sym good.there ∙ ap (slice_get sheets) found.same ∙ begun.there) in
                inl (low, ap (λ (c : Bool). c && (k == 0)) (good.continues ∙ ap (λ (t : Sheet). t.chunk.continues) same) ∙ begun.begins)
            by_part found true p (inr high) =
                let at = (found.holds.part p).0 in
                let same = found.same in
                let shut : (sequence_in b.sequences q).closed ≡ false = known.shut ∙ open_now (λ low. omega (arith, low, at, same)) in
                inr (high, ap (λ (x : Bool). x && not (sequence_in b.sequences q).closed) p ∙ ap not shut)
        by_live None e true f = absurd (by_place (cases_lt i come))
          where
            by_place : ((i < come) ⊎ (come ≤ i)) → ⊥
            by_place (inl low) = there low (sym (live_is sheets q come closed later b known i) ∙ e)
            by_place (inr high) =
                let arrived = arrived_is sheets q come closed later b known i ∙ not_upto i come high in
                let final = ap (is_among i) (known.none (open_now (λ low. omega (arith, low, high)))) in
                false≢true (sym (ap (λ (x : Bool). x || is_among i (sequence_in b.sequences q).final) arrived ∙ final) ∙ f)
        by_live None e false f = known.shut ∙ open_now (λ low. false≢true (sym f
            ∙ ap (λ (x : Bool). x || is_among i (sequence_in b.sequences q).final) (arrived_is sheets q come closed later b known i ∙ among_upto i come low)))

    row_starts : (i k : ℕ) → IsBegun sheets i k → Counts come closed i → (i < come → live_at b q i ≡ None → ⊥) → UpTo (sequence_in b.sequences q).cursor (place i k)
        → HasStart (place i k) row
    row_starts i k begun counted there behind =
        let at : (sequence_in b.sequences q).cursor.chunk_id + (i - (sequence_in b.sequences q).cursor.chunk_id) ≡ i = by_place behind in
        subst (λ (j : ℕ). HasStart (place j k) row) at
        (row_has (sequence_in b.sequences q).closed
        (slots_of b (sequence_in b.sequences q) (sequence_in b.sequences q).cursor.chunk_id (horizon (sequence_in b.sequences q) - (sequence_in b.sequences q).cursor.chunk_id))
        (sequence_in b.sequences q).cursor.chunk_id (sequence_in b.sequences q).cursor.passed (i - (sequence_in b.sequences q).cursor.chunk_id) k
        (λ z. from behind (omega (arith, at, z)))
        (by_slot at (slots_get b (sequence_in b.sequences q) (horizon (sequence_in b.sequences q) - (sequence_in b.sequences q).cursor.chunk_id)
        (sequence_in b.sequences q).cursor.chunk_id (i - (sequence_in b.sequences q).cursor.chunk_id))))
      where
        by_place : UpTo (sequence_in b.sequences q).cursor (place i k) → (sequence_in b.sequences q).cursor.chunk_id + (i - (sequence_in b.sequences q).cursor.chunk_id) ≡ i
        by_place (inl low) = omega (arith, low)
        by_place (inr same) = let e = same.0 in omega (arith, e)

        from : UpTo (sequence_in b.sequences q).cursor (place i k) → (sequence_in b.sequences q).cursor.chunk_id ≡ i → (sequence_in b.sequences q).cursor.passed ≤ k
        from (inl low) e = absurd (omega (arith, low, e))
        from (inr same) e = same.1

        by_slot : (sequence_in b.sequences q).cursor.chunk_id + (i - (sequence_in b.sequences q).cursor.chunk_id) ≡ i
            → (slice_get (slots_of b (sequence_in b.sequences q) (sequence_in b.sequences q).cursor.chunk_id (horizon (sequence_in b.sequences q) - (sequence_in b.sequences q).cursor.chunk_id)) (i - (sequence_in b.sequences q).cursor.chunk_id)
            ≡ Some (slot_of b (sequence_in b.sequences q) ((sequence_in b.sequences q).cursor.chunk_id + (i - (sequence_in b.sequences q).cursor.chunk_id))))
            ⊎ (slice_get (slots_of b (sequence_in b.sequences q) (sequence_in b.sequences q).cursor.chunk_id (horizon (sequence_in b.sequences q) - (sequence_in b.sequences q).cursor.chunk_id)) (i - (sequence_in b.sequences q).cursor.chunk_id) ≡ None)
            → ShowsStart (sequence_in b.sequences q).closed k
            (slice_get (slots_of b (sequence_in b.sequences q) (sequence_in b.sequences q).cursor.chunk_id (horizon (sequence_in b.sequences q) - (sequence_in b.sequences q).cursor.chunk_id)) (i - (sequence_in b.sequences q).cursor.chunk_id))
        by_slot at (inl e) =
            subst (ShowsStart (sequence_in b.sequences q).closed k) (sym (e ∙ ap (λ (j : ℕ). Some (slot_of b (sequence_in b.sequences q) j)) at)) (slot_shows i k begun counted there)
        by_slot at (inr e) = subst (ShowsStart (sequence_in b.sequences q).closed k) (sym e) tt

    -- what a read passes of starts is fixed by it, or was before
    passed_fixes : (past : List Fixed) (limit i k : ℕ) → AreSettled come closed past b → IsBegun sheets i k → Counts come closed i
        → (UpTo (sequence_in b.sequences q).cursor (place i k) → Before (place i k) (begin_of (left_by limit row)))
        → IsFixed (place i k) (past ++ flat_map fixed_by_link (passed_by limit row))
    passed_fixes past limit i k settled begun counted passed = by_place (before_or_not (place i k) (sequence_in b.sequences q).cursor) (cases_lt i come) (live_at b q i) refl
      where
        by_row : (i < come → live_at b q i ≡ None → ⊥) → UpTo (sequence_in b.sequences q).cursor (place i k) → IsFixed (place i k) (past ++ flat_map fixed_by_link (passed_by limit row))
        by_row there behind =
            fixed_behind (place i k) past (flat_map fixed_by_link (passed_by limit row))
            (read_fixes (place i k) row (place (sequence_in b.sequences q).cursor.chunk_id (sequence_in b.sequences q).cursor.passed) limit row_is_adjacent
            (rows_rise (sequence_in b.sequences q).closed
            (slots_of b (sequence_in b.sequences q) (sequence_in b.sequences q).cursor.chunk_id (horizon (sequence_in b.sequences q) - (sequence_in b.sequences q).cursor.chunk_id))
            (sequence_in b.sequences q).cursor.chunk_id (sequence_in b.sequences q).cursor.passed)
            (row_starts i k begun counted there behind) (passed behind))

        by_place : Before (place i k) (sequence_in b.sequences q).cursor ⊎ UpTo (sequence_in b.sequences q).cursor (place i k) → ((i < come) ⊎ (come ≤ i))
            → (o : Option BufferRecord) → live_at b q i ≡ o → IsFixed (place i k) (past ++ flat_map fixed_by_link (passed_by limit row))
        by_place (inl before) at o e = fixed_first (place i k) past (flat_map fixed_by_link (passed_by limit row)) (settled.before i k begun counted before)
        by_place (inr behind) (inl low) None e = fixed_first (place i k) past (flat_map fixed_by_link (passed_by limit row)) (settled.gone i k begun low e)
        by_place (inr behind) (inl low) (Some r) e = by_row (λ h none. some_none (sym e ∙ none)) behind
          where
            some_none : Some r ≡ None → ⊥
            some_none h = cc
        by_place (inr behind) (inr high) o e = by_row (λ low none. omega (arith, low, high)) behind

    pub read_cursor : (limit : ℕ) → (sequence_in (with_read b q limit).sequences q).cursor ≡ reader_after (sequence_in b.sequences q).cursor (passed_by limit row) (left_by limit row)
    read_cursor limit = ap (λ (x : Sequence). x.cursor) (read_now q limit b known.known) ∙ cursor_is limit row (sequence_in b.sequences q).cursor row_is_adjacent

    pub read_settled : (past : List Fixed) (limit : ℕ) → AreSettled come closed past b
        → AreSettled come closed (past ++ flat_map fixed_by_link (passed_by limit row)) (with_read b q limit)
    read_settled past limit settled = record {
      before = λ i k begun counted before.
          passed_fixes past limit i k settled begun counted
          (λ behind. by_passed i k behind (passed_by limit row) (subst (Before (place i k)) (read_cursor limit) before));
      gone = λ i k begun low none. fixed_first (place i k) past (flat_map fixed_by_link (passed_by limit row)) (settled.gone i k begun low none);
    }
      where
        by_passed : (i k : ℕ) → UpTo (sequence_in b.sequences q).cursor (place i k) → (ls : List Link)
            → Before (place i k) (reader_after (sequence_in b.sequences q).cursor ls (left_by limit row)) → Before (place i k) (begin_of (left_by limit row))
        by_passed i k behind [] before = absurd (not_both (place i k) (sequence_in b.sequences q).cursor before behind)
        by_passed i k behind (link ∷ ls) before = before

    -- A read of all that is due

    slots_done : (n : ℕ) → n ≤ come → EachOf q (Quiet n) b.live → ((sheet : Sheet) (i : ℕ) → slice_get sheets i ≡ Some sheet → suc i ≡ n → sheet.chunk.runs_on ≡ false)
        → (count j : ℕ) → AreDone n j (slots_of b (sequence_in b.sequences q) j count)
    slots_done n low quiet last zero j = tt
    slots_done n low quiet last (suc count) j = (
      (λ below. by_live below (live_at b (sequence_in b.sequences q).number j) refl (has_arrived (sequence_in b.sequences q) j || is_among j (sequence_in b.sequences q).final) refl),
      slots_done n low quiet last count (suc j),
    )
      where
        by_live : j < n → (o : Option BufferRecord) → live_at b (sequence_in b.sequences q).number j ≡ o
            → (x : Bool) → (has_arrived (sequence_in b.sequences q) j || is_among j (sequence_in b.sequences q).final) ≡ x → IsDone n j (slot_from o x)
        by_live below (Some r) e x f =
            let there : live_at b q j ≡ Some r = sym (live_is sheets q come closed later b known j) ∙ e in
            let found = found_at q (IsGood sheets come later) j b.live r known.live there in
            let still = found_at q (Quiet n) j b.live r quiet there in
            let same = found.same in
            by_part found still r.chunk.partial refl
          where
            by_part : IsFound (IsGood sheets come later) j r → IsFound (Quiet n) j r → (p : Bool) → r.chunk.partial ≡ p
                → (r.chunk.partial ≡ false) × (r.chunk.awaits ≡ false) × (suc j ≡ n → r.chunk.runs_on ≡ false)
            by_part found still true p = let at = (found.holds.part p).0 in let same = found.same in absurd (omega (arith, at, same, below, low))
            by_part found still false p =
                let same = found.same in (
                  p,
                  still.holds (omega (arith, same, below)),
                  (λ is_last. (found.holds.complete p).1 ∙ last found.holds.sheet r.chunk_id found.holds.there (omega (arith, same, is_last))),
                )
        by_live below None e true f = tt
        by_live below None e false f =
            absurd (false≢true (sym f ∙ ap (λ (x : Bool). x || is_among j (sequence_in b.sequences q).final) (arrived_is sheets q come closed later b known j ∙ among_upto j come (omega (arith, below, low)))))

    horizon_least : come ≤ horizon (sequence_in b.sequences q)
    horizon_least = by_close (sequence_in b.sequences q).closed
      where
        by_close : (c : Bool) → come ≤ cond c (end_of (sequence_in b.sequences q)) (suc (base_of (sequence_in b.sequences q)))
        by_close true = let above = arrived_above sheets q come closed later b known in omega (arith, above)
        by_close false = let base = base_is come (sequence_in b.sequences q).arrived known.arrived in omega (arith, base)

    pub read_all_settled : (n : ℕ) → n ≤ come → EachOf q (Quiet n) b.live
        → ((sheet : Sheet) (i : ℕ) → slice_get sheets i ≡ Some sheet → suc i ≡ n → sheet.chunk.runs_on ≡ false)
        → (past : List Fixed) (limit : ℕ) → count_of delivers (passed_by (suc limit) row) ≤ limit → AreSettled come closed past b
        → (i k : ℕ) → i < n → IsBegun sheets i k → IsFixed (place i k) (past ++ flat_map fixed_by_link (passed_by limit row))
    read_all_settled n low quiet last past limit few settled i k below begun =
        passed_fixes past limit i k settled begun (inl (omega (arith, below, low)))
        (λ behind. let at = far in inl (omega (arith, at, below)))
      where
        far : n ≤ (begin_of (left_by limit row)).chunk_id
        far =
            let long = slots_long b (sequence_in b.sequences q) (horizon (sequence_in b.sequences q) - (sequence_in b.sequences q).cursor.chunk_id) (sequence_in b.sequences q).cursor.chunk_id in
            let least = horizon_least in
            left_far n row limit
            (row_far n (sequence_in b.sequences q).closed
            (slots_of b (sequence_in b.sequences q) (sequence_in b.sequences q).cursor.chunk_id (horizon (sequence_in b.sequences q) - (sequence_in b.sequences q).cursor.chunk_id))
            (sequence_in b.sequences q).cursor.chunk_id (sequence_in b.sequences q).cursor.passed
            (slots_done n low quiet last (horizon (sequence_in b.sequences q) - (sequence_in b.sequences q).cursor.chunk_id) (sequence_in b.sequences q).cursor.chunk_id)
            (known_some sheets q come closed later b known (horizon (sequence_in b.sequences q) - (sequence_in b.sequences q).cursor.chunk_id) (sequence_in b.sequences q).cursor.chunk_id)
            (omega (arith, long, least, low)))
            few
