-- Every legal history tells: event by event, what is known is kept, and each read tells from where its reader stands.
use Rattle.std.proofs.Common.{◌≡◌, ◌∙◌, ℕ, zero, suc, ◌+◌, ◌-◌, ◌<◌, ◌≤◌, ◌⊎◌, Bool, true, false, not, ◌||◌, List, [], ◌∷◌, ◌++◌, length, refl, sym, ap, subst, arith, inl, inr}
use Rattle.std.specs.Prelude.{cond, ◌==◌, slice_get, MatchBool}
use Rattle.std.proofs.lemmas.Bool.{false≢true, eqb-true, eqb-false, ne_eqb}
use Rattle.trace_model.specs.Counts.{raised}
use Rattle.trace_base.specs.declared.policy.FullPolicy.{FullPolicy}
use Rattle.trace_model.specs.Images.{Chunk, Fragment, Patch}
use Rattle.trace_model.specs.Fading.{ShowFragments}
use Rattle.trace_model.specs.Sequences.{Sequence, Cursor, IsFresh, sequence_in, is_known, is_among}
use Rattle.trace_model.specs.Buffers.{Buffer, empty_buffer}
use Rattle.trace_model.specs.Arrivals.{with_arrival, with_partial_arrival}
use Rattle.trace_model.specs.Patches.{with_patches, with_close}
use Rattle.trace_model.specs.Row.{Link, Joined, Gap, Stop, row_of, slots_of, horizon, row_from_cursor}
use Rattle.trace_model.specs.Reads.{turn_of, delivers, count_of, passed_by, left_by, missing_after, sequence_after, is_marked, delivered_by, delivered_of, with_read}
use Rattle.trace_model.specs.History.{Event, Arrives, ArrivesInPart, Patched, Committed, Closed, Read, event_sequence, after, buffer_after, delivered_to}
use Rattle.model_laws.proofs.PlaceCounts.{count-cons}
use Rattle.delivery_laws.specs.Sheets.{Sheet, Part, SheetsAgree, all_parts, packets_in, sheet_patches}
use Rattle.delivery_laws.specs.Histories.{AreTold, IsComplete, IsPart, Legal}
use Rattle.delivery_laws.specs.DeliveryLaws.{EveryHistoryTells}
use Rattle.delivery_laws.proofs.Walks.{Walks, parts_at, Inside, StandsAt}
use Rattle.delivery_laws.proofs.RowWalks.{all_at_start, inside_first}
use Rattle.delivery_laws.proofs.AdjacentLemmas.{begin_of, Adjacent, row_adjacent, reader_after, cursor_is}
use Rattle.delivery_laws.proofs.ReadTells.{IsBefore, read_tells}
use Rattle.delivery_laws.proofs.KnownLemmas.{IsGood, IsKnown, Past, completes_shows, horizon_most, known_some, known_walks}
use Rattle.delivery_laws.proofs.KeepLemmas.{Keeps, keeps_event, SameReader, reader_kept, known_kept}
use Rattle.delivery_laws.proofs.EventLemmas.{Continues, arrives}
use Rattle.delivery_laws.proofs.OwnEvents.{arrives_in_part, patches_known, closes, read_now, read_known}

-- Marks

-- where nothing is missing since the last delivery there was one
delivered_last : (missing : Bool) (links : List Link) → missing_after missing links ≡ false → (missing ≡ false) ⊎ (0 < count_of delivers links)
delivered_last missing [] h = inl h
delivered_last missing (link ∷ links) h =
    let counted = count-cons (λ (l : Link). delivers (turn_of l)) link links in
    by_last (delivers (turn_of link)) refl (delivered_last (not (delivers (turn_of link))) links h) counted
  where
    by_last : (d : Bool) → delivers (turn_of link) ≡ d → ((not (delivers (turn_of link)) ≡ false) ⊎ (0 < count_of delivers links))
        → count_of delivers (link ∷ links) ≡ cond {A = ℕ} (delivers (turn_of link)) 1 0 + count_of delivers links
        → (missing ≡ false) ⊎ (0 < count_of delivers (link ∷ links))
    by_last true e h counted =
        let one : cond {A = ℕ} (delivers (turn_of link)) 1 0 ≡ 1 = ap (λ (b : Bool). cond {A = ℕ} b 1 0) e in
        inr (omega (arith, counted, one))
    by_last false e (inl h) counted = absurd (false≢true (sym h ∙ ap not e))
    by_last false e (inr h) counted = inr (omega (arith, counted, h))

raised_some : (count more : ℕ) → 0 < more → 0 < raised count more
raised_some count more some = omega (arith, some)

marked_after : (s : Sequence) (link : Link) (links : List Link)
    → is_marked (sequence_after (link ∷ links) s) ≡ missing_after (is_marked s) (link ∷ links)
marked_after s link links = by_missing (missing_after (not (delivers (turn_of link))) links) refl
  where
    by_missing : (m : Bool) → missing_after (not (delivers (turn_of link))) links ≡ m
        → (m || (raised s.delivered (count_of delivers (link ∷ links)) == 0)) ≡ m
    by_missing true e = refl
    by_missing false e =
        by_last (delivered_last s.missing (link ∷ links) e)
      where
        some : 0 < count_of delivers (link ∷ links) → (raised s.delivered (count_of delivers (link ∷ links)) == 0) ≡ false
        some h = ne_eqb (raised s.delivered (count_of delivers (link ∷ links))) 0
            (λ z. let low = raised_some s.delivered (count_of delivers (link ∷ links)) h in omega (arith, low, z))

        counted : count_of delivers (link ∷ links) ≡ cond {A = ℕ} (delivers (turn_of link)) 1 0 + count_of delivers links
        counted = count-cons (λ (l : Link). delivers (turn_of l)) link links

        by_first : ((not (delivers (turn_of link)) ≡ false) ⊎ (0 < count_of delivers links)) → 0 < count_of delivers (link ∷ links)
        by_first (inl h) =
            let one : cond {A = ℕ} (delivers (turn_of link)) 1 0 ≡ 1 = ap (λ (b : Bool). cond {A = ℕ} b 1 0) (was (delivers (turn_of link)) h) in
            let c = counted in
            omega (arith, c, one)
          where
            was : (b : Bool) → not b ≡ false → b ≡ true
            was true h = refl
            was false h = absurd (false≢true (sym h))
        by_first (inr h) = let c = counted in omega (arith, c, h)

        by_last : ((s.missing ≡ false) ⊎ (0 < count_of delivers (link ∷ links))) → (raised s.delivered (count_of delivers (link ∷ links)) == 0) ≡ false
        by_last h = some (by_first (delivered_last (not (delivers (turn_of link))) links e))

-- where the rest of a row walks, its first link stands
pub walk_stands : (At : ℕ → ℕ → List Part → Type 0) (Over : ℕ → Type 0) (links : List Link) (parts : List Part) → Walks At Over links parts
    → At (begin_of links).chunk_id (begin_of links).passed parts ⊎ Over (begin_of links).chunk_id
walk_stands At Over [] parts w = absurd w
walk_stands At Over (Stop at why may ∷ links) parts w = w
walk_stands At Over (Gap at to lost ∷ links) [] w = absurd w
walk_stands At Over (Gap at to lost ∷ links) (part ∷ parts) w = inl w.1.here
walk_stands At Over (Joined chain ∷ links) [] w = absurd w
walk_stands At Over (Joined chain ∷ links) (part ∷ parts) w = inl w.1.here

pub as_long : (awaits : Bool) (fragments written : List Fragment) → ShowFragments false awaits fragments written → length written ≤ length fragments
as_long awaits [] [] h = omega arith
as_long awaits [] (w ∷ ws) h = absurd h
as_long awaits (f ∷ fs) [] h = absurd h
as_long awaits (f ∷ fs) (w ∷ ws) h = omega (arith, as_long awaits fs ws h.2)

module _ (sheets : List Sheet) (agree : SheetsAgree false sheets) (q : ℕ) where
  -- a reader that is inside what was written
  record IsInside (first : Bool) (next : ℕ) (s : Sequence) : Type 0 where
    inside : Inside sheets s.cursor.chunk_id s.cursor.passed
    before : IsBefore (packets_in (all_parts sheets)) (is_marked s) first next (parts_at sheets s.cursor.chunk_id s.cursor.passed)

  -- it stands there, or behind the end of a closed sequence
  abbrev Stands : Bool → ℕ → Bool → ℕ → Sequence → Type 0
  Stands closed come first next s = Past closed come s.cursor.chunk_id ⊎ IsInside first next s

  inside_same : (first : Bool) (next : ℕ) (s t : Sequence) → SameReader s t → IsInside first next s → IsInside first next t
  inside_same first next s t same is = record {
    inside = subst (λ (c : Cursor). Inside sheets c.chunk_id c.passed) (sym same.cursor) is.inside;
    before = subst (λ (c : Cursor). IsBefore (packets_in (all_parts sheets)) (is_marked t) first next (parts_at sheets c.chunk_id c.passed)) (sym same.cursor)
        (subst (λ (m : Bool). IsBefore (packets_in (all_parts sheets)) m first next (parts_at sheets s.cursor.chunk_id s.cursor.passed))
        (ap (λ (b : Bool). b || (s.delivered == 0)) (sym same.missing) ∙ ap (λ (n : ℕ). t.missing || (n == 0)) (sym same.delivered)) is.before);
  }

  stands_same : (closed : Bool) (come : ℕ) (first : Bool) (next : ℕ) (s t : Sequence) → SameReader s t → Stands closed come first next s → Stands closed come first next t
  stands_same closed come first next s t same (inl past) = inl (subst (λ (c : Cursor). Past closed come c.chunk_id) (sym same.cursor) past)
  stands_same closed come first next s t same (inr is) = inr (inside_same first next s t same is)

  stands_open : (come : ℕ) (first : Bool) (next : ℕ) (s : Sequence) → Stands false come first next s → IsInside first next s
  stands_open come first next s (inl past) = absurd (false≢true past.0)
  stands_open come first next s (inr is) = is

  -- whatever is known then, the events tell
  abbrev Rest : List Event → Type 0
  Rest events = (b : Buffer) (come : ℕ) (closed : Bool) (later : List Patch) (first : Bool) (next : ℕ) → IsKnown sheets q come closed later b
      → Stands closed come first next (sequence_in b.sequences q) → Legal sheets q come closed later events
      → AreTold (packets_in (all_parts sheets)) first next (delivered_to q b events)

  -- events of other sequences, which deliver nothing of this one
  other_tells : (b : Buffer) (come : ℕ) (closed : Bool) (later : List Patch) (first : Bool) (next : ℕ) (event : Event) (events : List Event) → Rest events
      → IsKnown sheets q come closed later b → Stands closed come first next (sequence_in b.sequences q)
      → (event_sequence event ≡ q → ⊥) → Legal sheets q come closed later events
      → AreTold (packets_in (all_parts sheets)) first next (delivered_to q (buffer_after b event) events)
  other_tells b come closed later first next event events rest known stands other legal =
      let keeps : Keeps q (IsGood sheets come later) b (buffer_after b event) = keeps_event q (IsGood sheets come later) b event other in
      rest (buffer_after b event) come closed later first next
      (known_kept sheets q come closed later b (buffer_after b event) known keeps)
      (stands_same closed come first next (sequence_in b.sequences q) (sequence_in (buffer_after b event).sequences q)
      (reader_kept (sequence_in b.sequences q) (sequence_in (buffer_after b event).sequences q) (keeps.same known.known)) stands)
      legal

  -- a read passes nothing
  nothing_passed : (b : Buffer) (come : ℕ) (closed : Bool) (later : List Patch) (first : Bool) (next limit : ℕ) (events : List Event) → Rest events
      → IsKnown sheets q come closed later b → Stands closed come first next (sequence_in b.sequences q)
      → passed_by limit (row_from_cursor b (sequence_in b.sequences q)) ≡ [] → Legal sheets q come closed later events
      → AreTold (packets_in (all_parts sheets)) first next (delivered_by b q limit ++ delivered_to q (with_read b q limit) events)
  nothing_passed b come closed later first next limit events rest known stands none legal =
      let now : sequence_in (with_read b q limit).sequences q ≡ sequence_after [] (sequence_in b.sequences q) =
      read_now q limit b known.known ∙ ap (λ (ls : List Link). sequence_after ls (sequence_in b.sequences q)) none in
      subst (λ (ls : List Link). AreTold (packets_in (all_parts sheets)) first next (delivered_of (is_marked (sequence_in b.sequences q)) ls ++ delivered_to q (with_read b q limit) events)) (sym none)
      (rest (with_read b q limit) come closed later first next (read_known sheets q come closed later limit b known)
      (stands_same closed come first next (sequence_in b.sequences q) (sequence_in (with_read b q limit).sequences q)
      (record {
        cursor = ap (λ (x : Sequence). x.cursor) now;
        missing = ap (λ (x : Sequence). x.missing) now;
        delivered = ap (λ (x : Sequence). x.delivered) now ∙ omega arith;
      }) stands)
      legal)

  -- a read passes something
  some_passed : (b : Buffer) (come : ℕ) (closed : Bool) (later : List Patch) (first : Bool) (next limit : ℕ) (events : List Event) → Rest events
      → IsKnown sheets q come closed later b → IsInside first next (sequence_in b.sequences q)
      → (link : Link) (links : List Link) → passed_by limit (row_from_cursor b (sequence_in b.sequences q)) ≡ link ∷ links → Legal sheets q come closed later events
      → AreTold (packets_in (all_parts sheets)) first next (delivered_by b q limit ++ delivered_to q (with_read b q limit) events)
  some_passed b come closed later first next limit events rest known is link links some legal =
      read_tells (StandsAt sheets) (Past closed come) (packets_in (all_parts sheets)) (delivered_to q (with_read b q limit) events)
      (row_from_cursor b (sequence_in b.sequences q)) limit (is_marked (sequence_in b.sequences q)) first next
      (parts_at sheets (sequence_in b.sequences q).cursor.chunk_id (sequence_in b.sequences q).cursor.passed)
      (known_walks sheets q come closed later b known agree is.inside)
      is.before
      (λ first' next' parts walks before.
      rest (with_read b q limit) come closed later first' next' (read_known sheets q come closed later limit b known)
      (by_place first' next' parts before (walk_stands (StandsAt sheets) (Past closed come) (left_by limit (row_from_cursor b (sequence_in b.sequences q))) parts walks))
      legal)
    where
      now : sequence_in (with_read b q limit).sequences q ≡ sequence_after (passed_by limit (row_from_cursor b (sequence_in b.sequences q))) (sequence_in b.sequences q)
      now = read_now q limit b known.known

      adjacent : Adjacent (row_from_cursor b (sequence_in b.sequences q))
      adjacent = row_adjacent (sequence_in b.sequences q).closed
          (slots_of b (sequence_in b.sequences q) (sequence_in b.sequences q).cursor.chunk_id (horizon (sequence_in b.sequences q) - (sequence_in b.sequences q).cursor.chunk_id))
          (sequence_in b.sequences q).cursor.chunk_id (sequence_in b.sequences q).cursor.passed
          (known_some sheets q come closed later b known (horizon (sequence_in b.sequences q) - (sequence_in b.sequences q).cursor.chunk_id) (sequence_in b.sequences q).cursor.chunk_id)

      cursor_now : (sequence_in (with_read b q limit).sequences q).cursor ≡ begin_of (left_by limit (row_from_cursor b (sequence_in b.sequences q)))
      cursor_now =
          ap (λ (x : Sequence). x.cursor) now
          ∙ cursor_is limit (row_from_cursor b (sequence_in b.sequences q)) (sequence_in b.sequences q).cursor adjacent
          ∙ ap (λ (ls : List Link). reader_after (sequence_in b.sequences q).cursor ls (left_by limit (row_from_cursor b (sequence_in b.sequences q)))) some

      marked_now : is_marked (sequence_in (with_read b q limit).sequences q)
          ≡ missing_after (is_marked (sequence_in b.sequences q)) (passed_by limit (row_from_cursor b (sequence_in b.sequences q)))
      marked_now =
          ap is_marked now
          ∙ ap (λ (ls : List Link). is_marked (sequence_after ls (sequence_in b.sequences q))) some
          ∙ marked_after (sequence_in b.sequences q) link links
          ∙ ap (missing_after (is_marked (sequence_in b.sequences q))) (sym some)

      by_place : (first' : Bool) (next' : ℕ) (parts : List Part)
          → IsBefore (packets_in (all_parts sheets)) (missing_after (is_marked (sequence_in b.sequences q)) (passed_by limit (row_from_cursor b (sequence_in b.sequences q)))) first' next' parts
          → (StandsAt sheets (begin_of (left_by limit (row_from_cursor b (sequence_in b.sequences q)))).chunk_id (begin_of (left_by limit (row_from_cursor b (sequence_in b.sequences q)))).passed parts
          ⊎ Past closed come (begin_of (left_by limit (row_from_cursor b (sequence_in b.sequences q)))).chunk_id)
          → Stands closed come first' next' (sequence_in (with_read b q limit).sequences q)
      by_place first' next' parts before (inr past) = inl (subst (λ (c : Cursor). Past closed come c.chunk_id) (sym cursor_now) past)
      by_place first' next' parts before (inl at) = inr (record {
        inside = subst (λ (c : Cursor). Inside sheets c.chunk_id c.passed) (sym cursor_now) at.1;
        before = subst (λ (c : Cursor). IsBefore (packets_in (all_parts sheets)) (is_marked (sequence_in (with_read b q limit).sequences q)) first' next' (parts_at sheets c.chunk_id c.passed)) (sym cursor_now)
            (subst (λ (ps : List Part). IsBefore (packets_in (all_parts sheets)) (is_marked (sequence_in (with_read b q limit).sequences q)) first' next' ps) (sym at.0)
            (subst (λ (m : Bool). IsBefore (packets_in (all_parts sheets)) m first' next' parts) (sym marked_now) before));
      })

  -- behind the end nothing is passed
  past_end : (b : Buffer) (come : ℕ) (closed : Bool) (later : List Patch) (limit : ℕ) → IsKnown sheets q come closed later b
      → Past closed come (sequence_in b.sequences q).cursor.chunk_id → passed_by limit (row_from_cursor b (sequence_in b.sequences q)) ≡ []
  past_end b come closed later limit known past =
      let most = horizon_most sheets q come closed later b known in
      let high = past.1 in
      none (horizon (sequence_in b.sequences q) - (sequence_in b.sequences q).cursor.chunk_id) (omega (arith, most, high))
    where
      none : (n : ℕ) → n ≡ 0
          → passed_by limit (row_of (sequence_in b.sequences q).closed (sequence_in b.sequences q).cursor.chunk_id (sequence_in b.sequences q).cursor.passed
          (slots_of b (sequence_in b.sequences q) (sequence_in b.sequences q).cursor.chunk_id n)) ≡ []
      none zero e = refl
      none (suc n) e = absurd (omega (arith, e))

  read_own : (b : Buffer) (come : ℕ) (closed : Bool) (later : List Patch) (first : Bool) (next limit : ℕ) (events : List Event) → Rest events
      → IsKnown sheets q come closed later b → Stands closed come first next (sequence_in b.sequences q) → Legal sheets q come closed later events
      → AreTold (packets_in (all_parts sheets)) first next (delivered_by b q limit ++ delivered_to q (with_read b q limit) events)
  read_own b come closed later first next limit events rest known stands legal =
      by_passed (passed_by limit (row_from_cursor b (sequence_in b.sequences q))) refl stands
    where
      by_passed : (ls : List Link) → passed_by limit (row_from_cursor b (sequence_in b.sequences q)) ≡ ls → Stands closed come first next (sequence_in b.sequences q)
          → AreTold (packets_in (all_parts sheets)) first next (delivered_by b q limit ++ delivered_to q (with_read b q limit) events)
      by_passed [] e s = nothing_passed b come closed later first next limit events rest known s e legal
      by_passed (link ∷ links) e (inl past) = nothing_passed b come closed later first next limit events rest known (inl past) (past_end b come closed later limit known past) legal
      by_passed (link ∷ links) e (inr is) = some_passed b come closed later first next limit events rest known is link links e legal

  -- One event

  -- an event of the sequence, of which the buffer knows
  taken : (b : Buffer) (event : Event) → is_known b.sequences (event_sequence event) ≡ true → after b event ≡ buffer_after b event
  taken b event known = sym (ap (λ (x : Bool). cond x (after b event) b) known)

  arrives_tells : (b : Buffer) (come : ℕ) (closed : Bool) (later : List Patch) (first : Bool) (next other chunk_id : ℕ) (chunk : Chunk) (events : List Event) → Rest events
      → IsKnown sheets q come closed later b → Stands closed come first next (sequence_in b.sequences q)
      → Legal sheets q come closed later (Arrives other chunk_id chunk ∷ events)
      → AreTold (packets_in (all_parts sheets)) first next (delivered_to q (buffer_after b (Arrives other chunk_id chunk)) events)
  arrives_tells b come closed later first next other chunk_id chunk events rest known stands legal = by_same (other == q) refl legal
    where
      own : closed ≡ false → IsComplete sheets later come chunk → Legal sheets q (suc come) closed later events
          → AreTold (packets_in (all_parts sheets)) first next (delivered_to q (buffer_after b (Arrives q come chunk)) events)
      own open_now is legal =
          let known' : IsKnown sheets q come false later b = subst (λ (c : Bool). IsKnown sheets q come c later b) open_now known in
          let inside' = stands_open come first next (sequence_in b.sequences q) (subst (λ (c : Bool). Stands c come first next (sequence_in b.sequences q)) open_now stands) in
          let came : Continues sheets q come later (suc come) false later b (with_arrival b q come chunk) =
          arrives sheets q come later b chunk known' is (λ at.
          let low = inside'.inside is.sheet (ap (slice_get sheets) at ∙ is.there) in
          let long = as_long chunk.awaits chunk.fragments is.sheet.written (completes_shows later come chunk.awaits chunk.fragments is.sheet.written is.completes) in
          omega (arith, low, long)) in
          subst (λ (c : Buffer). AreTold (packets_in (all_parts sheets)) first next (delivered_to q c events)) (taken b (Arrives q come chunk) known.known)
          (rest (with_arrival b q come chunk) (suc come) false later first next came.known
          (inr (inside_same first next (sequence_in b.sequences q) (sequence_in (with_arrival b q come chunk).sequences q) came.reader inside'))
          (subst (λ (c : Bool). Legal sheets q (suc come) c later events) open_now legal))

      by_same : (x : Bool) → (other == q) ≡ x
          → MatchBool x ((closed ≡ false) × (chunk_id ≡ come) × IsComplete sheets later come chunk × Legal sheets q (suc come) closed later events) (Legal sheets q come closed later events)
          → AreTold (packets_in (all_parts sheets)) first next (delivered_to q (buffer_after b (Arrives other chunk_id chunk)) events)
      by_same true e h =
          subst (λ (p : ℕ). AreTold (packets_in (all_parts sheets)) first next (delivered_to q (buffer_after b (Arrives p chunk_id chunk)) events)) (sym (eqb-true other q e))
          (subst (λ (i : ℕ). AreTold (packets_in (all_parts sheets)) first next (delivered_to q (buffer_after b (Arrives q i chunk)) events)) (sym h.1) (own h.0 h.2 h.3))
      by_same false e h = other_tells b come closed later first next (Arrives other chunk_id chunk) events rest known stands (eqb-false other q e) h

  part_tells : (b : Buffer) (come : ℕ) (closed : Bool) (later : List Patch) (first : Bool) (next other chunk_id : ℕ) (chunk : Chunk) (events : List Event) → Rest events
      → IsKnown sheets q come closed later b → Stands closed come first next (sequence_in b.sequences q)
      → Legal sheets q come closed later (ArrivesInPart other chunk_id chunk ∷ events)
      → AreTold (packets_in (all_parts sheets)) first next (delivered_to q (buffer_after b (ArrivesInPart other chunk_id chunk)) events)
  part_tells b come closed later first next other chunk_id chunk events rest known stands legal = by_same (other == q) refl legal
    where
      own : closed ≡ false → IsPart sheets come chunk → Legal sheets q come closed later events
          → AreTold (packets_in (all_parts sheets)) first next (delivered_to q (buffer_after b (ArrivesInPart q come chunk)) events)
      own open_now is legal =
          let known' : IsKnown sheets q come false later b = subst (λ (c : Bool). IsKnown sheets q come c later b) open_now known in
          let came : Continues sheets q come later come false later b (with_partial_arrival b q come chunk) = arrives_in_part sheets q come later b chunk known' is in
          subst (λ (c : Buffer). AreTold (packets_in (all_parts sheets)) first next (delivered_to q c events)) (taken b (ArrivesInPart q come chunk) known.known)
          (rest (with_partial_arrival b q come chunk) come false later first next came.known
          (stands_same false come first next (sequence_in b.sequences q) (sequence_in (with_partial_arrival b q come chunk).sequences q) came.reader
          (subst (λ (c : Bool). Stands c come first next (sequence_in b.sequences q)) open_now stands))
          (subst (λ (c : Bool). Legal sheets q come c later events) open_now legal))

      by_same : (x : Bool) → (other == q) ≡ x
          → MatchBool x ((closed ≡ false) × (chunk_id ≡ come) × IsPart sheets come chunk × Legal sheets q come closed later events) (Legal sheets q come closed later events)
          → AreTold (packets_in (all_parts sheets)) first next (delivered_to q (buffer_after b (ArrivesInPart other chunk_id chunk)) events)
      by_same true e h =
          subst (λ (p : ℕ). AreTold (packets_in (all_parts sheets)) first next (delivered_to q (buffer_after b (ArrivesInPart p chunk_id chunk)) events)) (sym (eqb-true other q e))
          (subst (λ (i : ℕ). AreTold (packets_in (all_parts sheets)) first next (delivered_to q (buffer_after b (ArrivesInPart q i chunk)) events)) (sym h.1) (own h.0 h.2 h.3))
      by_same false e h = other_tells b come closed later first next (ArrivesInPart other chunk_id chunk) events rest known stands (eqb-false other q e) h

  patched_tells : (b : Buffer) (come : ℕ) (closed : Bool) (later : List Patch) (first : Bool) (next other : ℕ) (patches : List Patch) (events : List Event) → Rest events
      → IsKnown sheets q come closed later b → Stands closed come first next (sequence_in b.sequences q)
      → Legal sheets q come closed later (Patched other patches ∷ events)
      → AreTold (packets_in (all_parts sheets)) first next (delivered_to q (buffer_after b (Patched other patches)) events)
  patched_tells b come closed later first next other patches events rest known stands legal = by_same (other == q) refl legal
    where
      own : (left : List Patch) → later ≡ patches ++ left → Legal sheets q come closed left events
          → AreTold (packets_in (all_parts sheets)) first next (delivered_to q (buffer_after b (Patched q patches)) events)
      own left e legal =
          let done = patches_known sheets q come closed patches left b (subst (λ (ps : List Patch). IsKnown sheets q come closed ps b) e known) in
          subst (λ (c : Buffer). AreTold (packets_in (all_parts sheets)) first next (delivered_to q c events)) (taken b (Patched q patches) known.known)
          (rest (with_patches b q patches) come closed left first next done.0
          (subst (λ (ss : List Sequence). Stands closed come first next (sequence_in ss q)) (sym done.1) stands)
          legal)

      by_same : (x : Bool) → (other == q) ≡ x
          → MatchBool x ((left : List Patch) × (later ≡ patches ++ left) × Legal sheets q come closed left events) (Legal sheets q come closed later events)
          → AreTold (packets_in (all_parts sheets)) first next (delivered_to q (buffer_after b (Patched other patches)) events)
      by_same true e h =
          subst (λ (p : ℕ). AreTold (packets_in (all_parts sheets)) first next (delivered_to q (buffer_after b (Patched p patches)) events)) (sym (eqb-true other q e)) (own h.0 h.1 h.2)
      by_same false e h = other_tells b come closed later first next (Patched other patches) events rest known stands (eqb-false other q e) h

  closed_tells : (b : Buffer) (come : ℕ) (closed : Bool) (later : List Patch) (first : Bool) (next other : ℕ) (events : List Event) → Rest events
      → IsKnown sheets q come closed later b → Stands closed come first next (sequence_in b.sequences q)
      → Legal sheets q come closed later (Closed other ∷ events)
      → AreTold (packets_in (all_parts sheets)) first next (delivered_to q (buffer_after b (Closed other)) events)
  closed_tells b come closed later first next other events rest known stands legal = by_same (other == q) refl legal
    where
      own : closed ≡ false → Legal sheets q come true later events
          → AreTold (packets_in (all_parts sheets)) first next (delivered_to q (buffer_after b (Closed q)) events)
      own open_now legal =
          let done : Continues sheets q come later come true later b (with_close b q) = closes sheets q come later b (subst (λ (c : Bool). IsKnown sheets q come c later b) open_now known) in
          let inside' = stands_open come first next (sequence_in b.sequences q) (subst (λ (c : Bool). Stands c come first next (sequence_in b.sequences q)) open_now stands) in
          subst (λ (c : Buffer). AreTold (packets_in (all_parts sheets)) first next (delivered_to q c events)) (taken b (Closed q) known.known)
          (rest (with_close b q) come true later first next done.known
          (inr (inside_same first next (sequence_in b.sequences q) (sequence_in (with_close b q).sequences q) done.reader inside'))
          legal)

      by_same : (x : Bool) → (other == q) ≡ x → MatchBool x ((closed ≡ false) × Legal sheets q come true later events) (Legal sheets q come closed later events)
          → AreTold (packets_in (all_parts sheets)) first next (delivered_to q (buffer_after b (Closed other)) events)
      by_same true e h =
          subst (λ (p : ℕ). AreTold (packets_in (all_parts sheets)) first next (delivered_to q (buffer_after b (Closed p)) events)) (sym (eqb-true other q e)) (own h.0 h.1)
      by_same false e h = other_tells b come closed later first next (Closed other) events rest known stands (eqb-false other q e) h

  reads_tell : (b : Buffer) (come : ℕ) (closed : Bool) (later : List Patch) (first : Bool) (next other limit : ℕ) (events : List Event) → Rest events
      → IsKnown sheets q come closed later b → Stands closed come first next (sequence_in b.sequences q) → Legal sheets q come closed later events
      → AreTold (packets_in (all_parts sheets)) first next (cond (other == q) (delivered_by b other limit) [] ++ delivered_to q (buffer_after b (Read other limit)) events)
  reads_tell b come closed later first next other limit events rest known stands legal = by_same (other == q) refl
    where
      by_same : (x : Bool) → (other == q) ≡ x
          → AreTold (packets_in (all_parts sheets)) first next (cond x (delivered_by b other limit) [] ++ delivered_to q (buffer_after b (Read other limit)) events)
      by_same true e =
          subst (λ (p : ℕ). AreTold (packets_in (all_parts sheets)) first next (delivered_by b p limit ++ delivered_to q (buffer_after b (Read p limit)) events)) (sym (eqb-true other q e))
          (subst (λ (c : Buffer). AreTold (packets_in (all_parts sheets)) first next (delivered_by b q limit ++ delivered_to q c events)) (taken b (Read q limit) known.known)
          (read_own b come closed later first next limit events rest known stands legal))
      by_same false e = other_tells b come closed later first next (Read other limit) events rest known stands (eqb-false other q e) legal

  history_tells : (events : List Event) → Rest events
  history_tells [] b come closed later first next known stands legal = tt
  history_tells (Arrives other chunk_id chunk ∷ events) b come closed later first next known stands legal =
      arrives_tells b come closed later first next other chunk_id chunk events (history_tells events) known stands legal
  history_tells (ArrivesInPart other chunk_id chunk ∷ events) b come closed later first next known stands legal =
      part_tells b come closed later first next other chunk_id chunk events (history_tells events) known stands legal
  history_tells (Patched other patches ∷ events) b come closed later first next known stands legal =
      patched_tells b come closed later first next other patches events (history_tells events) known stands legal
  history_tells (Committed image patches ∷ events) b come closed later first next known stands legal =
      other_tells b come closed later first next (Committed image patches) events (history_tells events) known stands (eqb-false image.sequence q legal.0) legal.1
  history_tells (Closed other ∷ events) b come closed later first next known stands legal =
      closed_tells b come closed later first next other events (history_tells events) known stands legal
  history_tells (Read other limit ∷ events) b come closed later first next known stands legal =
      reads_tell b come closed later first next other limit events (history_tells events) known stands legal

-- at the start of a history
pub fresh_known : (sheets : List Sheet) (q record_size room : ℕ) (policy : FullPolicy) (sequences : List Sequence) (later : List Patch) → is_known sequences q ≡ true
    → IsFresh q record_size (sequence_in sequences q) → IsKnown sheets q 0 false later (empty_buffer room policy sequences)
fresh_known sheets q record_size room policy sequences later known start = record {
  known = known;
  arrived = ap (λ (s : Sequence). s.arrived) start;
  shut = ap (λ (s : Sequence). s.closed) start;
  none = λ c. ap (λ (s : Sequence). s.final) start;
  final = λ i h. absurd (false≢true (sym (ap (λ (s : Sequence). is_among i s.final) start) ∙ h));
  came = λ i low. absurd (omega (arith, low));
  live = tt;
}

pub every_history_tells : EveryHistoryTells
every_history_tells sheets q record_size room policy sequences events agree known start legal =
    history_tells sheets agree q events (empty_buffer room policy sequences) 0 false (sheet_patches sheets) true 0
    (fresh_known sheets q record_size room policy sequences (sheet_patches sheets) known start)
    (inr (subst (IsInside sheets agree q true 0) (sym start) (record {
      inside = inside_first sheets false 0 agree;
      before = record {
        at = 0;
        from = ap packets_in (sym (all_at_start sheets));
        rising = omega arith;
        unmarked = λ e. absurd (false≢true (sym e));
        skipped = λ e. inl refl;
      };
    })))
    legal
