-- Over a history in order whose buffer has bytes enough, nothing of a sequence is lost; so its reads deliver all that they pass.
use Rattle.std.proofs.Common.{◌≡◌, ◌∙◌, ℕ, zero, suc, ◌+◌, ◌-◌, ◌<◌, ◌≤◌, ◌⊎◌, Bool, true, false, List, [], ◌∷◌, ◌++◌, length, drop, Some, refl, sym, ap, subst, arith, inl, inr, length-append}
use Rattle.std.specs.Prelude.{cond, ◌==◌, slice_get, MatchBool}
use Rattle.std.proofs.lemmas.Bool.{false≢true, eqb-true, eqb-false, cases_lt}
use Rattle.trace_model.specs.Images.{Chunk, Patch, complete_chunk, partial_chunk}
use Rattle.trace_model.specs.Sequences.{Sequence, Cursor, is_among, sequence_in, is_known}
use Rattle.trace_model.specs.Buffers.{Buffer}
use Rattle.trace_model.specs.Arrivals.{Arrived, placing_of, arrival_of, partial_arrival_of, settled, with_arrival, with_partial_arrival}
use Rattle.trace_model.specs.Patches.{with_patches, closed_buffer, with_close}
use Rattle.trace_model.specs.Sent.{chunks_of}
use Rattle.trace_model.specs.Row.{Link, row_from_cursor, slots_of, horizon}
use Rattle.trace_model.specs.Reads.{passed_by, left_by, is_marked, delivered_by, delivered_of, sequence_after, with_read}
use Rattle.trace_model.specs.History.{Event, Arrives, ArrivesInPart, Patched, Committed, Closed, Read, event_sequence, after, buffer_after, delivered_to}
use Rattle.delivery_laws.specs.Sheets.{Sheet, Part, SheetsAgree, all_parts, packets_in, sheet_patches}
use Rattle.delivery_laws.specs.Histories.{IsComplete, IsPart}
use Rattle.delivery_laws.specs.Orders.{InOrder}
use Rattle.delivery_laws.specs.Room.{asks_for, asks, asked}
use Rattle.delivery_laws.specs.Finishing.{Finishes}
use Rattle.delivery_laws.proofs.Walks.{Follows, parts_at, Inside, StandsAt}
use Rattle.delivery_laws.proofs.AdjacentLemmas.{begin_of, Adjacent, row_adjacent, reader_after, cursor_is}
use Rattle.delivery_laws.proofs.KnownLemmas.{IsGood, EachOf, IsKnown, completes_shows, known_some}
use Rattle.delivery_laws.proofs.KeepLemmas.{Keeps, keeps_event, SameReader, reader_kept, known_kept}
use Rattle.delivery_laws.proofs.EventLemmas.{Continues, arrives, arrival_is}
use Rattle.delivery_laws.proofs.OwnEvents.{arrives_in_part, patches_known, closes, read_now, read_known}
use Rattle.delivery_laws.proofs.HistoryLemmas.{walk_stands, as_long}
use Rattle.delivery_laws.proofs.CompleteLemmas.{EachCompletes, lasts_behind}
use Rattle.delivery_laws.proofs.OrderLemmas.{patches_next}
use Rattle.delivery_laws.proofs.RoomLemmas.{has_record, Grows, event_grows}
use Rattle.delivery_laws.proofs.AcceptedParts.{AreAccepted}
use Rattle.delivery_laws.proofs.CleanRows.{IsCleanRead}
use Rattle.delivery_laws.proofs.CalmLemmas.{AreWhole, Waits, Calm, Nowhere, stands_past, calm_read}
use Rattle.delivery_laws.proofs.WaitLemmas.{settled_each, patches_wait, arrival_has}

-- the bytes that an event asks for, and those that the others do
event_fits : (b : Buffer) (event : Event) (events : List Event) → b.next + asked b (event ∷ events) ≤ b.room
    → b.next + cond (is_known b.sequences (event_sequence event)) (asks b event) 0 ≤ b.room
event_fits b event events low = omega (arith, low)

rest_fits : (b : Buffer) (event : Event) (events : List Event) → b.next + asked b (event ∷ events) ≤ b.room
    → Grows b (buffer_after b event) (cond (is_known b.sequences (event_sequence event)) (asks b event) 0)
    → (buffer_after b event).next + asked (buffer_after b event) events ≤ (buffer_after b event).room
rest_fits b event events low grows = let next = grows.next in let room = grows.room in omega (arith, low, next, room)

pub taken : (b : Buffer) (event : Event) → is_known b.sequences (event_sequence event) ≡ true → after b event ≡ buffer_after b event
taken b event known = sym (ap (λ (x : Bool). cond x (after b event) b) known)

module _ (sheets : List Sheet) (agree : SheetsAgree false sheets) (completes : EachCompletes sheets) (whole : AreWhole sheets) (accepted : AreAccepted (all_parts sheets)) (q packets : ℕ) where
  -- how many packets begin behind the cursor
  abbrev ahead : Sequence → ℕ
  ahead s = length (packets_in (parts_at sheets s.cursor.chunk_id s.cursor.passed))

  abbrev IsCalm : ℕ → Bool → List Patch → Buffer → Type 0
  IsCalm come closed due b = Calm sheets q come closed (due ++ sheet_patches (drop come sheets)) b

  -- whatever is known then, all that is ahead is delivered
  abbrev Rest : List Event → Type 0
  Rest events = (b : Buffer) (come : ℕ) (closed : Bool) (due : List Patch) → IsCalm come closed due b → b.next + asked b events ≤ b.room → ahead (sequence_in b.sequences q) ≤ packets
      → InOrder sheets q come closed due events → Finishes q (length sheets) packets come closed events
      → ahead (sequence_in b.sequences q) ≤ length (delivered_to q b events)

  -- an event that moves no cursor
  same_ahead : (b c : Buffer) (come : ℕ) (closed : Bool) (due : List Patch) (events : List Event) → Rest events → SameReader (sequence_in b.sequences q) (sequence_in c.sequences q)
      → IsCalm come closed due c → c.next + asked c events ≤ c.room → ahead (sequence_in b.sequences q) ≤ packets
      → InOrder sheets q come closed due events → Finishes q (length sheets) packets come closed events
      → ahead (sequence_in b.sequences q) ≤ length (delivered_to q c events)
  same_ahead b c come closed due events rest reader calm fits few order finishes =
      subst (λ (k : Cursor). length (packets_in (parts_at sheets k.chunk_id k.passed)) ≤ length (delivered_to q c events)) reader.cursor
      (rest c come closed due calm fits
      (subst (λ (k : Cursor). length (packets_in (parts_at sheets k.chunk_id k.passed)) ≤ packets) (sym reader.cursor) few)
      order finishes)

  none_due : (come : ℕ) (closed : Bool) (due : List Patch) (b : Buffer) → due ≡ [] → IsCalm come closed due b → IsCalm come closed [] b
  none_due come closed due b e calm = subst (λ (ps : List Patch). IsCalm come closed ps b) e calm

  inside_kept : (come : ℕ) (closed : Bool) (later : List Patch) (b c : Buffer) → Calm sheets q come closed later b → SameReader (sequence_in b.sequences q) (sequence_in c.sequences q)
      → Inside sheets (sequence_in c.sequences q).cursor.chunk_id (sequence_in c.sequences q).cursor.passed
      × Follows true (parts_at sheets (sequence_in c.sequences q).cursor.chunk_id (sequence_in c.sequences q).cursor.passed)
  inside_kept come closed later b c calm reader = (
    subst (λ (k : Cursor). Inside sheets k.chunk_id k.passed) (sym reader.cursor) calm.inside,
    subst (λ (k : Cursor). Follows true (parts_at sheets k.chunk_id k.passed)) (sym reader.cursor) calm.follows,
  )

  -- events of other sequences
  other_calm : (b : Buffer) (come : ℕ) (closed : Bool) (later : List Patch) (event : Event) → Calm sheets q come closed later b → (event_sequence event ≡ q → ⊥)
      → Grows b (buffer_after b event) (cond (is_known b.sequences (event_sequence event)) (asks b event) 0)
      → Calm sheets q come closed later (buffer_after b event) × SameReader (sequence_in b.sequences q) (sequence_in (buffer_after b event).sequences q)
  other_calm b come closed later event calm other grows =
      let keeps : Keeps q (IsGood sheets come later) b (buffer_after b event) = keeps_event q (IsGood sheets come later) b event other in
      let waits : Keeps q (Waits later) b (buffer_after b event) = keeps_event q (Waits later) b event other in
      let reader = reader_kept (sequence_in b.sequences q) (sequence_in (buffer_after b event).sequences q) (keeps.same calm.known.known) in
      let inside = inside_kept come closed later b (buffer_after b event) calm reader in (
        record {
          known = known_kept sheets q come closed later b (buffer_after b event) calm.known keeps;
          roomy = grows.roomy;
          all = λ i low. grows.stays q i (calm.all i low);
          waits = waits.live calm.waits;
          lasts = calm.lasts;
          inside = inside.0;
          follows = inside.1;
          over = calm.over;
        },
        reader,
      )

  other_all : (b : Buffer) (come : ℕ) (closed : Bool) (due : List Patch) (event : Event) (events : List Event) → Rest events → IsCalm come closed due b
      → b.next + asked b (event ∷ events) ≤ b.room → ahead (sequence_in b.sequences q) ≤ packets → (event_sequence event ≡ q → ⊥)
      → InOrder sheets q come closed due events → Finishes q (length sheets) packets come closed events
      → ahead (sequence_in b.sequences q) ≤ length (delivered_to q (buffer_after b event) events)
  other_all b come closed due event events rest calm fits few other order finishes =
      let grows = event_grows b event calm.roomy (event_fits b event events fits) in
      let next = other_calm b come closed (due ++ sheet_patches (drop come sheets)) event calm other grows in
      same_ahead b (buffer_after b event) come closed due events rest next.1 next.0 (rest_fits b event events fits grows) few order finishes

  -- the next chunk
  come_calm : (b : Buffer) (come : ℕ) (sheet : Sheet) → IsCalm come false [] b → slice_get sheets come ≡ Some sheet
      → Grows b (buffer_after b (Arrives q come sheet.chunk)) (cond (is_known b.sequences q) (asks b (Arrives q come sheet.chunk)) 0)
      → b.next + cond (is_known b.sequences q) (asks b (Arrives q come sheet.chunk)) 0 ≤ b.room
      → IsCalm (suc come) false sheet.patches (buffer_after b (Arrives q come sheet.chunk))
      × SameReader (sequence_in b.sequences q) (sequence_in (buffer_after b (Arrives q come sheet.chunk)).sequences q)
  come_calm b come sheet calm get grows fits =
      let is = completes come sheet get in
      let complete : IsComplete sheets (sheet_patches (drop come sheets)) come sheet.chunk =
      record { sheet = sheet; there = get; same = refl; completes = is.completes; some = is.some } in
      let came : Continues sheets q come (sheet_patches (drop come sheets)) (suc come) false (sheet_patches (drop come sheets)) b (with_arrival b q come sheet.chunk) =
      arrives sheets q come (sheet_patches (drop come sheets)) b sheet.chunk calm.known complete (λ at.
      let low = calm.inside sheet (ap (slice_get sheets) at ∙ get) in
      let long = as_long sheet.chunk.awaits sheet.chunk.fragments sheet.written (completes_shows (sheet_patches (drop come sheets)) come sheet.chunk.awaits sheet.chunk.fragments sheet.written is.completes) in
      omega (arith, low, long)) in
      let now : with_arrival b q come sheet.chunk ≡ buffer_after b (Arrives q come sheet.chunk) = taken b (Arrives q come sheet.chunk) calm.known.known in
      let reader = subst (λ (c : Buffer). SameReader (sequence_in b.sequences q) (sequence_in c.sequences q)) now came.reader in
      let inside = inside_kept come false (sheet_patches (drop come sheets)) b (buffer_after b (Arrives q come sheet.chunk)) calm reader in
      let next = patches_next sheets come sheet get in (
        subst (λ (ps : List Patch). Calm sheets q (suc come) false ps (buffer_after b (Arrives q come sheet.chunk))) next
            (record {
              known = subst (IsKnown sheets q (suc come) false (sheet_patches (drop come sheets))) now came.known;
              roomy = grows.roomy;
              all = λ i low. by_place i low (cases_lt i come);
              waits = subst (λ (c : Buffer). EachOf q (Waits (sheet_patches (drop come sheets))) c.live) now
                  (settled_each q (Waits (sheet_patches (drop come sheets))) b come (complete_chunk sheet.chunk) calm.waits
                  (λ r at e a. ap (λ (n : ℕ). is_among n (chunks_of (sheet_patches (drop come sheets)))) at ∙ whole.sent come sheet get (sym (ap (λ (c : Chunk). c.awaits) e) ∙ a))
                  (arrival_of b q come));
              lasts = calm.lasts;
              inside = inside.0;
              follows = inside.1;
              over = λ c. absurd (false≢true c);
            }),
        reader,
      )
    where
      has : has_record q come (buffer_after b (Arrives q come sheet.chunk)).live ≡ true
      has =
          let placing = arrival_is sheets q come (sheet_patches (drop come sheets)) b calm.known in
          let now : with_arrival b q come sheet.chunk ≡ buffer_after b (Arrives q come sheet.chunk) = taken b (Arrives q come sheet.chunk) calm.known.known in
          let asks_now : cond (is_known b.sequences q) (asks b (Arrives q come sheet.chunk)) 0 ≡ asks_for (placing_of b q come) (sequence_in b.sequences q).size =
          ap (λ (x : Bool). cond x (asks b (Arrives q come sheet.chunk)) 0) calm.known.known ∙ ap (λ (o : Arrived). asks_for o (sequence_in b.sequences q).size) placing in
          let placed : has_record q come (settled (placing_of b q come) b q come (complete_chunk sheet.chunk)).live ≡ true =
          arrival_has q come b (complete_chunk sheet.chunk) calm.roomy (omega (arith, fits, asks_now))
          (λ h. ap (λ (o : Arrived). has_record q come (settled o b q come (complete_chunk sheet.chunk)).live) (sym placing)
          ∙ ap (λ (c : Buffer). has_record q come c.live) now ∙ grows.stays q come h) in
          sym (ap (λ (c : Buffer). has_record q come c.live) now) ∙ ap (λ (o : Arrived). has_record q come (settled o b q come (complete_chunk sheet.chunk)).live) placing ∙ placed

      by_place : (i : ℕ) → i < suc come → ((i < come) ⊎ (come ≤ i)) → has_record q i (buffer_after b (Arrives q come sheet.chunk)).live ≡ true
      by_place i low (inl h) = grows.stays q i (calm.all i h)
      by_place i low (inr h) =
          let same : come ≡ i = omega (arith, low, h) in
          subst (λ (n : ℕ). has_record q n (buffer_after b (Arrives q come sheet.chunk)).live ≡ true) same has

  arrives_all : (b : Buffer) (come : ℕ) (closed : Bool) (due : List Patch) (other chunk_id : ℕ) (chunk : Chunk) (events : List Event) → Rest events → IsCalm come closed due b
      → b.next + asked b (Arrives other chunk_id chunk ∷ events) ≤ b.room → ahead (sequence_in b.sequences q) ≤ packets
      → InOrder sheets q come closed due (Arrives other chunk_id chunk ∷ events) → Finishes q (length sheets) packets come closed (Arrives other chunk_id chunk ∷ events)
      → ahead (sequence_in b.sequences q) ≤ length (delivered_to q (buffer_after b (Arrives other chunk_id chunk)) events)
  arrives_all b come closed due other chunk_id chunk events rest calm fits few order finishes = by_same (other == q) refl order.1 finishes
    where
      calm' : IsCalm come closed [] b
      calm' = none_due come closed due b order.0 calm

      own : (sheet : Sheet) → slice_get sheets come ≡ Some sheet → b.next + asked b (Arrives q come sheet.chunk ∷ events) ≤ b.room → IsCalm come false [] b
          → InOrder sheets q (suc come) false sheet.patches events → Finishes q (length sheets) packets (suc come) false events
          → ahead (sequence_in b.sequences q) ≤ length (delivered_to q (buffer_after b (Arrives q come sheet.chunk)) events)
      own sheet get fits calm o f =
          let low = event_fits b (Arrives q come sheet.chunk) events fits in
          let grows = event_grows b (Arrives q come sheet.chunk) calm.roomy low in
          let next = come_calm b come sheet calm get grows low in
          same_ahead b (buffer_after b (Arrives q come sheet.chunk)) (suc come) false sheet.patches events rest next.1 next.0 (rest_fits b (Arrives q come sheet.chunk) events fits grows) few o f

      by_same : (x : Bool) → (other == q) ≡ x
          → MatchBool x ((closed ≡ false) × (chunk_id ≡ come) × (sheet : Sheet) × (slice_get sheets come ≡ Some sheet) × (chunk ≡ sheet.chunk)
          × InOrder sheets q (suc come) closed sheet.patches events) (InOrder sheets q come closed [] events)
          → Finishes q (length sheets) packets (cond x (suc come) come) closed events
          → ahead (sequence_in b.sequences q) ≤ length (delivered_to q (buffer_after b (Arrives other chunk_id chunk)) events)
      by_same true e h f =
          let event : Arrives other chunk_id chunk ≡ Arrives q come h.2.chunk =
          ap (λ (p : ℕ). Arrives p chunk_id chunk) (eqb-true other q e) ∙ ap (λ (i : ℕ). Arrives q i chunk) h.1 ∙ ap (λ (c : Chunk). Arrives q come c) h.4 in
          subst (λ (ev : Event). ahead (sequence_in b.sequences q) ≤ length (delivered_to q (buffer_after b ev) events)) (sym event)
          (own h.2 h.3 (subst (λ (ev : Event). b.next + asked b (ev ∷ events) ≤ b.room) event fits)
          (subst (λ (c : Bool). IsCalm come c [] b) h.0 calm')
          (subst (λ (c : Bool). InOrder sheets q (suc come) c h.2.patches events) h.0 h.5)
          (subst (λ (c : Bool). Finishes q (length sheets) packets (suc come) c events) h.0 f))
      by_same false e h f = other_all b come closed [] (Arrives other chunk_id chunk) events rest calm' fits few (eqb-false other q e) h f

  part_all : (b : Buffer) (come : ℕ) (closed : Bool) (due : List Patch) (other chunk_id : ℕ) (chunk : Chunk) (events : List Event) → Rest events → IsCalm come closed due b
      → b.next + asked b (ArrivesInPart other chunk_id chunk ∷ events) ≤ b.room → ahead (sequence_in b.sequences q) ≤ packets
      → InOrder sheets q come closed due (ArrivesInPart other chunk_id chunk ∷ events) → Finishes q (length sheets) packets come closed events
      → ahead (sequence_in b.sequences q) ≤ length (delivered_to q (buffer_after b (ArrivesInPart other chunk_id chunk)) events)
  part_all b come closed due other chunk_id chunk events rest calm fits few order finishes = by_same (other == q) refl order.1
    where
      calm' : IsCalm come closed [] b
      calm' = none_due come closed due b order.0 calm

      own : IsPart sheets come chunk → b.next + asked b (ArrivesInPart q come chunk ∷ events) ≤ b.room → IsCalm come false [] b
          → InOrder sheets q come false [] events → Finishes q (length sheets) packets come false events
          → ahead (sequence_in b.sequences q) ≤ length (delivered_to q (buffer_after b (ArrivesInPart q come chunk)) events)
      own is fits calm o f =
          let grows = event_grows b (ArrivesInPart q come chunk) calm.roomy (event_fits b (ArrivesInPart q come chunk) events fits) in
          let came : Continues sheets q come (sheet_patches (drop come sheets)) come false (sheet_patches (drop come sheets)) b (with_partial_arrival b q come chunk) =
          arrives_in_part sheets q come (sheet_patches (drop come sheets)) b chunk calm.known is in
          let now : with_partial_arrival b q come chunk ≡ buffer_after b (ArrivesInPart q come chunk) = taken b (ArrivesInPart q come chunk) calm.known.known in
          let reader = subst (λ (c : Buffer). SameReader (sequence_in b.sequences q) (sequence_in c.sequences q)) now came.reader in
          let inside = inside_kept come false (sheet_patches (drop come sheets)) b (buffer_after b (ArrivesInPart q come chunk)) calm reader in
          same_ahead b (buffer_after b (ArrivesInPart q come chunk)) come false [] events rest reader
          (record {
            known = subst (IsKnown sheets q come false (sheet_patches (drop come sheets))) now came.known;
            roomy = grows.roomy;
            all = λ i low. grows.stays q i (calm.all i low);
            waits = subst (λ (c : Buffer). EachOf q (Waits (sheet_patches (drop come sheets))) c.live) now
                (settled_each q (Waits (sheet_patches (drop come sheets))) b come (partial_chunk chunk) calm.waits
                (λ r at e a. absurd (false≢true (sym (ap (λ (c : Chunk). c.awaits) e) ∙ a)))
                (partial_arrival_of b q come (length chunk.fragments)));
            lasts = calm.lasts;
            inside = inside.0;
            follows = inside.1;
            over = calm.over;
          })
          (rest_fits b (ArrivesInPart q come chunk) events fits grows) few o f

      by_same : (x : Bool) → (other == q) ≡ x
          → MatchBool x ((closed ≡ false) × (chunk_id ≡ come) × IsPart sheets come chunk × InOrder sheets q come closed [] events) (InOrder sheets q come closed [] events)
          → ahead (sequence_in b.sequences q) ≤ length (delivered_to q (buffer_after b (ArrivesInPart other chunk_id chunk)) events)
      by_same true e h =
          let event : ArrivesInPart other chunk_id chunk ≡ ArrivesInPart q come chunk =
          ap (λ (p : ℕ). ArrivesInPart p chunk_id chunk) (eqb-true other q e) ∙ ap (λ (i : ℕ). ArrivesInPart q i chunk) h.1 in
          subst (λ (ev : Event). ahead (sequence_in b.sequences q) ≤ length (delivered_to q (buffer_after b ev) events)) (sym event)
          (own h.2 (subst (λ (ev : Event). b.next + asked b (ev ∷ events) ≤ b.room) event fits)
          (subst (λ (c : Bool). IsCalm come c [] b) h.0 calm')
          (subst (λ (c : Bool). InOrder sheets q come c [] events) h.0 h.3)
          (subst (λ (c : Bool). Finishes q (length sheets) packets come c events) h.0 finishes))
      by_same false e h = other_all b come closed [] (ArrivesInPart other chunk_id chunk) events rest calm' fits few (eqb-false other q e) h finishes

  patched_all : (b : Buffer) (come : ℕ) (closed : Bool) (due : List Patch) (other : ℕ) (patches : List Patch) (events : List Event) → Rest events → IsCalm come closed due b
      → b.next + asked b (Patched other patches ∷ events) ≤ b.room → ahead (sequence_in b.sequences q) ≤ packets
      → InOrder sheets q come closed due (Patched other patches ∷ events) → Finishes q (length sheets) packets come closed events
      → ahead (sequence_in b.sequences q) ≤ length (delivered_to q (buffer_after b (Patched other patches)) events)
  patched_all b come closed due other patches events rest calm fits few order finishes = by_same (other == q) refl order
    where
      own : b.next + asked b (Patched q due ∷ events) ≤ b.room → InOrder sheets q come closed [] events
          → ahead (sequence_in b.sequences q) ≤ length (delivered_to q (buffer_after b (Patched q due)) events)
      own fits o =
          let grows = event_grows b (Patched q due) calm.roomy (event_fits b (Patched q due) events fits) in
          let done = patches_known sheets q come closed due (sheet_patches (drop come sheets)) b calm.known in
          let now : with_patches b q due ≡ buffer_after b (Patched q due) = taken b (Patched q due) calm.known.known in
          let reader : SameReader (sequence_in b.sequences q) (sequence_in (buffer_after b (Patched q due)).sequences q) =
          subst (λ (c : Buffer). SameReader (sequence_in b.sequences q) (sequence_in c.sequences q)) now
          (subst (λ (ss : List Sequence). SameReader (sequence_in b.sequences q) (sequence_in ss q)) (sym done.1) (record { cursor = refl; missing = refl; delivered = refl })) in
          let inside = inside_kept come closed (due ++ sheet_patches (drop come sheets)) b (buffer_after b (Patched q due)) calm reader in
          same_ahead b (buffer_after b (Patched q due)) come closed [] events rest reader
          (record {
            known = subst (IsKnown sheets q come closed (sheet_patches (drop come sheets))) now done.0;
            roomy = grows.roomy;
            all = λ i low. grows.stays q i (calm.all i low);
            waits = subst (λ (c : Buffer). EachOf q (Waits (sheet_patches (drop come sheets))) c.live) now
                (patches_wait sheets q come closed due (sheet_patches (drop come sheets)) (sheet_patches (drop come sheets)) b calm.known calm.lasts calm.waits);
            lasts = lasts_behind [] due (sheet_patches (drop come sheets)) calm.lasts;
            inside = inside.0;
            follows = inside.1;
            over = λ c. let end = calm.over c in (end.0, none_left due (sheet_patches (drop come sheets)) end.1);
          })
          (rest_fits b (Patched q due) events fits grows) few o finishes
        where
          none_left : (xs ys : List Patch) → xs ++ ys ≡ [] → ys ≡ []
          none_left [] ys e = e
          none_left (x ∷ xs) ys e = absurd (cc)

      by_same : (x : Bool) → (other == q) ≡ x → MatchBool x ((patches ≡ due) × InOrder sheets q come closed [] events) ((due ≡ []) × InOrder sheets q come closed [] events)
          → ahead (sequence_in b.sequences q) ≤ length (delivered_to q (buffer_after b (Patched other patches)) events)
      by_same true e h =
          let event : Patched other patches ≡ Patched q due = ap (λ (p : ℕ). Patched p patches) (eqb-true other q e) ∙ ap (λ (ps : List Patch). Patched q ps) h.0 in
          subst (λ (ev : Event). ahead (sequence_in b.sequences q) ≤ length (delivered_to q (buffer_after b ev) events)) (sym event)
          (own (subst (λ (ev : Event). b.next + asked b (ev ∷ events) ≤ b.room) event fits) h.1)
      by_same false e h = other_all b come closed [] (Patched other patches) events rest (none_due come closed due b h.0 calm) fits few (eqb-false other q e) h.1 finishes

  closed_all : (b : Buffer) (come : ℕ) (closed : Bool) (due : List Patch) (other : ℕ) (events : List Event) → Rest events → IsCalm come closed due b
      → b.next + asked b (Closed other ∷ events) ≤ b.room → ahead (sequence_in b.sequences q) ≤ packets
      → InOrder sheets q come closed due (Closed other ∷ events) → Finishes q (length sheets) packets come closed (Closed other ∷ events)
      → ahead (sequence_in b.sequences q) ≤ length (delivered_to q (buffer_after b (Closed other)) events)
  closed_all b come closed due other events rest calm fits few order finishes = by_same (other == q) refl order.1 finishes
    where
      calm' : IsCalm come closed [] b
      calm' = none_due come closed due b order.0 calm

      none_after : (xs : List Sheet) (n : ℕ) → n ≡ length xs → sheet_patches (drop n xs) ≡ []
      none_after [] zero e = refl
      none_after [] (suc n) e = refl
      none_after (x ∷ xs) zero e = absurd (omega (arith, e))
      none_after (x ∷ xs) (suc n) e = none_after xs n (omega (arith, e))

      own : b.next + asked b (Closed q ∷ events) ≤ b.room → IsCalm come false [] b → come ≡ length sheets → InOrder sheets q come true [] events → Finishes q (length sheets) packets come true events
          → ahead (sequence_in b.sequences q) ≤ length (delivered_to q (buffer_after b (Closed q)) events)
      own fits calm end o f =
          let grows = event_grows b (Closed q) calm.roomy (event_fits b (Closed q) events fits) in
          let done : Continues sheets q come (sheet_patches (drop come sheets)) come true (sheet_patches (drop come sheets)) b (with_close b q) =
          closes sheets q come (sheet_patches (drop come sheets)) b calm.known in
          let now : with_close b q ≡ buffer_after b (Closed q) = taken b (Closed q) calm.known.known in
          let reader = subst (λ (c : Buffer). SameReader (sequence_in b.sequences q) (sequence_in c.sequences q)) now done.reader in
          let inside = inside_kept come false (sheet_patches (drop come sheets)) b (buffer_after b (Closed q)) calm reader in
          same_ahead b (buffer_after b (Closed q)) come true [] events rest reader
          (record {
            known = subst (IsKnown sheets q come true (sheet_patches (drop come sheets))) now done.known;
            roomy = grows.roomy;
            all = λ i low. grows.stays q i (calm.all i low);
            waits = subst (λ (c : Buffer). EachOf q (Waits (sheet_patches (drop come sheets))) c.live) now
                (same_live (sequence_in b.sequences q).closed calm.waits);
            lasts = calm.lasts;
            inside = inside.0;
            follows = inside.1;
            over = λ c. (end, none_after sheets come end);
          })
          (rest_fits b (Closed q) events fits grows) few o f
        where
          same_live : (x : Bool) → EachOf q (Waits (sheet_patches (drop come sheets))) b.live → EachOf q (Waits (sheet_patches (drop come sheets))) (cond x b (closed_buffer b q)).live
          same_live true h = h
          same_live false h = h

      by_same : (x : Bool) → (other == q) ≡ x → MatchBool x ((closed ≡ false) × InOrder sheets q come true [] events) (InOrder sheets q come closed [] events)
          → MatchBool x ((come ≡ length sheets) × Finishes q (length sheets) packets come true events) (Finishes q (length sheets) packets come closed events)
          → ahead (sequence_in b.sequences q) ≤ length (delivered_to q (buffer_after b (Closed other)) events)
      by_same true e h f =
          let event : Closed other ≡ Closed q = ap (λ (p : ℕ). Closed p) (eqb-true other q e) in
          subst (λ (ev : Event). ahead (sequence_in b.sequences q) ≤ length (delivered_to q (buffer_after b ev) events)) (sym event)
          (own (subst (λ (ev : Event). b.next + asked b (ev ∷ events) ≤ b.room) event fits) (subst (λ (c : Bool). IsCalm come c [] b) h.0 calm') f.0 h.1 f.1)
      by_same false e h f = other_all b come closed [] (Closed other) events rest calm' fits few (eqb-false other q e) h f

  -- A read

  record IsReadBy (b : Buffer) (limit : ℕ) : Type 0 where
    inside : Inside sheets (sequence_in (with_read b q limit).sequences q).cursor.chunk_id (sequence_in (with_read b q limit).sequences q).cursor.passed
    follows : Follows true (parts_at sheets (sequence_in (with_read b q limit).sequences q).cursor.chunk_id (sequence_in (with_read b q limit).sequences q).cursor.passed)
    count : length (delivered_by b q limit) + ahead (sequence_in (with_read b q limit).sequences q) ≡ ahead (sequence_in b.sequences q)
    all : (sequence_in b.sequences q).closed ≡ true → ahead (sequence_in b.sequences q) ≤ limit → ahead (sequence_in b.sequences q) ≤ length (delivered_by b q limit)

  read_by : (b : Buffer) (come : ℕ) (closed : Bool) (later : List Patch) (limit : ℕ) → Calm sheets q come closed later b → IsReadBy b limit
  read_by b come closed later limit calm = by_passed (passed_by limit (row_from_cursor b (sequence_in b.sequences q))) refl
    where
      now : sequence_in (with_read b q limit).sequences q ≡ sequence_after (passed_by limit (row_from_cursor b (sequence_in b.sequences q))) (sequence_in b.sequences q)
      now = read_now q limit b calm.known.known

      read : IsCleanRead (StandsAt sheets) Nowhere (length sheets) (sequence_in b.sequences q).closed (stands_past sheets whole q come closed later b calm) limit (is_marked (sequence_in b.sequences q))
          (passed_by limit (row_from_cursor b (sequence_in b.sequences q))) (left_by limit (row_from_cursor b (sequence_in b.sequences q)))
          (parts_at sheets (sequence_in b.sequences q).cursor.chunk_id (sequence_in b.sequences q).cursor.passed)
      read = calm_read sheets whole q come closed later b calm agree accepted limit

      adjacent : Adjacent (row_from_cursor b (sequence_in b.sequences q))
      adjacent = row_adjacent (sequence_in b.sequences q).closed
          (slots_of b (sequence_in b.sequences q) (sequence_in b.sequences q).cursor.chunk_id (horizon (sequence_in b.sequences q) - (sequence_in b.sequences q).cursor.chunk_id))
          (sequence_in b.sequences q).cursor.chunk_id (sequence_in b.sequences q).cursor.passed
          (known_some sheets q come closed later b calm.known (horizon (sequence_in b.sequences q) - (sequence_in b.sequences q).cursor.chunk_id) (sequence_in b.sequences q).cursor.chunk_id)

      by_passed : (ls : List Link) → passed_by limit (row_from_cursor b (sequence_in b.sequences q)) ≡ ls → IsReadBy b limit
      by_passed [] e =
          let cursor : (sequence_in (with_read b q limit).sequences q).cursor ≡ (sequence_in b.sequences q).cursor =
          ap (λ (x : Sequence). x.cursor) (now ∙ ap (λ (ls : List Link). sequence_after ls (sequence_in b.sequences q)) e) in
          let none : length (delivered_by b q limit) ≡ 0 = ap (λ (ls : List Link). length (delivered_of (is_marked (sequence_in b.sequences q)) ls)) e in
          let same : ahead (sequence_in (with_read b q limit).sequences q) ≡ ahead (sequence_in b.sequences q) =
          ap (λ (k : Cursor). length (packets_in (parts_at sheets k.chunk_id k.passed))) cursor in
          record {
            inside = subst (λ (k : Cursor). Inside sheets k.chunk_id k.passed) (sym cursor) calm.inside;
            follows = subst (λ (k : Cursor). Follows true (parts_at sheets k.chunk_id k.passed)) (sym cursor) calm.follows;
            count = omega (arith, none, same);
            all = read.all;
          }
      by_passed (link ∷ links) e =
          let cursor : (sequence_in (with_read b q limit).sequences q).cursor ≡ begin_of (left_by limit (row_from_cursor b (sequence_in b.sequences q))) =
          ap (λ (x : Sequence). x.cursor) now
          ∙ cursor_is limit (row_from_cursor b (sequence_in b.sequences q)) (sequence_in b.sequences q).cursor adjacent
          ∙ ap (λ (ls : List Link). reader_after (sequence_in b.sequences q).cursor ls (left_by limit (row_from_cursor b (sequence_in b.sequences q)))) e in
          stands cursor (walk_stands (StandsAt sheets) Nowhere (left_by limit (row_from_cursor b (sequence_in b.sequences q))) read.behind read.walks)
        where
          stands : (sequence_in (with_read b q limit).sequences q).cursor ≡ begin_of (left_by limit (row_from_cursor b (sequence_in b.sequences q)))
              → (StandsAt sheets (begin_of (left_by limit (row_from_cursor b (sequence_in b.sequences q)))).chunk_id (begin_of (left_by limit (row_from_cursor b (sequence_in b.sequences q)))).passed read.behind ⊎ ⊥)
              → IsReadBy b limit
          stands cursor (inr none) = absurd none
          stands cursor (inl at) =
              let same : parts_at sheets (sequence_in (with_read b q limit).sequences q).cursor.chunk_id (sequence_in (with_read b q limit).sequences q).cursor.passed ≡ read.behind =
              ap (λ (k : Cursor). parts_at sheets k.chunk_id k.passed) cursor ∙ at.0 in
              let left : ahead (sequence_in (with_read b q limit).sequences q) ≡ length (packets_in read.behind) = ap (λ (ps : List Part). length (packets_in ps)) same in
              let count = read.count in
              record {
                inside = subst (λ (k : Cursor). Inside sheets k.chunk_id k.passed) (sym cursor) at.1;
                follows = subst (Follows true) (sym same) read.follows;
                count = ap (λ (n : ℕ). length (delivered_by b q limit) + n) left ∙ count;
                all = read.all;
              }

  read_all : (b : Buffer) (come : ℕ) (closed : Bool) (due : List Patch) (other limit : ℕ) (events : List Event) → Rest events → IsCalm come closed due b
      → b.next + asked b (Read other limit ∷ events) ≤ b.room → ahead (sequence_in b.sequences q) ≤ packets
      → InOrder sheets q come closed due (Read other limit ∷ events) → Finishes q (length sheets) packets come closed (Read other limit ∷ events)
      → ahead (sequence_in b.sequences q) ≤ length (cond (other == q) (delivered_by b other limit) [] ++ delivered_to q (buffer_after b (Read other limit)) events)
  read_all b come closed due other limit events rest calm fits few order finishes = by_same (other == q) refl finishes
    where
      calm' : IsCalm come closed [] b
      calm' = none_due come closed due b order.0 calm

      own : b.next + asked b (Read q limit ∷ events) ≤ b.room
          → (((closed ≡ true) × (packets ≤ limit)) ⊎ Finishes q (length sheets) packets come closed events)
          → ahead (sequence_in b.sequences q) ≤ length (delivered_by b q limit ++ delivered_to q (with_read b q limit) events)
      own fits (inl last) =
          let is = read_by b come closed (sheet_patches (drop come sheets)) limit calm' in
          let all = is.all (calm'.known.shut ∙ last.0) (omega (arith, few, last.1)) in
          let long = length-append (delivered_by b q limit) (delivered_to q (with_read b q limit) events) in
          omega (arith, all, long)
      own fits (inr f) =
          let is = read_by b come closed (sheet_patches (drop come sheets)) limit calm' in
          let grows = event_grows b (Read q limit) calm'.roomy (event_fits b (Read q limit) events fits) in
          let now : with_read b q limit ≡ buffer_after b (Read q limit) = taken b (Read q limit) calm'.known.known in
          let count = is.count in
          let long = length-append (delivered_by b q limit) (delivered_to q (with_read b q limit) events) in
          let others = rest (with_read b q limit) come closed []
          (record {
            known = read_known sheets q come closed (sheet_patches (drop come sheets)) limit b calm'.known;
            roomy = record { below = calm'.roomy.below; unshut = calm'.roomy.unshut };
            all = calm'.all;
            waits = calm'.waits;
            lasts = calm'.lasts;
            inside = is.inside;
            follows = is.follows;
            over = calm'.over;
          })
          (subst (λ (c : Buffer). c.next + asked c events ≤ c.room) (sym now) (rest_fits b (Read q limit) events fits grows))
          (omega (arith, few, count)) order.1 f in
          omega (arith, others, count, long)

      by_same : (x : Bool) → (other == q) ≡ x
          → (((other ≡ q) × (closed ≡ true) × (packets ≤ limit)) ⊎ Finishes q (length sheets) packets come closed events)
          → ahead (sequence_in b.sequences q) ≤ length (cond x (delivered_by b other limit) [] ++ delivered_to q (buffer_after b (Read other limit)) events)
      by_same true e f =
          let same : other ≡ q = eqb-true other q e in
          subst (λ (p : ℕ). ahead (sequence_in b.sequences q) ≤ length (delivered_by b p limit ++ delivered_to q (buffer_after b (Read p limit)) events)) (sym same)
          (subst (λ (c : Buffer). ahead (sequence_in b.sequences q) ≤ length (delivered_by b q limit ++ delivered_to q c events)) (taken b (Read q limit) calm'.known.known)
          (own (subst (λ (p : ℕ). b.next + asked b (Read p limit ∷ events) ≤ b.room) same fits) (which f)))
        where
          which : (((other ≡ q) × (closed ≡ true) × (packets ≤ limit)) ⊎ Finishes q (length sheets) packets come closed events)
              → (((closed ≡ true) × (packets ≤ limit)) ⊎ Finishes q (length sheets) packets come closed events)
          which (inl h) = inl (h.1, h.2)
          which (inr h) = inr h
      by_same false e (inl f) = absurd (eqb-false other q e f.0)
      by_same false e (inr f) = other_all b come closed [] (Read other limit) events rest calm' fits few (eqb-false other q e) order.1 f

  pub delivers_all : (events : List Event) → Rest events
  delivers_all [] b come closed due calm fits few order finishes = absurd finishes
  delivers_all (Arrives other chunk_id chunk ∷ events) b come closed due calm fits few order finishes =
      arrives_all b come closed due other chunk_id chunk events (delivers_all events) calm fits few order finishes
  delivers_all (ArrivesInPart other chunk_id chunk ∷ events) b come closed due calm fits few order finishes =
      part_all b come closed due other chunk_id chunk events (delivers_all events) calm fits few order finishes
  delivers_all (Patched other patches ∷ events) b come closed due calm fits few order finishes =
      patched_all b come closed due other patches events (delivers_all events) calm fits few order finishes
  delivers_all (Committed image patches ∷ events) b come closed due calm fits few order finishes =
      other_all b come closed [] (Committed image patches) events (delivers_all events) (none_due come closed due b order.0 calm) fits few (eqb-false image.sequence q order.1) order.2 finishes
  delivers_all (Closed other ∷ events) b come closed due calm fits few order finishes =
      closed_all b come closed due other events (delivers_all events) calm fits few order finishes
  delivers_all (Read other limit ∷ events) b come closed due calm fits few order finishes =
      read_all b come closed due other limit events (delivers_all events) calm fits few order finishes
