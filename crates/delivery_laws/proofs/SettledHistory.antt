-- Over a history in order, what became of each packet is fixed that begins before the reader, or in a chunk that is gone; so a read of all that is due
-- settles the packets of all chunks that came and await nothing.
use Rattle.std.proofs.Common.{◌≡◌, ◌∙◌, ℕ, suc, ◌+◌, ◌-◌, ◌<◌, ◌≤◌, ◌⊎◌, Bool, true, false, not, ◌&&◌, ◌||◌, List, [], ◌∷◌, ◌++◌, length, drop, Option, Some, None, refl, sym, ap, subst, arith, inl, inr, append_assoc, append-nil}
use Rattle.std.specs.Prelude.{cond, ◌==◌, slice_get, filter, find, map, is_some, MatchBool}
use Rattle.std.specs.List.{flat_map}
use Rattle.std.proofs.lemmas.Bool.{false≢true, eqb-true, eqb-false, eq-eqb, and_from, cases_lt}
use Rattle.std.proofs.lemmas.Option.{same_Some, none-some}
use Rattle.trace_model.specs.Counts.{one_if}
use Rattle.trace_model.specs.Images.{Chunk, Patch, complete_chunk, partial_chunk, last_holds}
use Rattle.trace_model.specs.Sequences.{Sequence, Cursor, is_among, sequence_in, is_known}
use Rattle.trace_model.specs.Buffers.{Buffer, BufferRecord, is_of, live_at, meets}
use Rattle.trace_model.specs.Places.{place_after}
use Rattle.trace_model.specs.Arrivals.{Arrived, Kept, Rewritten, Discarded, is_refused, placing_of, arrival_of, partial_arrival_of, settled, with_arrival, with_partial_arrival}
use Rattle.trace_model.specs.Patches.{awaits_at, patched_chunk, with_patch, with_patches, closed_buffer, with_close}
use Rattle.trace_model.specs.Sent.{chunks_of, LastsAre}
use Rattle.trace_model.specs.Row.{Link, Joined, Gap, Stop, place, row_from_cursor}
use Rattle.trace_model.specs.RowLaws.{Before, UpTo}
use Rattle.trace_model.specs.Reads.{turn_of, delivers, ends, passed_by, left_by, is_marked, delivered_by, with_read}
use Rattle.trace_model.specs.History.{Event, Arrives, ArrivesInPart, Patched, Committed, Closed, Read, event_sequence, buffer_after, state_after}
use Rattle.trace_model.specs.Causes.{Fixed, lost_at, unread_start_places, fixed_by, fixed_by_arrival, fixed_by_link, fixed_after}
use Rattle.trace_model.proofs.SequenceLemmas.{number_of}
use Rattle.model_laws.proofs.MarkLemmas.{delivered-long}
use Rattle.delivery_laws.specs.Sheets.{Sheet, Part, SheetsAgree, sheet_patches}
use Rattle.delivery_laws.specs.Histories.{IsComplete, IsPart}
use Rattle.delivery_laws.specs.Orders.{InOrder}
use Rattle.delivery_laws.specs.FlushLaws.{arrivals_of}
use Rattle.delivery_laws.proofs.Walks.{Walks, Inside, StandsAt, parts_at}
use Rattle.delivery_laws.proofs.AdjacentLemmas.{begin_of, reader_after}
use Rattle.delivery_laws.proofs.KnownLemmas.{IsGood, EachOf, IsKnown, Past, completes_shows, known_walks}
use Rattle.delivery_laws.proofs.KeepLemmas.{Keeps, keeps_event, SameReader, reader_kept, known_kept, each_change}
use Rattle.delivery_laws.proofs.EventLemmas.{Continues, arrives, arrival_is}
use Rattle.delivery_laws.proofs.OwnEvents.{arrives_in_part, patches_known, closes, read_known}
use Rattle.delivery_laws.proofs.HistoryLemmas.{walk_stands}
use Rattle.delivery_laws.proofs.CompleteLemmas.{lasts_behind, IsCompleted, EachCompletes}
use Rattle.delivery_laws.proofs.OrderLemmas.{patches_next}
use Rattle.delivery_laws.proofs.CalmLemmas.{Waits}
use Rattle.delivery_laws.proofs.WaitLemmas.{settled_each, patches_wait}
use Rattle.delivery_laws.proofs.DeliversAll.{taken}
use Rattle.delivery_laws.proofs.StartRows.{IsFixed, fixed_first, fixed_behind}
use Rattle.delivery_laws.proofs.LossLemmas.{before_or_not, unread_fixed, none_changed, same_of}
use Rattle.delivery_laws.proofs.SettledLemmas.{IsBegun, AreSettled, Quiet, same_length, settled_next, read_settled, read_cursor, read_all_settled}

-- what a read leaves of a row that walks does so too
left_walks : (At : ℕ → ℕ → List Part → Type 0) (Over : ℕ → Type 0) (links : List Link) (limit : ℕ) (parts : List Part) → Walks At Over links parts
    → (rest : List Part) × Walks At Over (left_by limit links) rest
left_walks At Over [] limit parts w = absurd w
left_walks At Over (Stop at why may ∷ links) limit parts w = (parts, w)
left_walks At Over (Gap at to lost ∷ links) limit [] w = absurd w
left_walks At Over (Gap at to lost ∷ links) limit (part ∷ parts) w = left_walks At Over links (limit - 0) w.0 w.2
left_walks At Over (Joined chain ∷ links) limit [] w = absurd w
left_walks At Over (Joined chain ∷ links) limit (part ∷ parts) w =
    step (ends (turn_of (Joined chain)) || (delivers (turn_of (Joined chain)) && (limit == 0)))
    (left_walks At Over links (limit - one_if (delivers (turn_of (Joined chain)))) w.0 w.2)
  where
    step : (b : Bool) → (rest : List Part) × Walks At Over (left_by (limit - one_if (delivers (turn_of (Joined chain)))) links) rest
        → (rest : List Part) × Walks At Over (cond b (Joined chain ∷ links) (left_by (limit - one_if (delivers (turn_of (Joined chain)))) links)) rest
    step true k = (part ∷ parts, w)
    step false k = k

each_then : (q : ℕ) (P Q : BufferRecord → Type 0) → ((r : BufferRecord) → P r → Q r) → (rs : List BufferRecord) → EachOf q P rs → EachOf q Q rs
each_then q P Q f [] h = tt
each_then q P Q f (r ∷ rs) h = ((λ e. f r (h.0 e)), each_then q P Q f rs h.1)

-- a record behind the others is found
new_there : (q i : ℕ) (rs : List BufferRecord) (new : BufferRecord) → is_of q i new ≡ true → find (is_of q i) (rs ++ new ∷ []) ≡ None → ⊥
new_there q i [] new is h = none-some new (sym (sym (ap (λ (x : Bool). cond x (Some new) None) is) ∙ h))
new_there q i (r ∷ rs) new is h = step (is_of q i r) h (new_there q i rs new is)
  where
    step : (x : Bool) → cond x (Some r) (find (is_of q i) (rs ++ new ∷ [])) ≡ None → (find (is_of q i) (rs ++ new ∷ []) ≡ None → ⊥) → ⊥
    step true h k = none-some r (sym h)
    step false h k = k h

-- patches end no silence
quiet_patched : (q n p : ℕ) (patches : List Patch) (b : Buffer) → EachOf q (Quiet n) b.live → EachOf q (Quiet n) (with_patches b p patches).live
quiet_patched q n p [] b quiet = quiet
quiet_patched q n p (patch ∷ patches) b quiet =
    quiet_patched q n p patches (with_patch b p patch)
    (each_change q (Quiet n) (Quiet n)
    (λ stored. cond (awaits_at p patch.chunk_id stored && last_holds stored.chunk.fragments patch) (record stored { chunk = patched_chunk patch stored.chunk }) stored)
    (λ r old of. by_test r (is_of p patch.chunk_id r) r.chunk.awaits (last_holds r.chunk.fragments patch) refl old of) b.live quiet)
  where
    by_test : (r : BufferRecord) (x y z : Bool) → r.chunk.awaits ≡ y → ((r.sequence == q) ≡ true → Quiet n r)
        → ((cond ((x && y) && z) (record r { chunk = patched_chunk patch r.chunk }) r).sequence == q) ≡ true
        → Quiet n (cond ((x && y) && z) (record r { chunk = patched_chunk patch r.chunk }) r)
    by_test r true true true e old of = λ low. absurd (false≢true (sym (old of low) ∙ e))
    by_test r true true false e old of = old of
    by_test r true false z e old of = old of
    by_test r false y z e old of = old of

-- Of the chunks before this one: the patches that their bodies bring, from each chunk on; each that awaits patches gets them from these; and the last
-- of them runs on nowhere.
pub record AreSent (sheets : List Sheet) (n : ℕ) (front : ℕ → List Patch) : Type 0 where
  pub next : (i : ℕ) (sheet : Sheet) → i < n → slice_get sheets i ≡ Some sheet → front i ≡ sheet.patches ++ front (suc i)
  pub end : front n ≡ []
  pub sent : (i : ℕ) (sheet : Sheet) → i < n → slice_get sheets i ≡ Some sheet → sheet.chunk.awaits ≡ true → is_among i (chunks_of (front i)) ≡ true
  pub lasts : (i : ℕ) → LastsAre [] (front i)
  pub last : (sheet : Sheet) (i : ℕ) → slice_get sheets i ≡ Some sheet → suc i ≡ n → sheet.chunk.runs_on ≡ false

module _ (sheets : List Sheet) (agree : SheetsAgree false sheets) (completes : EachCompletes sheets) (q n : ℕ) (front : ℕ → List Patch) (are : AreSent sheets n front) where
  pub record IsState (come : ℕ) (closed : Bool) (due : List Patch) (past : List Fixed) (b : Buffer) : Type 0 where
    pub known : IsKnown sheets q come closed (due ++ sheet_patches (drop come sheets)) b
    pub inside : closed ≡ false → Inside sheets (sequence_in b.sequences q).cursor.chunk_id (sequence_in b.sequences q).cursor.passed
    pub settled : AreSettled sheets q come closed past b
    pub waits : come ≤ n → EachOf q (Waits (due ++ front come)) b.live
    pub lasts : come ≤ n → LastsAre [] (due ++ front come)
    pub quiet : n < come → EachOf q (Quiet n) b.live

  -- what an event fixes
  abbrev now : Buffer → Event → List Fixed
  now b event = cond (is_known b.sequences (event_sequence event)) (fixed_by b (sequence_in b.sequences q) event) []

  quiet_now : (come : ℕ) (closed : Bool) (past : List Fixed) (b : Buffer) → IsState come closed [] past b → n ≤ come → EachOf q (Quiet n) b.live
  quiet_now come closed past b state high = by_place (cases_lt n come)
    where
      silent : (r : BufferRecord) → Waits (front come) r → front come ≡ [] → (a : Bool) → r.chunk.awaits ≡ a → a ≡ false
      silent r waits none true e = absurd (false≢true (sym (ap (λ (ps : List Patch). is_among r.chunk_id (chunks_of ps)) none) ∙ waits e))
      silent r waits none false e = refl

      by_place : ((n < come) ⊎ (come ≤ n)) → EachOf q (Quiet n) b.live
      by_place (inl h) = state.quiet h
      by_place (inr h) =
          let same : come ≡ n = omega (arith, high, h) in
          each_then q (Waits (front come)) (Quiet n) (λ r waits low. silent r waits (ap front same ∙ are.end) r.chunk.awaits refl) b.live (state.waits h)

  inside_kept : (s t : Sequence) → SameReader s t → Inside sheets s.cursor.chunk_id s.cursor.passed → Inside sheets t.cursor.chunk_id t.cursor.passed
  inside_kept s t same = subst (λ (c : Cursor). Inside sheets c.chunk_id c.passed) (sym same.cursor)

  no_due : (come : ℕ) (closed : Bool) (due : List Patch) (past : List Fixed) (b : Buffer) → due ≡ [] → IsState come closed due past b → IsState come closed [] past b
  no_due come closed due past b e state = subst (λ (ps : List Patch). IsState come closed ps past b) e state

  other_state : (come : ℕ) (closed : Bool) (due : List Patch) (past : List Fixed) (b : Buffer) (event : Event) → IsState come closed due past b
      → (event_sequence event ≡ q → ⊥) → IsState come closed due (past ++ now b event) (buffer_after b event)
  other_state come closed due past b event state other =
      let keeps : Keeps q (IsGood sheets come (due ++ sheet_patches (drop come sheets))) b (buffer_after b event) =
      keeps_event q (IsGood sheets come (due ++ sheet_patches (drop come sheets))) b event other in
      let waits : Keeps q (Waits (due ++ front come)) b (buffer_after b event) = keeps_event q (Waits (due ++ front come)) b event other in
      let quiet : Keeps q (Quiet n) b (buffer_after b event) = keeps_event q (Quiet n) b event other in
      let reader = reader_kept (sequence_in b.sequences q) (sequence_in (buffer_after b event).sequences q) (keeps.same state.known.known) in
      record {
        known = known_kept sheets q come closed (due ++ sheet_patches (drop come sheets)) b (buffer_after b event) state.known keeps;
        inside = λ o. inside_kept (sequence_in b.sequences q) (sequence_in (buffer_after b event).sequences q) reader (state.inside o);
        settled = settled_next sheets q come closed (due ++ sheet_patches (drop come sheets)) b state.known come closed past event state.settled reader (omega arith) (λ i h. h)
            (λ k begun low none. absurd (omega (arith, low)));
        waits = λ low. waits.live (state.waits low);
        lasts = state.lasts;
        quiet = λ high. quiet.live (state.quiet high);
      }

  arrive_state : (come : ℕ) (past : List Fixed) (b : Buffer) (sheet : Sheet) → IsState come false [] past b → slice_get sheets come ≡ Some sheet
      → IsState (suc come) false sheet.patches (past ++ now b (Arrives q come sheet.chunk)) (buffer_after b (Arrives q come sheet.chunk))
  arrive_state come past b sheet state get =
      let complete : IsComplete sheets (sheet_patches (drop come sheets)) come sheet.chunk =
      record { sheet = sheet; there = get; same = refl; completes = is.completes; some = is.some } in
      let came : Continues sheets q come (sheet_patches (drop come sheets)) (suc come) false (sheet_patches (drop come sheets)) b (with_arrival b q come sheet.chunk) =
      arrives sheets q come (sheet_patches (drop come sheets)) b sheet.chunk state.known complete (λ at.
      let low = state.inside refl sheet (ap (slice_get sheets) at ∙ get) in
      let same = long in
      omega (arith, low, same)) in
      let reader : SameReader (sequence_in b.sequences q) (sequence_in (buffer_after b (Arrives q come sheet.chunk)).sequences q) =
      subst (λ (c : Buffer). SameReader (sequence_in b.sequences q) (sequence_in c.sequences q)) at_once came.reader in
      record {
        known = subst (λ (ps : List Patch). IsKnown sheets q (suc come) false ps (buffer_after b (Arrives q come sheet.chunk))) (patches_next sheets come sheet get)
            (subst (IsKnown sheets q (suc come) false (sheet_patches (drop come sheets))) at_once came.known);
        inside = λ o. inside_kept (sequence_in b.sequences q) (sequence_in (buffer_after b (Arrives q come sheet.chunk)).sequences q) reader (state.inside o);
        settled = settled_next sheets q come false (sheet_patches (drop come sheets)) b state.known (suc come) false past (Arrives q come sheet.chunk) state.settled reader (omega arith)
            (λ i h. inr refl) (λ k begun low none. lost k begun (ap (λ (c : Buffer). live_at c q come) at_once ∙ none) (before_or_not (place come k) (sequence_in b.sequences q).cursor));
        waits = λ low. subst (λ (c : Buffer). EachOf q (Waits (sheet.patches ++ front (suc come))) c.live) at_once
            (subst (λ (ps : List Patch). EachOf q (Waits ps) (with_arrival b q come sheet.chunk).live) (are.next come sheet (omega (arith, low)) get)
            (settled_each q (Waits (front come)) b come (complete_chunk sheet.chunk) (state.waits (omega (arith, low)))
            (λ r at e a. ap (λ (i : ℕ). is_among i (chunks_of (front come))) at ∙ are.sent come sheet (omega (arith, low)) get (sym (ap (λ (c : Chunk). c.awaits) e) ∙ a))
            (arrival_of b q come)));
        lasts = λ low. subst (LastsAre []) (are.next come sheet (omega (arith, low)) get) (are.lasts come);
        quiet = λ high. subst (λ (c : Buffer). EachOf q (Quiet n) c.live) at_once
            (settled_each q (Quiet n) b come (complete_chunk sheet.chunk) (quiet_now come false past b state (omega (arith, high)))
            (λ r at e low. absurd (omega (arith, high, at, low))) (arrival_of b q come));
      }
    where
      is : IsCompleted sheets come sheet
      is = completes come sheet get

      long : length sheet.chunk.fragments ≡ length sheet.written
      long = same_length sheet.chunk.awaits sheet.chunk.fragments sheet.written
          (completes_shows (sheet_patches (drop come sheets)) come sheet.chunk.awaits sheet.chunk.fragments sheet.written (completes come sheet get).completes)

      at_once : with_arrival b q come sheet.chunk ≡ buffer_after b (Arrives q come sheet.chunk)
      at_once = taken b (Arrives q come sheet.chunk) state.known.known

      -- where the chunk gets no record, its packets are lost
      lost : (k : ℕ) → IsBegun sheets come k → live_at (with_arrival b q come sheet.chunk) q come ≡ None
          → Before (place come k) (sequence_in b.sequences q).cursor ⊎ UpTo (sequence_in b.sequences q).cursor (place come k)
          → IsFixed (place come k) (past ++ now b (Arrives q come sheet.chunk))
      lost k begun none (inl before) = fixed_first (place come k) past (now b (Arrives q come sheet.chunk)) (state.settled.before come k begun (inr refl) before)
      lost k begun none (inr behind) =
          fixed_behind (place come k) past (now b (Arrives q come sheet.chunk))
          (subst (λ (x : Bool). IsFixed (place come k) (cond x (fixed_by b (sequence_in b.sequences q) (Arrives q come sheet.chunk)) [])) (sym state.known.known)
          (by_outcome (arrival_of b q come) (sym (arrival_is sheets q come (sheet_patches (drop come sheets)) b state.known)) none))
        where
          by_outcome : (outcome : Arrived) → placing_of b q come ≡ outcome → live_at (settled outcome b q come (complete_chunk sheet.chunk)) q come ≡ None
              → IsFixed (place come k) (fixed_by_arrival b (sequence_in b.sequences q) (sequence_in b.sequences q) outcome false come sheet.chunk)
          by_outcome outcome e none = by_live (live_at b q come) refl (is_refused b (sequence_in b.sequences q).size) outcome e none
            where
              of_sheet : begun.sheet ≡ sheet
              of_sheet = same_Some begun.sheet sheet (sym begun.there ∙ get)

              by_live : (o : Option BufferRecord) → live_at b q come ≡ o → (refused : Bool) → (outcome : Arrived)
                  → cond (is_some o) Rewritten (cond refused Discarded Kept) ≡ outcome → live_at (settled outcome b q come (complete_chunk sheet.chunk)) q come ≡ None
                  → IsFixed (place come k) (fixed_by_arrival b (sequence_in b.sequences q) (sequence_in b.sequences q) outcome false come sheet.chunk)
              by_live (Some r) f refused outcome e =
                  subst (λ (x : Arrived). live_at (settled x b q come (complete_chunk sheet.chunk)) q come ≡ None
                  → IsFixed (place come k) (fixed_by_arrival b (sequence_in b.sequences q) (sequence_in b.sequences q) x false come sheet.chunk)) e
                  (λ none. absurd (none-some r (sym (sym f
                  ∙ none_changed q come (λ stored. cond (is_of q come stored) (record stored { chunk = complete_chunk sheet.chunk }) stored)
                  (λ t. same_of q come t (complete_chunk sheet.chunk) (is_of q come t)) b.live none))))
              by_live None f true outcome e =
                  subst (λ (x : Arrived). live_at (settled x b q come (complete_chunk sheet.chunk)) q come ≡ None
                  → IsFixed (place come k) (fixed_by_arrival b (sequence_in b.sequences q) (sequence_in b.sequences q) x false come sheet.chunk)) e
                  (λ none. subst (λ (x : Bool). IsFixed (place come k) (cond (x && true) (map lost_at (unread_start_places (sequence_in b.sequences q) come sheet.chunk)) []))
                  (sym (eq-eqb (sequence_in b.sequences q).number (sequence_in b.sequences q).number refl))
                  (unread_fixed (sequence_in b.sequences q) come sheet.chunk k
                  (let all = long in let within = begun.inside in let written = ap (λ (s : Sheet). length s.written) of_sheet in omega (arith, all, within, written))
                  (ap (λ (s : Sheet). s.chunk.continues && (k == 0)) (sym of_sheet) ∙ begun.begins) behind))
              by_live None f false outcome e =
                  subst (λ (x : Arrived). live_at (settled x b q come (complete_chunk sheet.chunk)) q come ≡ None
                  → IsFixed (place come k) (fixed_by_arrival b (sequence_in b.sequences q) (sequence_in b.sequences q) x false come sheet.chunk)) e
                  (λ none. absurd (new_there q come (filter (λ stored. not (meets b (sequence_in b.sequences q).size stored)) b.live)
                  (record { sequence = q; chunk_id = come; at = place_after b.room b.next (sequence_in b.sequences q).size; size = (sequence_in b.sequences q).size; chunk = complete_chunk sheet.chunk })
                  (and_from (q == q) (come == come) (eq-eqb q q refl) (eq-eqb come come refl)) none))

  part_state : (come : ℕ) (past : List Fixed) (b : Buffer) (chunk : Chunk) → IsState come false [] past b → IsPart sheets come chunk
      → IsState come false [] (past ++ now b (ArrivesInPart q come chunk)) (buffer_after b (ArrivesInPart q come chunk))
  part_state come past b chunk state is =
      let came : Continues sheets q come (sheet_patches (drop come sheets)) come false (sheet_patches (drop come sheets)) b (with_partial_arrival b q come chunk) =
      arrives_in_part sheets q come (sheet_patches (drop come sheets)) b chunk state.known is in
      let at_once : with_partial_arrival b q come chunk ≡ buffer_after b (ArrivesInPart q come chunk) = taken b (ArrivesInPart q come chunk) state.known.known in
      let reader : SameReader (sequence_in b.sequences q) (sequence_in (buffer_after b (ArrivesInPart q come chunk)).sequences q) =
      subst (λ (c : Buffer). SameReader (sequence_in b.sequences q) (sequence_in c.sequences q)) at_once came.reader in
      record {
        known = subst (IsKnown sheets q come false (sheet_patches (drop come sheets))) at_once came.known;
        inside = λ o. inside_kept (sequence_in b.sequences q) (sequence_in (buffer_after b (ArrivesInPart q come chunk)).sequences q) reader (state.inside o);
        settled = settled_next sheets q come false (sheet_patches (drop come sheets)) b state.known come false past (ArrivesInPart q come chunk) state.settled reader (omega arith) (λ i h. h)
            (λ k begun low none. absurd (omega (arith, low)));
        waits = λ low. subst (λ (c : Buffer). EachOf q (Waits (front come)) c.live) at_once
            (settled_each q (Waits (front come)) b come (partial_chunk chunk) (state.waits low)
            (λ r at e a. absurd (false≢true (sym (ap (λ (c : Chunk). c.awaits) e) ∙ a)))
            (partial_arrival_of b q come (length chunk.fragments)));
        lasts = state.lasts;
        quiet = λ high. subst (λ (c : Buffer). EachOf q (Quiet n) c.live) at_once
            (settled_each q (Quiet n) b come (partial_chunk chunk) (state.quiet high)
            (λ r at e low. ap (λ (c : Chunk). c.awaits) e)
            (partial_arrival_of b q come (length chunk.fragments)));
      }

  patched_state : (come : ℕ) (closed : Bool) (due : List Patch) (past : List Fixed) (b : Buffer) → IsState come closed due past b
      → IsState come closed [] (past ++ now b (Patched q due)) (buffer_after b (Patched q due))
  patched_state come closed due past b state =
      let done = patches_known sheets q come closed due (sheet_patches (drop come sheets)) b state.known in
      let at_once : with_patches b q due ≡ buffer_after b (Patched q due) = taken b (Patched q due) state.known.known in
      let reader : SameReader (sequence_in b.sequences q) (sequence_in (buffer_after b (Patched q due)).sequences q) =
      subst (λ (c : Buffer). SameReader (sequence_in b.sequences q) (sequence_in c.sequences q)) at_once
      (subst (λ (ss : List Sequence). SameReader (sequence_in b.sequences q) (sequence_in ss q)) (sym done.1) (record { cursor = refl; missing = refl; delivered = refl })) in
      record {
        known = subst (IsKnown sheets q come closed (sheet_patches (drop come sheets))) at_once done.0;
        inside = λ o. inside_kept (sequence_in b.sequences q) (sequence_in (buffer_after b (Patched q due)).sequences q) reader (state.inside o);
        settled = settled_next sheets q come closed (due ++ sheet_patches (drop come sheets)) b state.known come closed past (Patched q due) state.settled reader (omega arith) (λ i h. h)
            (λ k begun low none. absurd (omega (arith, low)));
        waits = λ low. subst (λ (c : Buffer). EachOf q (Waits (front come)) c.live) at_once
            (patches_wait sheets q come closed due (sheet_patches (drop come sheets)) (front come) b state.known (state.lasts low) (state.waits low));
        lasts = λ low. lasts_behind [] due (front come) (state.lasts low);
        quiet = λ high. subst (λ (c : Buffer). EachOf q (Quiet n) c.live) at_once (quiet_patched q n q due b (state.quiet high));
      }

  closed_state : (come : ℕ) (past : List Fixed) (b : Buffer) → IsState come false [] past b → IsState come true [] (past ++ now b (Closed q)) (buffer_after b (Closed q))
  closed_state come past b state =
      let done : Continues sheets q come (sheet_patches (drop come sheets)) come true (sheet_patches (drop come sheets)) b (with_close b q) =
      closes sheets q come (sheet_patches (drop come sheets)) b state.known in
      let at_once : with_close b q ≡ buffer_after b (Closed q) = taken b (Closed q) state.known.known in
      let reader : SameReader (sequence_in b.sequences q) (sequence_in (buffer_after b (Closed q)).sequences q) =
      subst (λ (c : Buffer). SameReader (sequence_in b.sequences q) (sequence_in c.sequences q)) at_once done.reader in
      record {
        known = subst (IsKnown sheets q come true (sheet_patches (drop come sheets))) at_once done.known;
        inside = λ o. absurd (false≢true (sym o));
        settled = settled_next sheets q come false (sheet_patches (drop come sheets)) b state.known come true past (Closed q) state.settled reader (omega arith) (λ i h. inr refl)
            (λ k begun low none. absurd (omega (arith, low)));
        waits = λ low. subst (λ (c : Buffer). EachOf q (Waits (front come)) c.live) at_once (same_live (Waits (front come)) (sequence_in b.sequences q).closed (state.waits low));
        lasts = state.lasts;
        quiet = λ high. subst (λ (c : Buffer). EachOf q (Quiet n) c.live) at_once (same_live (Quiet n) (sequence_in b.sequences q).closed (state.quiet high));
      }
    where
      same_live : (P : BufferRecord → Type 0) (x : Bool) → EachOf q P b.live → EachOf q P (cond x b (closed_buffer b q)).live
      same_live P true h = h
      same_live P false h = h

  -- what a read fixes
  read_fixed : (come : ℕ) (closed : Bool) (later : List Patch) (b : Buffer) (limit : ℕ) → IsKnown sheets q come closed later b
      → now b (Read q limit) ≡ flat_map fixed_by_link (passed_by limit (row_from_cursor b (sequence_in b.sequences q)))
  read_fixed come closed later b limit known =
      ap (λ (x : Bool). cond x (fixed_by b (sequence_in b.sequences q) (Read q limit)) []) known.known
      ∙ ap (λ (x : Bool). cond x (flat_map fixed_by_link (passed_by limit (row_from_cursor b (sequence_in b.sequences q)))) [])
      (eq-eqb q (sequence_in b.sequences q).number (sym (number_of b.sequences q known.known)))

  read_state : (come : ℕ) (closed : Bool) (past : List Fixed) (b : Buffer) (limit : ℕ) → IsState come closed [] past b
      → IsState come closed [] (past ++ now b (Read q limit)) (buffer_after b (Read q limit))
  read_state come closed past b limit state =
      subst (IsState come closed [] (past ++ now b (Read q limit))) (taken b (Read q limit) state.known.known)
      (record {
        known = read_known sheets q come closed (sheet_patches (drop come sheets)) limit b state.known;
        inside = λ o. by_passed o (passed_by limit (row_from_cursor b (sequence_in b.sequences q)))
            (read_cursor sheets q come closed (sheet_patches (drop come sheets)) b state.known limit);
        settled = subst (λ (fs : List Fixed). AreSettled sheets q come closed (past ++ fs) (with_read b q limit)) (sym (read_fixed come closed (sheet_patches (drop come sheets)) b limit state.known))
            (read_settled sheets q come closed (sheet_patches (drop come sheets)) b state.known past limit state.settled);
        waits = state.waits;
        lasts = state.lasts;
        quiet = state.quiet;
      })
    where
      by_passed : closed ≡ false → (ls : List Link)
          → (sequence_in (with_read b q limit).sequences q).cursor
          ≡ reader_after (sequence_in b.sequences q).cursor ls (left_by limit (row_from_cursor b (sequence_in b.sequences q)))
          → Inside sheets (sequence_in (with_read b q limit).sequences q).cursor.chunk_id (sequence_in (with_read b q limit).sequences q).cursor.passed
      by_passed o [] e = subst (λ (c : Cursor). Inside sheets c.chunk_id c.passed) (sym e) (state.inside o)
      by_passed o (link ∷ ls) e =
          let left = left_walks (StandsAt sheets) (Past closed come) (row_from_cursor b (sequence_in b.sequences q)) limit
          (parts_at sheets (sequence_in b.sequences q).cursor.chunk_id (sequence_in b.sequences q).cursor.passed)
          (known_walks sheets q come closed (sheet_patches (drop come sheets)) b state.known agree (state.inside o)) in
          by_place (walk_stands (StandsAt sheets) (Past closed come) (left_by limit (row_from_cursor b (sequence_in b.sequences q))) left.0 left.1)
        where
          by_place : {parts : List Part} → (StandsAt sheets (begin_of (left_by limit (row_from_cursor b (sequence_in b.sequences q)))).chunk_id (begin_of (left_by limit (row_from_cursor b (sequence_in b.sequences q)))).passed parts
              ⊎ Past closed come (begin_of (left_by limit (row_from_cursor b (sequence_in b.sequences q)))).chunk_id)
              → Inside sheets (sequence_in (with_read b q limit).sequences q).cursor.chunk_id (sequence_in (with_read b q limit).sequences q).cursor.passed
          by_place (inl at) = subst (λ (c : Cursor). Inside sheets c.chunk_id c.passed) (sym e) at.1
          by_place (inr past_end) = absurd (false≢true (sym o ∙ past_end.0))

  -- Histories

  -- what is fixed up to a read of all that is due
  abbrev pub Settles : ℕ → List Event → Type 0
  Settles limit early = (come : ℕ) (closed : Bool) (due : List Patch) (past : List Fixed) (b : Buffer) (later : List Event) → IsState come closed due past b
      → InOrder sheets q come closed due (early ++ Read q limit ∷ later) → n ≤ come + arrivals_of q early
      → length (delivered_by (state_after b early) q (suc limit)) ≤ limit
      → (i k : ℕ) → i < n → IsBegun sheets i k → IsFixed (place i k) (past ++ fixed_after q b (early ++ Read q limit ∷ []))

  read_settles : (limit : ℕ) → Settles limit []
  read_settles limit come closed due past b later state order come_all few i k low begun =
      let state' = no_due come closed due past b order.0 state in
      subst (λ (fs : List Fixed). IsFixed (place i k) (past ++ fs)) (sym (append-nil (now b (Read q limit))))
      (subst (λ (fs : List Fixed). IsFixed (place i k) (past ++ fs)) (sym (read_fixed come closed (sheet_patches (drop come sheets)) b limit state'.known))
      (read_all_settled sheets q come closed (sheet_patches (drop come sheets)) b state'.known n (omega (arith, come_all))
      (quiet_now come closed past b state' (omega (arith, come_all))) are.last past limit
      (let long = delivered-long (passed_by (suc limit) (row_from_cursor b (sequence_in b.sequences q))) (is_marked (sequence_in b.sequences q)) in omega (arith, long, few))
      state'.settled i k low begun))

  -- one event before
  onward : (limit : ℕ) (event : Event) (early : List Event) → Settles limit early → (come' : ℕ) (closed' : Bool) (due' : List Patch) (past : List Fixed) (b : Buffer) (later : List Event)
      → IsState come' closed' due' (past ++ now b event) (buffer_after b event)
      → InOrder sheets q come' closed' due' (early ++ Read q limit ∷ later) → n ≤ come' + arrivals_of q early
      → length (delivered_by (state_after (buffer_after b event) early) q (suc limit)) ≤ limit
      → (i k : ℕ) → i < n → IsBegun sheets i k → IsFixed (place i k) (past ++ (now b event ++ fixed_after q (buffer_after b event) (early ++ Read q limit ∷ [])))
  onward limit event early rest come' closed' due' past b later state order come_all few i k low begun =
      subst (IsFixed (place i k)) (append_assoc past (now b event) (fixed_after q (buffer_after b event) (early ++ Read q limit ∷ [])))
      (rest come' closed' due' (past ++ now b event) (buffer_after b event) later state order come_all few i k low begun)

  pub settles : (limit : ℕ) (early : List Event) → Settles limit early
  settles limit [] come closed due past b later state order come_all few i k low begun = read_settles limit come closed due past b later state order come_all few i k low begun
  settles limit (Arrives other chunk_id chunk ∷ early) come closed due past b later state order come_all few i k low begun =
      by_same (other == q) refl order.1 come_all (λ c x d ev. onward limit ev early (settles limit early) c x d past b later)
    where
      state' : IsState come closed [] past b
      state' = no_due come closed due past b order.0 state

      by_same : (x : Bool) → (other == q) ≡ x
          → MatchBool x ((closed ≡ false) × (chunk_id ≡ come) × (sheet : Sheet) × (slice_get sheets come ≡ Some sheet) × (chunk ≡ sheet.chunk)
          × InOrder sheets q (suc come) closed sheet.patches (early ++ Read q limit ∷ later)) (InOrder sheets q come closed [] (early ++ Read q limit ∷ later))
          → n ≤ come + cond x (suc (arrivals_of q early)) (arrivals_of q early)
          → ((c : ℕ) (x : Bool) (d : List Patch) (ev : Event) → IsState c x d (past ++ now b ev) (buffer_after b ev)
          → InOrder sheets q c x d (early ++ Read q limit ∷ later) → n ≤ c + arrivals_of q early
          → length (delivered_by (state_after (buffer_after b ev) early) q (suc limit)) ≤ limit
          → (i k : ℕ) → i < n → IsBegun sheets i k → IsFixed (place i k) (past ++ (now b ev ++ fixed_after q (buffer_after b ev) (early ++ Read q limit ∷ []))))
          → IsFixed (place i k) (past ++ (now b (Arrives other chunk_id chunk) ++ fixed_after q (buffer_after b (Arrives other chunk_id chunk)) (early ++ Read q limit ∷ [])))
      by_same true e h come_all rest =
          let event : Arrives other chunk_id chunk ≡ Arrives q come h.2.chunk =
          ap (λ (p : ℕ). Arrives p chunk_id chunk) (eqb-true other q e) ∙ ap (λ (j : ℕ). Arrives q j chunk) h.1 ∙ ap (Arrives q come) h.4 in
          subst (λ (ev : Event). IsFixed (place i k) (past ++ (now b ev ++ fixed_after q (buffer_after b ev) (early ++ Read q limit ∷ [])))) (sym event)
          (rest (suc come) false h.2.patches (Arrives q come h.2.chunk)
          (arrive_state come past b h.2 (subst (λ (c : Bool). IsState come c [] past b) h.0 state') h.3)
          (subst (λ (c : Bool). InOrder sheets q (suc come) c h.2.patches (early ++ Read q limit ∷ later)) h.0 h.5) (omega (arith, come_all))
          (subst (λ (ev : Event). length (delivered_by (state_after (buffer_after b ev) early) q (suc limit)) ≤ limit) event few) i k low begun)
      by_same false e h come_all rest =
          rest come closed [] (Arrives other chunk_id chunk) (other_state come closed [] past b (Arrives other chunk_id chunk) state' (eqb-false other q e)) h come_all few i k low begun
  settles limit (ArrivesInPart other chunk_id chunk ∷ early) come closed due past b later state order come_all few i k low begun =
      by_same (other == q) refl order.1 (λ c x d ev. onward limit ev early (settles limit early) c x d past b later)
    where
      state' : IsState come closed [] past b
      state' = no_due come closed due past b order.0 state

      by_same : (x : Bool) → (other == q) ≡ x
          → MatchBool x ((closed ≡ false) × (chunk_id ≡ come) × IsPart sheets come chunk × InOrder sheets q come closed [] (early ++ Read q limit ∷ later))
          (InOrder sheets q come closed [] (early ++ Read q limit ∷ later))
          → ((c : ℕ) (x : Bool) (d : List Patch) (ev : Event) → IsState c x d (past ++ now b ev) (buffer_after b ev)
          → InOrder sheets q c x d (early ++ Read q limit ∷ later) → n ≤ c + arrivals_of q early
          → length (delivered_by (state_after (buffer_after b ev) early) q (suc limit)) ≤ limit
          → (i k : ℕ) → i < n → IsBegun sheets i k → IsFixed (place i k) (past ++ (now b ev ++ fixed_after q (buffer_after b ev) (early ++ Read q limit ∷ []))))
          → IsFixed (place i k) (past ++ (now b (ArrivesInPart other chunk_id chunk) ++ fixed_after q (buffer_after b (ArrivesInPart other chunk_id chunk)) (early ++ Read q limit ∷ [])))
      by_same true e h rest =
          let event : ArrivesInPart other chunk_id chunk ≡ ArrivesInPart q come chunk =
          ap (λ (p : ℕ). ArrivesInPart p chunk_id chunk) (eqb-true other q e) ∙ ap (λ (j : ℕ). ArrivesInPart q j chunk) h.1 in
          subst (λ (ev : Event). IsFixed (place i k) (past ++ (now b ev ++ fixed_after q (buffer_after b ev) (early ++ Read q limit ∷ [])))) (sym event)
          (rest come false [] (ArrivesInPart q come chunk)
          (part_state come past b chunk (subst (λ (c : Bool). IsState come c [] past b) h.0 state') h.2)
          (subst (λ (c : Bool). InOrder sheets q come c [] (early ++ Read q limit ∷ later)) h.0 h.3) come_all
          (subst (λ (ev : Event). length (delivered_by (state_after (buffer_after b ev) early) q (suc limit)) ≤ limit) event few) i k low begun)
      by_same false e h rest =
          rest come closed [] (ArrivesInPart other chunk_id chunk) (other_state come closed [] past b (ArrivesInPart other chunk_id chunk) state' (eqb-false other q e)) h come_all few i k low begun
  settles limit (Patched other patches ∷ early) come closed due past b later state order come_all few i k low begun =
      by_same (other == q) refl order (λ c x d ev. onward limit ev early (settles limit early) c x d past b later)
    where
      by_same : (x : Bool) → (other == q) ≡ x
          → MatchBool x ((patches ≡ due) × InOrder sheets q come closed [] (early ++ Read q limit ∷ later)) ((due ≡ []) × InOrder sheets q come closed [] (early ++ Read q limit ∷ later))
          → ((c : ℕ) (x : Bool) (d : List Patch) (ev : Event) → IsState c x d (past ++ now b ev) (buffer_after b ev)
          → InOrder sheets q c x d (early ++ Read q limit ∷ later) → n ≤ c + arrivals_of q early
          → length (delivered_by (state_after (buffer_after b ev) early) q (suc limit)) ≤ limit
          → (i k : ℕ) → i < n → IsBegun sheets i k → IsFixed (place i k) (past ++ (now b ev ++ fixed_after q (buffer_after b ev) (early ++ Read q limit ∷ []))))
          → IsFixed (place i k) (past ++ (now b (Patched other patches) ++ fixed_after q (buffer_after b (Patched other patches)) (early ++ Read q limit ∷ [])))
      by_same true e h rest =
          let event : Patched other patches ≡ Patched q due = ap (λ (p : ℕ). Patched p patches) (eqb-true other q e) ∙ ap (Patched q) h.0 in
          subst (λ (ev : Event). IsFixed (place i k) (past ++ (now b ev ++ fixed_after q (buffer_after b ev) (early ++ Read q limit ∷ [])))) (sym event)
          (rest come closed [] (Patched q due) (patched_state come closed due past b state) h.1 come_all
          (subst (λ (ev : Event). length (delivered_by (state_after (buffer_after b ev) early) q (suc limit)) ≤ limit) event few) i k low begun)
      by_same false e h rest =
          rest come closed [] (Patched other patches)
          (other_state come closed [] past b (Patched other patches) (no_due come closed due past b h.0 state) (eqb-false other q e)) h.1 come_all few i k low begun
  settles limit (Committed image patches ∷ early) come closed due past b later state order come_all few i k low begun =
      onward limit (Committed image patches) early (settles limit early) come closed [] past b later
      (other_state come closed [] past b (Committed image patches) (no_due come closed due past b order.0 state) (eqb-false image.sequence q order.1)) order.2 come_all few i k low begun
  settles limit (Closed other ∷ early) come closed due past b later state order come_all few i k low begun =
      by_same (other == q) refl order.1 (λ c x d ev. onward limit ev early (settles limit early) c x d past b later)
    where
      state' : IsState come closed [] past b
      state' = no_due come closed due past b order.0 state

      by_same : (x : Bool) → (other == q) ≡ x
          → MatchBool x ((closed ≡ false) × InOrder sheets q come true [] (early ++ Read q limit ∷ later)) (InOrder sheets q come closed [] (early ++ Read q limit ∷ later))
          → ((c : ℕ) (x : Bool) (d : List Patch) (ev : Event) → IsState c x d (past ++ now b ev) (buffer_after b ev)
          → InOrder sheets q c x d (early ++ Read q limit ∷ later) → n ≤ c + arrivals_of q early
          → length (delivered_by (state_after (buffer_after b ev) early) q (suc limit)) ≤ limit
          → (i k : ℕ) → i < n → IsBegun sheets i k → IsFixed (place i k) (past ++ (now b ev ++ fixed_after q (buffer_after b ev) (early ++ Read q limit ∷ []))))
          → IsFixed (place i k) (past ++ (now b (Closed other) ++ fixed_after q (buffer_after b (Closed other)) (early ++ Read q limit ∷ [])))
      by_same true e h rest =
          let event : Closed other ≡ Closed q = ap Closed (eqb-true other q e) in
          subst (λ (ev : Event). IsFixed (place i k) (past ++ (now b ev ++ fixed_after q (buffer_after b ev) (early ++ Read q limit ∷ [])))) (sym event)
          (rest come true [] (Closed q) (closed_state come past b (subst (λ (c : Bool). IsState come c [] past b) h.0 state')) h.1 come_all
          (subst (λ (ev : Event). length (delivered_by (state_after (buffer_after b ev) early) q (suc limit)) ≤ limit) event few) i k low begun)
      by_same false e h rest =
          rest come closed [] (Closed other) (other_state come closed [] past b (Closed other) state' (eqb-false other q e)) h come_all few i k low begun
  settles limit (Read other more ∷ early) come closed due past b later state order come_all few i k low begun =
      by_same (other == q) refl (λ ev st f. onward limit ev early (settles limit early) come closed [] past b later st order.1 come_all f)
    where
      state' : IsState come closed [] past b
      state' = no_due come closed due past b order.0 state

      by_same : (x : Bool) → (other == q) ≡ x
          → ((ev : Event) → IsState come closed [] (past ++ now b ev) (buffer_after b ev)
          → length (delivered_by (state_after (buffer_after b ev) early) q (suc limit)) ≤ limit
          → (i k : ℕ) → i < n → IsBegun sheets i k → IsFixed (place i k) (past ++ (now b ev ++ fixed_after q (buffer_after b ev) (early ++ Read q limit ∷ []))))
          → IsFixed (place i k) (past ++ (now b (Read other more) ++ fixed_after q (buffer_after b (Read other more)) (early ++ Read q limit ∷ [])))
      by_same true e rest =
          let event : Read other more ≡ Read q more = ap (λ (p : ℕ). Read p more) (eqb-true other q e) in
          subst (λ (ev : Event). IsFixed (place i k) (past ++ (now b ev ++ fixed_after q (buffer_after b ev) (early ++ Read q limit ∷ [])))) (sym event)
          (rest (Read q more) (read_state come closed past b more state')
          (subst (λ (ev : Event). length (delivered_by (state_after (buffer_after b ev) early) q (suc limit)) ≤ limit) event few) i k low begun)
      by_same false e rest = rest (Read other more) (other_state come closed [] past b (Read other more) state' (eqb-false other q e)) few i k low begun
