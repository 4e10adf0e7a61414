-- Whatever a history fixes stands where a packet begins: live records, and what is discarded, are of the writer's pages.
use Rattle.std.proofs.Common.{◌≡◌, ◌∙◌, ℕ, zero, suc, ◌+◌, ◌-◌, ◌<◌, ◌≤◌, max, Bool, true, false, not, ◌&&◌, ◌||◌, List, [], ◌∷◌, ◌++◌, map, length, drop, refl, sym, ap, subst, arith, Option, Some, None}
use Rattle.std.specs.Prelude.{cond, ◌==◌, filter, find, slice_get, nat_lt}
use Rattle.std.specs.List.{flat_map}
use Rattle.std.proofs.lemmas.Bool.{and_parts, eqb-true}
use Rattle.trace_model.specs.Images.{Fragment, Chunk, Patch, patched_last, last_holds, whole_chunk, complete_chunk, partial_chunk}
use Rattle.trace_model.specs.Pages.{Page}
use Rattle.trace_model.specs.Reading.{Reading, Fragments, Unreadable, reading_of}
use Rattle.trace_model.specs.Sequences.{Cursor, Sequence, unread_of, sequence_in, is_known, has_arrived, is_among}
use Rattle.trace_model.specs.Buffers.{Buffer, BufferRecord, is_of, live_at, meets, is_loss_of}
use Rattle.trace_model.specs.Arrivals.{Arrived, Kept, Rewritten, Duplicate, Discarded, TooFar, BadChunk, arrival_of, partial_arrival_of, settled, with_arrival, once_read, with_image, with_rewritten, discarded_buffer}
use Rattle.trace_model.specs.Patches.{with_patch, with_patches, awaits_at, closed_buffer}
use Rattle.trace_model.specs.Row.{Slot, Here, Gone, Never, Piece, Chain, Fate, Whole, Marked, IntoLost, CutOff, Open, Link, Joined, Gap, Stop, Partial, Unpatched, joined_to, with_piece, place, is_last, is_part, place_behind, chunk_links, row_of, slot_from, slots_of, horizon, row_from_cursor}
use Rattle.trace_model.specs.Reads.{turn_by, turn_of, delivers, ends, passed_by, is_spoilt}
use Rattle.trace_model.specs.Counts.{one_if}
use Rattle.trace_model.specs.History.{Event, Arrives, ArrivesInPart, Patched, Committed, Closed, Read, event_sequence, after}
use Rattle.trace_model.specs.Causes.{Fixed, fixed_by_turn, fixed_by_link, places_from, starts_among, unread_start_places, lost_at, fixed_by_loss, fixed_by_arrival, fixed_once_read, fixed_by, fixed_after}
use Rattle.trace_model.proofs.CursorLemmas.{Each, each-append, each-filter, each-map}
use Rattle.trace_model.proofs.PageLemmas.{same_long}
use Rattle.model_laws.specs.Starts.{IsOfPage, ArePagesOf}

-- a packet of the pages begins at the place: a fragment is there, and it doesn't continue the page before
pub record IsStart (pages : List Page) (at : Cursor) : Type 0 where
  pub page : Page
  pub there : slice_get pages at.chunk_id ≡ Some page
  pub inside : at.passed < length page.fragments
  pub begins : (page.continues && (at.passed == 0)) ≡ false

-- a fragment of a chunk that is of the pages
start_in : (pages : List Page) (chunk_id passed : ℕ) (chunk : Chunk) → IsOfPage pages chunk_id chunk → passed < length chunk.fragments
    → (chunk.continues && (passed == 0)) ≡ false → IsStart pages (place chunk_id passed)
start_in pages chunk_id passed chunk of within begins = record {
  page = of.page;
  there = of.there;
  inside = omega (arith, within, of.no_more);
  begins = ap (λ (b : Bool). b && (passed == 0)) (sym of.continues) ∙ begins;
}

-- Rows

-- each chain that has its start begins at a place with the property
abbrev EachStart : (Cursor → Type 0) → List Link → Type 0
EachStart P [] = Unit {0}
EachStart P (Joined chain ∷ links) = (chain.headless ≡ false → P chain.at) × EachStart P links
EachStart P (Gap here next lost ∷ links) = EachStart P links
EachStart P (Stop here why may ∷ links) = EachStart P links

module _ (P : Cursor → Type 0) where
  starts_joined : (chain : Chain) (links : List Link) → (chain.headless ≡ false → P chain.at) → EachStart P links → EachStart P (joined_to chain links)
  starts_joined chain [] p s = (p, tt)
  starts_joined chain (Joined rest ∷ links) p s = step rest.headless
    where
      step : (b : Bool) → EachStart P (cond b
          (Joined (record chain { next = rest.next; pieces = chain.pieces ++ rest.pieces; awaits = chain.awaits || rest.awaits; fate = rest.fate }) ∷ links)
          (Joined (record chain { fate = CutOff }) ∷ Joined rest ∷ links))
      step true = (p, s.1)
      step false = (p, s)
  starts_joined chain (Gap here next lost ∷ links) p s = (p, s)
  starts_joined chain (Stop here why may ∷ links) p s = (p, s)

  starts_piece : (piece : Piece) (next : Cursor) (headless awaits : Bool) (links : List Link) → (headless ≡ false → P piece.at)
      → EachStart P links → EachStart P (with_piece piece next headless awaits links)
  starts_piece piece next headless awaits links p s = step (piece.runs_on && not piece.fragment.dropped)
    where
      chain : Chain
      chain = record { at = piece.at; next = next; headless = headless; pieces = piece ∷ []; awaits = awaits; fate = cond piece.fragment.dropped Marked Whole }

      step : (b : Bool) → EachStart P (cond b (joined_to (record { at = piece.at; next = next; headless = headless; pieces = piece ∷ []; awaits = awaits; fate = cond piece.fragment.dropped Marked Whole }) links)
          (Joined (record { at = piece.at; next = next; headless = headless; pieces = piece ∷ []; awaits = awaits; fate = cond piece.fragment.dropped Marked Whole }) ∷ links))
      step true = starts_joined (record { at = piece.at; next = next; headless = headless; pieces = piece ∷ []; awaits = awaits; fate = cond piece.fragment.dropped Marked Whole }) links p s
      step false = (p, s)

  starts_chunk : (closed : Bool) (fragments : List Fragment) (chunk_id passed : ℕ) (chunk : Chunk) (rest : List Link)
      → ((k : ℕ) → passed ≤ k → k < passed + length fragments → (chunk.continues && (k == 0)) ≡ false → P (place chunk_id k))
      → EachStart P rest → EachStart P (chunk_links closed chunk_id chunk passed fragments rest)
  starts_chunk closed [] chunk_id passed chunk rest p s = s
  starts_chunk closed (fragment ∷ others) chunk_id passed chunk rest p s =
      stops ((chunk.awaits && is_last others) && not closed)
      (starts_chunk closed others chunk_id (suc passed) chunk rest (λ k low high. p k (omega (arith, low)) (omega (arith, high))) s)
    where
      stops : (b : Bool) → EachStart P (chunk_links closed chunk_id chunk (suc passed) others rest)
          → EachStart P (cond b
          (Stop (place chunk_id passed) Unpatched (chunk.continues && (passed == 0)) ∷ [])
          (with_piece (record { at = place chunk_id passed; fragment = fragment; runs_on = chunk.runs_on && is_last others })
          (place_behind (is_part closed chunk) chunk_id passed (is_last others)) (chunk.continues && (passed == 0)) (chunk.awaits && is_last others)
          (chunk_links closed chunk_id chunk (suc passed) others rest)))
      stops true e = tt
      stops false e = starts_piece (record { at = place chunk_id passed; fragment = fragment; runs_on = chunk.runs_on && is_last others })
          (place_behind (is_part closed chunk) chunk_id passed (is_last others)) (chunk.continues && (passed == 0)) (chunk.awaits && is_last others)
          (chunk_links closed chunk_id chunk (suc passed) others rest) (p passed (omega arith) (omega arith)) e

-- the slots are of the pages
abbrev SlotsOf : List Page → ℕ → List Slot → Type 0
SlotsOf pages chunk_id [] = Unit {0}
SlotsOf pages chunk_id (Here chunk ∷ slots) = IsOfPage pages chunk_id chunk × SlotsOf pages (suc chunk_id) slots
SlotsOf pages chunk_id (Gone ∷ slots) = SlotsOf pages (suc chunk_id) slots
SlotsOf pages chunk_id (Never ∷ slots) = SlotsOf pages (suc chunk_id) slots

length-drop_within : (count k : ℕ) (fragments : List Fragment) → k < count + length (drop count fragments) → count ≤ k → k < length fragments
length-drop_within zero k fragments high low = omega (arith, high)
length-drop_within (suc count) k [] high low = absurd (omega (arith, high, low))
length-drop_within (suc count) zero (fragment ∷ fragments) high low = absurd (omega (arith, low))
length-drop_within (suc count) (suc k) (fragment ∷ fragments) high low =
    omega (arith, length-drop_within count k fragments (omega (arith, high)) (omega (arith, low)))

starts_row : (pages : List Page) (closed : Bool) (slots : List Slot) (chunk_id passed : ℕ) → SlotsOf pages chunk_id slots
    → EachStart (IsStart pages) (row_of closed chunk_id passed slots)
starts_row pages closed [] chunk_id passed of = tt
starts_row pages closed (Here chunk ∷ slots) chunk_id passed of =
    starts_chunk (IsStart pages) closed (drop passed chunk.fragments) chunk_id passed chunk
    (cond (is_part closed chunk) (Stop (place chunk_id (max passed (length chunk.fragments))) Partial false ∷ []) (row_of closed (suc chunk_id) 0 slots))
    (λ k low high begins. start_in pages chunk_id k chunk of.0 (length-drop_within passed k chunk.fragments high low) begins)
    (rest (is_part closed chunk) (starts_row pages closed slots (suc chunk_id) 0 of.1))
  where
    rest : (b : Bool) → EachStart (IsStart pages) (row_of closed (suc chunk_id) 0 slots)
        → EachStart (IsStart pages) (cond b (Stop (place chunk_id (max passed (length chunk.fragments))) Partial false ∷ []) (row_of closed (suc chunk_id) 0 slots))
    rest true s = tt
    rest false s = s
starts_row pages closed (Gone ∷ slots) chunk_id passed of = starts_row pages closed slots (suc chunk_id) 0 of
starts_row pages true (Never ∷ slots) chunk_id passed of = starts_row pages true slots (suc chunk_id) 0 of
starts_row pages false (Never ∷ slots) chunk_id passed of = tt

-- Reads

-- what is fixed stands at starts
abbrev pub AtStarts : List Page → List Fixed → Type 0
AtStarts pages fixed = Each (λ (f : Fixed). IsStart pages f.at) fixed

starts_turn : (pages : List Page) (at : Cursor) (fate : Fate) (headless spoilt : Bool) → (headless ≡ false → IsStart pages at)
    → AtStarts pages (fixed_by_turn at (turn_by fate headless spoilt))
starts_turn pages at Open headless spoilt p = tt
starts_turn pages at Whole true spoilt p = tt
starts_turn pages at Whole false true p = (p refl, tt)
starts_turn pages at Whole false false p = (p refl, tt)
starts_turn pages at Marked true spoilt p = tt
starts_turn pages at Marked false spoilt p = (p refl, tt)
starts_turn pages at IntoLost true spoilt p = tt
starts_turn pages at IntoLost false spoilt p = (p refl, tt)
starts_turn pages at CutOff true spoilt p = tt
starts_turn pages at CutOff false spoilt p = (p refl, tt)

starts_passed : (pages : List Page) (links : List Link) (limit : ℕ) → EachStart (IsStart pages) links
    → AtStarts pages (flat_map fixed_by_link (passed_by limit links))
starts_passed pages [] limit s = tt
starts_passed pages (Stop at why may ∷ links) limit s = tt
starts_passed pages (Gap at next lost ∷ links) limit s = starts_passed pages links (limit - 0) s
starts_passed pages (Joined chain ∷ links) limit s =
    step (ends (turn_of (Joined chain)) || (delivers (turn_of (Joined chain)) && (limit == 0)))
    (starts_passed pages links (limit - one_if (delivers (turn_of (Joined chain)))) s.1)
  where
    step : (b : Bool) → AtStarts pages (flat_map fixed_by_link (passed_by (limit - one_if (delivers (turn_of (Joined chain)))) links))
        → AtStarts pages (flat_map fixed_by_link (cond b [] (Joined chain ∷ passed_by (limit - one_if (delivers (turn_of (Joined chain)))) links)))
    step true k = tt
    step false k = each-append (λ (f : Fixed). IsStart pages f.at) (fixed_by_turn chain.at (turn_of (Joined chain)))
        (flat_map fixed_by_link (passed_by (limit - one_if (delivers (turn_of (Joined chain)))) links))
        (starts_turn pages chain.at chain.fate chain.headless (is_spoilt chain) s.0) k

-- Live records

-- the records of the sequence are of the pages
abbrev pub IsRecordOf : ℕ → List Page → BufferRecord → Type 0
IsRecordOf q pages r = (r.sequence == q) ≡ true → IsOfPage pages r.chunk_id r.chunk

found_of : (q : ℕ) (pages : List Page) (chunk_id : ℕ) (rs : List BufferRecord) (r : BufferRecord) → Each (IsRecordOf q pages) rs
    → find (is_of q chunk_id) rs ≡ Some r → IsOfPage pages chunk_id r.chunk
found_of q pages chunk_id [] r all found = absurd (cc)
found_of q pages chunk_id (t ∷ rs) r all found = step (is_of q chunk_id t) refl found (found_of q pages chunk_id rs r all.1)
  where
    step : (b : Bool) → is_of q chunk_id t ≡ b → cond b (Some t) (find (is_of q chunk_id) rs) ≡ Some r
        → (find (is_of q chunk_id) rs ≡ Some r → IsOfPage pages chunk_id r.chunk) → IsOfPage pages chunk_id r.chunk
    step true e f k =
        let parts = and_parts (t.sequence == q) (t.chunk_id == chunk_id) e in
        let same : t ≡ r = cc in
        subst (λ (x : BufferRecord). IsOfPage pages chunk_id x.chunk) same
        (subst (λ (n : ℕ). IsOfPage pages n t.chunk) (eqb-true t.chunk_id chunk_id parts.1) (all.0 parts.0))
    step false e f k = k f

slots_of_pages : (b : Buffer) (s : Sequence) (pages : List Page) (count chunk_id : ℕ) → Each (IsRecordOf s.number pages) b.live
    → SlotsOf pages chunk_id (slots_of b s chunk_id count)
slots_of_pages b s pages zero chunk_id all = tt
slots_of_pages b s pages (suc count) chunk_id all =
    step (live_at b s.number chunk_id) refl (has_arrived s chunk_id || is_among chunk_id s.final) (slots_of_pages b s pages count (suc chunk_id) all)
  where
    step : (o : Option BufferRecord) → live_at b s.number chunk_id ≡ o → (known : Bool) → SlotsOf pages (suc chunk_id) (slots_of b s (suc chunk_id) count)
        → SlotsOf pages chunk_id (slot_from o known ∷ slots_of b s (suc chunk_id) count)
    step (Some r) e known h = (found_of s.number pages chunk_id b.live r all e, h)
    step None e true h = h
    step None e false h = h

starts_read : (b : Buffer) (s : Sequence) (pages : List Page) (limit : ℕ) → Each (IsRecordOf s.number pages) b.live
    → AtStarts pages (flat_map fixed_by_link (passed_by limit (row_from_cursor b s)))
starts_read b s pages limit all =
    starts_passed pages (row_from_cursor b s) limit
    (starts_row pages s.closed (slots_of b s s.cursor.chunk_id (horizon s - s.cursor.chunk_id)) s.cursor.chunk_id s.cursor.passed
    (slots_of_pages b s pages (horizon s - s.cursor.chunk_id) s.cursor.chunk_id all))

-- Losses

starts_places : (pages : List Page) (chunk_id : ℕ) (chunk : Chunk) → IsOfPage pages chunk_id chunk → (count passed : ℕ) → passed + count ≤ length chunk.fragments
    → AtStarts pages (map lost_at (starts_among chunk (places_from chunk_id passed count)))
starts_places pages chunk_id chunk of zero passed within = tt
starts_places pages chunk_id chunk of (suc count) passed within =
    step (chunk.continues && (passed == 0)) refl (starts_places pages chunk_id chunk of count (suc passed) (omega (arith, within)))
  where
    step : (b : Bool) → (chunk.continues && (passed == 0)) ≡ b → AtStarts pages (map lost_at (starts_among chunk (places_from chunk_id (suc passed) count)))
        → AtStarts pages (map lost_at (cond (not b) (place chunk_id passed ∷ starts_among chunk (places_from chunk_id (suc passed) count)) (starts_among chunk (places_from chunk_id (suc passed) count))))
    step true e k = k
    step false e k = (start_in pages chunk_id passed chunk of (omega (arith, within)) e, k)

starts_unread : (pages : List Page) (s : Sequence) (chunk_id : ℕ) (chunk : Chunk) → IsOfPage pages chunk_id chunk
    → AtStarts pages (map lost_at (unread_start_places s chunk_id chunk))
starts_unread pages s chunk_id chunk of =
    let count : ℕ = length chunk.fragments in
    let unread : ℕ = unread_of s chunk_id count in
    starts_places pages chunk_id chunk of unread (count - unread) (omega (arith, most s chunk_id count))
  where
    most : (s : Sequence) (chunk_id count : ℕ) → unread_of s chunk_id count ≤ count
    most s chunk_id count = step (nat_lt chunk_id s.cursor.chunk_id) (chunk_id == s.cursor.chunk_id)
      where
        step : (a b : Bool) → cond a 0 (cond b (count - s.cursor.passed) count) ≤ count
        step true b = omega arith
        step false true = omega arith
        step false false = omega arith

starts_loss : (pages : List Page) (s : Sequence) (r : BufferRecord) → IsRecordOf s.number pages r → AtStarts pages (fixed_by_loss s r)
starts_loss pages s r of = step (is_loss_of s r) refl
  where
    step : (b : Bool) → is_loss_of s r ≡ b → AtStarts pages (cond b (map lost_at (unread_start_places s r.chunk_id r.chunk)) [])
    step true e = starts_unread pages s r.chunk_id r.chunk (of (and_parts (r.sequence == s.number) (not (r.chunk.partial && not s.closed)) e).0)
    step false e = tt

starts_losses : (pages : List Page) (s : Sequence) (test : BufferRecord → Bool) (rs : List BufferRecord) → Each (IsRecordOf s.number pages) rs
    → AtStarts pages (flat_map (fixed_by_loss s) (filter test rs))
starts_losses pages s test [] all = tt
starts_losses pages s test (r ∷ rs) all = step (test r) (starts_losses pages s test rs all.1)
  where
    step : (b : Bool) → AtStarts pages (flat_map (fixed_by_loss s) (filter test rs)) → AtStarts pages (flat_map (fixed_by_loss s) (cond b (r ∷ filter test rs) (filter test rs)))
    step true k = each-append (λ (f : Fixed). IsStart pages f.at) (fixed_by_loss s r) (flat_map (fixed_by_loss s) (filter test rs)) (starts_loss pages s r all.0) k
    step false k = k

-- Changes of live records

same_number : (ss : List Sequence) (q : ℕ) → (sequence_in ss q).number ≡ q
same_number [] q = refl
same_number (s ∷ ss) q = step (s.number == q) refl (same_number ss q)
  where
    step : (b : Bool) → (s.number == q) ≡ b → (sequence_in ss q).number ≡ q → (cond b s (sequence_in ss q)).number ≡ q
    step true e k = eqb-true s.number q e
    step false e k = k

live_patch : (q : ℕ) (pages : List Page) (b : Buffer) (p : ℕ) (patch : Patch) → Each (IsRecordOf q pages) b.live → Each (IsRecordOf q pages) (with_patch b p patch).live
live_patch q pages b p patch all =
    each-map (IsRecordOf q pages) (IsRecordOf q pages)
    (λ r. cond (awaits_at p patch.chunk_id r && last_holds r.chunk.fragments patch)
    (record r { chunk = record r.chunk { awaits = not patch.last; fragments = patched_last patch r.chunk.fragments } }) r)
    (λ r of. step (awaits_at p patch.chunk_id r && last_holds r.chunk.fragments patch) r of) b.live all
  where
    step : (x : Bool) (r : BufferRecord) → IsRecordOf q pages r
        → IsRecordOf q pages (cond x (record r { chunk = record r.chunk { awaits = not patch.last; fragments = patched_last patch r.chunk.fragments } }) r)
    step true r of = λ mine.
        let was : IsOfPage pages r.chunk_id r.chunk = of mine in
        record { page = was.page; there = was.there; continues = was.continues; no_more = omega (arith, same_long r.chunk.fragments patch, was.no_more) }
    step false r of = of

live_patches : (patches : List Patch) (q : ℕ) (pages : List Page) (b : Buffer) (p : ℕ) → Each (IsRecordOf q pages) b.live → Each (IsRecordOf q pages) (with_patches b p patches).live
live_patches [] q pages b p all = all
live_patches (patch ∷ patches) q pages b p all = live_patches patches q pages (with_patch b p patch) p (live_patch q pages b p patch all)

live_rewritten : (q : ℕ) (pages : List Page) (b : Buffer) (p chunk_id : ℕ) (chunk : Chunk) → (p ≡ q → IsOfPage pages chunk_id chunk)
    → Each (IsRecordOf q pages) b.live → Each (IsRecordOf q pages) (with_rewritten b p chunk_id chunk).live
live_rewritten q pages b p chunk_id chunk of all =
    each-map (IsRecordOf q pages) (IsRecordOf q pages) (λ r. cond (is_of p chunk_id r) (record r { chunk = chunk }) r)
    (λ r was. step (is_of p chunk_id r) r refl was) b.live all
  where
    step : (x : Bool) (r : BufferRecord) → is_of p chunk_id r ≡ x → IsRecordOf q pages r → IsRecordOf q pages (cond x (record r { chunk = chunk }) r)
    step true r e was = λ mine.
        let parts = and_parts (r.sequence == p) (r.chunk_id == chunk_id) e in
        subst (λ (n : ℕ). IsOfPage pages n chunk) (sym (eqb-true r.chunk_id chunk_id parts.1))
        (of (sym (eqb-true r.sequence p parts.0) ∙ eqb-true r.sequence q mine))
    step false r e was = was

live_settled : (outcome : Arrived) (q : ℕ) (pages : List Page) (b : Buffer) (p chunk_id : ℕ) (chunk : Chunk) → (p ≡ q → IsOfPage pages chunk_id chunk)
    → Each (IsRecordOf q pages) b.live → Each (IsRecordOf q pages) (settled outcome b p chunk_id chunk).live
live_settled Kept q pages b p chunk_id chunk of all =
    each-append (IsRecordOf q pages) (filter (λ r. not (meets b (sequence_in b.sequences p).size r)) b.live) _
    (each-filter (IsRecordOf q pages) (λ r. not (meets b (sequence_in b.sequences p).size r)) b.live all)
    ((λ mine. of (eqb-true p q mine)), tt)
live_settled Rewritten q pages b p chunk_id chunk of all = live_rewritten q pages b p chunk_id chunk of all
live_settled Discarded q pages b p chunk_id chunk of all = step chunk.partial
  where
    step : (x : Bool) → Each (IsRecordOf q pages) (cond x (record b { shut = true }) (discarded_buffer b p chunk_id chunk)).live
    step true = all
    step false = all
live_settled Duplicate q pages b p chunk_id chunk of all = all
live_settled TooFar q pages b p chunk_id chunk of all = all
live_settled (BadChunk fragment) q pages b p chunk_id chunk of all = all

-- the chunk as it is kept
as_complete : (pages : List Page) (chunk_id : ℕ) (chunk : Chunk) → IsOfPage pages chunk_id chunk → IsOfPage pages chunk_id (complete_chunk chunk)
as_complete pages chunk_id chunk of = record { page = of.page; there = of.there; continues = of.continues; no_more = of.no_more }

as_partial : (pages : List Page) (chunk_id : ℕ) (chunk : Chunk) → IsOfPage pages chunk_id chunk → IsOfPage pages chunk_id (partial_chunk chunk)
as_partial pages chunk_id chunk of = record { page = of.page; there = of.there; continues = of.continues; no_more = of.no_more }

live_arrival : (q : ℕ) (pages : List Page) (b : Buffer) (p chunk_id : ℕ) (chunk : Chunk) → (p ≡ q → IsOfPage pages chunk_id chunk)
    → Each (IsRecordOf q pages) b.live → Each (IsRecordOf q pages) (with_arrival b p chunk_id chunk).live
live_arrival q pages b p chunk_id chunk of all =
    live_settled (arrival_of b p chunk_id) q pages b p chunk_id (complete_chunk chunk) (λ e. as_complete pages chunk_id chunk (of e)) all

live_read_image : (q : ℕ) (pages : List Page) (b : Buffer) (p chunk_id flags : ℕ) (reading : Reading)
    → (p ≡ q → (fragments : List Fragment) → reading ≡ Fragments fragments → IsOfPage pages chunk_id (whole_chunk flags fragments))
    → Each (IsRecordOf q pages) b.live → Each (IsRecordOf q pages) (once_read b (with_arrival b p chunk_id) flags reading).live
live_read_image q pages b p chunk_id flags (Fragments fragments) of all = live_arrival q pages b p chunk_id (whole_chunk flags fragments) (λ e. of e fragments refl) all
live_read_image q pages b p chunk_id flags (Unreadable number) of all = all

live_closed : (x : Bool) (q : ℕ) (pages : List Page) (b : Buffer) (p : ℕ) → Each (IsRecordOf q pages) b.live → Each (IsRecordOf q pages) (cond x b (closed_buffer b p)).live
live_closed true q pages b p all = all
live_closed false q pages b p all = all

-- What an arrival fixes

starts_arrival : (outcome : Arrived) (q : ℕ) (pages : List Page) (b : Buffer) (p : ℕ) (partial : Bool) (chunk_id : ℕ) (chunk : Chunk)
    → (p ≡ q → IsOfPage pages chunk_id chunk) → Each (IsRecordOf q pages) b.live
    → AtStarts pages (fixed_by_arrival b (sequence_in b.sequences q) (sequence_in b.sequences p) outcome partial chunk_id chunk)
starts_arrival Kept q pages b p partial chunk_id chunk of all =
    starts_losses pages (sequence_in b.sequences q) (meets b (sequence_in b.sequences p).size) b.live
    (subst (λ (n : ℕ). Each (IsRecordOf n pages) b.live) (sym (same_number b.sequences q)) all)
starts_arrival Discarded q pages b p partial chunk_id chunk of all = step (((sequence_in b.sequences q).number == (sequence_in b.sequences p).number) && not partial) refl
  where
    step : (x : Bool) → (((sequence_in b.sequences q).number == (sequence_in b.sequences p).number) && not partial) ≡ x
        → AtStarts pages (cond x (map lost_at (unread_start_places (sequence_in b.sequences q) chunk_id chunk)) [])
    step true e =
        let same = and_parts ((sequence_in b.sequences q).number == (sequence_in b.sequences p).number) (not partial) e in
        starts_unread pages (sequence_in b.sequences q) chunk_id chunk
        (of (sym (same_number b.sequences p) ∙ sym (eqb-true (sequence_in b.sequences q).number (sequence_in b.sequences p).number same.0) ∙ same_number b.sequences q))
    step false e = tt
starts_arrival Rewritten q pages b p partial chunk_id chunk of all = tt
starts_arrival Duplicate q pages b p partial chunk_id chunk of all = tt
starts_arrival TooFar q pages b p partial chunk_id chunk of all = tt
starts_arrival (BadChunk fragment) q pages b p partial chunk_id chunk of all = tt

starts_image : (q : ℕ) (pages : List Page) (b : Buffer) (p chunk_id flags : ℕ) (reading : Reading)
    → (p ≡ q → (fragments : List Fragment) → reading ≡ Fragments fragments → IsOfPage pages chunk_id (whole_chunk flags fragments))
    → Each (IsRecordOf q pages) b.live
    → AtStarts pages (fixed_once_read b (sequence_in b.sequences q) p chunk_id flags reading)
starts_image q pages b p chunk_id flags (Fragments fragments) of all =
    starts_arrival (arrival_of b p chunk_id) q pages b p false chunk_id (whole_chunk flags fragments) (λ e. of e fragments refl) all
starts_image q pages b p chunk_id flags (Unreadable number) of all = tt

-- Events

-- what an event fixes, and what it leaves
record Goes (q : ℕ) (pages : List Page) (old new : Buffer) (fixed : List Fixed) : Type 0 where
  fixes : AtStarts pages fixed
  live : Each (IsRecordOf q pages) new.live

event_goes : (q : ℕ) (pages : List Page) (b : Buffer) (event : Event) (events : List Event) → ArePagesOf q pages (event ∷ events) → Each (IsRecordOf q pages) b.live
    → Goes q pages b (after b event) (fixed_by b (sequence_in b.sequences q) event)
event_goes q pages b (Arrives p chunk_id chunk) events are all = record {
  fixes = starts_arrival (arrival_of b p chunk_id) q pages b p false chunk_id chunk are.0 all;
  live = live_arrival q pages b p chunk_id chunk are.0 all;
}
event_goes q pages b (ArrivesInPart p chunk_id chunk) events are all = record {
  fixes = starts_arrival (partial_arrival_of b p chunk_id (length chunk.fragments)) q pages b p true chunk_id chunk are.0 all;
  live = live_settled (partial_arrival_of b p chunk_id (length chunk.fragments)) q pages b p chunk_id (partial_chunk chunk) (λ e. as_partial pages chunk_id chunk (are.0 e)) all;
}
event_goes q pages b (Patched p patches) events are all = record { fixes = tt; live = live_patches patches q pages b p all }
event_goes q pages b (Committed image patches) events are all = record {
  fixes = starts_image q pages b image.sequence image.chunk_id image.flags (reading_of image.count image.payload) are.0 all;
  live = live_patches patches q pages (with_image b image) image.sequence
      (live_read_image q pages b image.sequence image.chunk_id image.flags (reading_of image.count image.payload) are.0 all);
}
event_goes q pages b (Closed p) events are all = record { fixes = tt; live = live_closed (sequence_in b.sequences p).closed q pages b p all }
event_goes q pages b (Read p limit) events are all = record { fixes = step (p == (sequence_in b.sequences q).number); live = all }
  where
    step : (x : Bool) → AtStarts pages (cond x (flat_map fixed_by_link (passed_by limit (row_from_cursor b (sequence_in b.sequences q)))) [])
    step true = starts_read b (sequence_in b.sequences q) pages limit (subst (λ (n : ℕ). Each (IsRecordOf n pages) b.live) (sym (same_number b.sequences q)) all)
    step false = tt

later_pages : (q : ℕ) (pages : List Page) (event : Event) (events : List Event) → ArePagesOf q pages (event ∷ events) → ArePagesOf q pages events
later_pages q pages (Arrives p chunk_id chunk) events are = are.1
later_pages q pages (ArrivesInPart p chunk_id chunk) events are = are.1
later_pages q pages (Patched p patches) events are = are
later_pages q pages (Committed image patches) events are = are.1
later_pages q pages (Closed p) events are = are
later_pages q pages (Read p limit) events are = are

-- a history fixes starts alone
pub starts_after : (events : List Event) (q : ℕ) (pages : List Page) (b : Buffer) → ArePagesOf q pages events → Each (IsRecordOf q pages) b.live
    → AtStarts pages (fixed_after q b events)
starts_after [] q pages b are all = tt
starts_after (event ∷ events) q pages b are all =
    step (is_known b.sequences (event_sequence event)) (event_goes q pages b event events are all) (λ c live. starts_after events q pages c (later_pages q pages event events are) live)
  where
    step : (x : Bool) → Goes q pages b (after b event) (fixed_by b (sequence_in b.sequences q) event)
        → ((c : Buffer) → Each (IsRecordOf q pages) c.live → AtStarts pages (fixed_after q c events))
        → AtStarts pages (cond x (fixed_by b (sequence_in b.sequences q) event) [] ++ fixed_after q (cond x (after b event) b) events)
    step true goes rest =
        each-append (λ (f : Fixed). IsStart pages f.at) (fixed_by b (sequence_in b.sequences q) event) (fixed_after q (after b event) events) goes.fixes (rest (after b event) goes.live)
    step false goes rest = rest b all
