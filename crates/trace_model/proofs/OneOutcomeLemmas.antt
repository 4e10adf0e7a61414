-- No history fixes the outcome of a packet twice.
use Rattle.std.proofs.Common.{◌≡◌, ◌∙◌, ℕ, zero, suc, ◌-◌, Bool, true, false, not, ◌&&◌, ◌||◌, List, [], ◌∷◌, ◌++◌, length, refl, sym, ap, subst, inl, inr}
use Rattle.std.specs.Prelude.{cond, ◌⊎◌, ◌==◌, find, Option, Some, None, is_some}
use Rattle.std.specs.List.{flat_map}
use Rattle.std.proofs.lemmas.Bool.{cases_eq, and_parts, eqb-true, eq-eqb, ne_eqb, false≢true}
use Rattle.std.proofs.Math.Bool.{or-false, or-true}
use Rattle.trace_model.specs.Images.{Patch, whole_chunk, last_holds}
use Rattle.trace_model.specs.Reading.{Reading, Fragments, Unreadable, reading_of}
use Rattle.trace_model.specs.Sequences.{Cursor, Sequence, has_arrived, sequence_in, is_known, is_among}
use Rattle.trace_model.specs.Buffers.{Buffer, BufferRecord, is_of, live_at, empty_buffer}
use Rattle.trace_model.specs.Arrivals.{arrival_of, partial_arrival_of, with_arrival, once_read, with_image}
use Rattle.trace_model.specs.Patches.{with_patch, with_patches, awaits_at, patched_chunk, closed_sequence, closed_buffer, with_close}
use Rattle.trace_model.specs.Row.{slot_from, slots_of, horizon, Link, row_from_cursor}
use Rattle.trace_model.specs.Reads.{passed_by, cursor_after, sequence_after, with_read}
use Rattle.trace_model.specs.History.{Event, Arrives, ArrivesInPart, Patched, Committed, Closed, Read, event_sequence, after, buffer_after}
use Rattle.trace_model.specs.Causes.{Fixed, is_same_place, fixed_by_link, fixed_once_read, fixed_by, fixed_after}
use Rattle.trace_model.specs.CauseLaws.{AreDistinct, is_arrival_of, is_close_of, closes_last, PacketsHaveOneOutcome}
use Rattle.trace_model.specs.RowLaws.{Before}
use Rattle.trace_model.proofs.CursorLemmas.{Each, each-append, each-then, same_up_to, Apart, AllApart, distinct-append}
use Rattle.trace_model.proofs.RowPlaceLemmas.{Stands, EachHere, stands_row}
use Rattle.trace_model.proofs.ReadPlaceLemmas.{Within, AreWithin, reads_within}
use Rattle.trace_model.proofs.SequenceLemmas.{number_of, changed_here, changed_other, known_changed}
use Rattle.trace_model.proofs.FixedLemmas.{Later, later_same, IsFixed, fixed_later, IsNew, new_apart, Holds, Steps, steps_none, holds_mapped, holds_turned}
use Rattle.trace_model.proofs.OutcomeLemmas.{arrival_facts, partial_facts, complete_steps, partial_steps}

-- Patches

patched_same : (patch : Patch) (test : Bool) (r : BufferRecord) → ((cond test (record r { chunk = patched_chunk patch r.chunk }) r).sequence ≡ r.sequence)
    × ((cond test (record r { chunk = patched_chunk patch r.chunk }) r).chunk_id ≡ r.chunk_id)
patched_same patch true r = (refl, refl)
patched_same patch false r = (refl, refl)

patched_comes : (q : ℕ) (s : Sequence) (patch : Patch) (test : Bool) (r : BufferRecord) → ((r.sequence == q) ≡ true → r.chunk.partial ≡ false → has_arrived s r.chunk_id ≡ true)
    → ((cond test (record r { chunk = patched_chunk patch r.chunk }) r).sequence == q) ≡ true
    → (cond test (record r { chunk = patched_chunk patch r.chunk }) r).chunk.partial ≡ false
    → has_arrived s (cond test (record r { chunk = patched_chunk patch r.chunk }) r).chunk_id ≡ true
patched_comes q s patch true r h e p = h e p
patched_comes q s patch false r h e p = h e p

holds_patched : (patches : List Patch) (q : ℕ) (closed : Bool) (b : Buffer) (p : ℕ) (fixed : List Fixed) → Holds q closed b.sequences b.live fixed
    → Holds q closed (with_patches b p patches).sequences (with_patches b p patches).live fixed
holds_patched [] q closed b p fixed h = h
holds_patched (patch ∷ patches) q closed b p fixed h =
    holds_patched patches q closed (with_patch b p patch) p fixed
    (holds_mapped q closed b.sequences b.sequences b.live fixed
    (λ (r : BufferRecord). cond (awaits_at p patch.chunk_id r && last_holds r.chunk.fragments patch) (record r { chunk = patched_chunk patch r.chunk }) r)
    (λ r. patched_same patch (awaits_at p patch.chunk_id r && last_holds r.chunk.fragments patch) r)
    (record { known = h.known; later = later_same (sequence_in b.sequences q); closed = refl })
    (λ r. patched_comes q (sequence_in b.sequences q) patch (awaits_at p patch.chunk_id r && last_holds r.chunk.fragments patch) r) h)

steps_patched : (patches : List Patch) (q : ℕ) (closed : Bool) (b : Buffer) (p : ℕ) (old new : List Fixed) → Steps q closed b.sequences b.live old new
    → Steps q closed (with_patches b p patches).sequences (with_patches b p patches).live old new
steps_patched patches q closed b p old new h =
    record { holds = holds_patched patches q closed b p (new ++ old) h.holds; apart = h.apart; distinct = h.distinct }

-- Closing

later_closed : (live : List BufferRecord) (s : Sequence) → Later s (closed_sequence live s)
later_closed live s = record { cursor = same_up_to s.cursor; arrived = λ i h. h; closed = λ h. refl }

holds_closing : (q p : ℕ) (closed : Bool) (b : Buffer) (fixed : List Fixed) → Holds q closed b.sequences b.live fixed
    → Holds q (closed || (p == q)) (closed_buffer b p).sequences (closed_buffer b p).live fixed
holds_closing q p closed b fixed h = step (cases_eq p q)
  where
    step : ((p ≡ q) ⊎ (p ≡ q → ⊥)) → Holds q (closed || (p == q)) (closed_buffer b p).sequences (closed_buffer b p).live fixed
    step (inr d) =
        let same : sequence_in (closed_buffer b p).sequences q ≡ sequence_in b.sequences q =
        changed_other p q (closed_sequence b.live) (λ s. refl) b.sequences h.known d in
        subst (λ (x : Bool). Holds q x (closed_buffer b p).sequences b.live fixed) (sym (ap (λ (x : Bool). closed || x) (ne_eqb p q d) ∙ or-false closed))
        (holds_turned q closed b.sequences (closed_buffer b p).sequences b.live fixed
        (record {
          known = known_changed p q (closed_sequence b.live) (λ s. refl) b.sequences ∙ h.known;
          later = subst (λ (t : Sequence). Later (sequence_in b.sequences q) t) (sym same) (later_same (sequence_in b.sequences q));
          closed = ap (λ (t : Sequence). t.closed) same;
        }) h)
    step (inl e) =
        let same : sequence_in (closed_buffer b p).sequences q ≡ closed_sequence b.live (sequence_in b.sequences q) =
        subst (λ (n : ℕ). sequence_in (closed_buffer b n).sequences q ≡ closed_sequence b.live (sequence_in b.sequences q)) (sym e)
        (changed_here q (closed_sequence b.live) (λ s. refl) b.sequences h.known) in
        let later : Later (sequence_in b.sequences q) (sequence_in (closed_buffer b p).sequences q) =
        subst (λ (t : Sequence). Later (sequence_in b.sequences q) t) (sym same) (later_closed b.live (sequence_in b.sequences q)) in
        record {
          known = known_changed p q (closed_sequence b.live) (λ s. refl) b.sequences ∙ h.known;
          once = h.once;
          come = each-then (λ (r : BufferRecord). (r.sequence == q) ≡ true → r.chunk.partial ≡ false → has_arrived (sequence_in b.sequences q) r.chunk_id ≡ true)
              (λ (r : BufferRecord). (r.sequence == q) ≡ true → r.chunk.partial ≡ false → has_arrived (sequence_in (closed_buffer b p).sequences q) r.chunk_id ≡ true)
              (λ r k e p. later.arrived r.chunk_id (k e p)) b.live h.come;
          shut = ap (λ (t : Sequence). t.closed) same ∙ sym (ap (λ (x : Bool). closed || x) (eq-eqb p q e) ∙ or-true closed);
          before = each-then (IsFixed q (sequence_in b.sequences q) b.live) (IsFixed q (sequence_in (closed_buffer b p).sequences q) b.live)
              (λ f k. fixed_later q (sequence_in b.sequences q) (sequence_in (closed_buffer b p).sequences q) b.live b.live f later (λ i n e. n) k) fixed h.before;
        }

holds_closed : (q p : ℕ) (closed : Bool) (b : Buffer) (fixed : List Fixed) → Holds q closed b.sequences b.live fixed
    → Holds q (closed || (p == q)) (with_close b p).sequences (with_close b p).live fixed
holds_closed q p closed b fixed h = step (sequence_in b.sequences p).closed refl
  where
    same : (p == q) ≡ true → (sequence_in b.sequences p).closed ≡ true → closed ≡ true
    same e is = sym h.shut ∙ subst (λ (n : ℕ). (sequence_in b.sequences n).closed ≡ true) (eqb-true p q e) is

    stays : (x : Bool) → (x ≡ true → closed ≡ true) → (closed || x) ≡ closed
    stays true k = or-true closed ∙ sym (k refl)
    stays false k = or-false closed

    step : (x : Bool) → (sequence_in b.sequences p).closed ≡ x
        → Holds q (closed || (p == q)) (cond x b (closed_buffer b p)).sequences (cond x b (closed_buffer b p)).live fixed
    step true is = subst (λ (x : Bool). Holds q x b.sequences b.live fixed) (sym (stays (p == q) (λ e. same e is))) h
    step false is = holds_closing q p closed b fixed h

-- Reads

-- the chunk has a live record
abbrev IsThere : Buffer → ℕ → ℕ → Type 0
IsThere b q chunk_id = is_some (live_at b q chunk_id) ≡ true

slots_there : (b : Buffer) (s : Sequence) (closed : Bool) (count chunk_id : ℕ) → EachHere (IsThere b s.number) closed chunk_id (slots_of b s chunk_id count)
slots_there b s closed zero chunk_id = tt
slots_there b s closed (suc count) chunk_id =
    step (live_at b s.number chunk_id) refl (has_arrived s chunk_id || is_among chunk_id s.final) (slots_there b s closed count (suc chunk_id))
  where
    step : (o : Option BufferRecord) → live_at b s.number chunk_id ≡ o → (known : Bool) → EachHere (IsThere b s.number) closed (suc chunk_id) (slots_of b s (suc chunk_id) count)
        → EachHere (IsThere b s.number) closed chunk_id (slot_from o known ∷ slots_of b s (suc chunk_id) count)
    step (Some r) e known h = (ap is_some e, h)
    step None e true h = h
    step None e false h = h

none_isnt_there : (test : BufferRecord → Bool) (rs : List BufferRecord) → Each (λ r. test r ≡ false) rs → is_some (find test rs) ≡ false
none_isnt_there test [] h = refl
none_isnt_there test (r ∷ rs) h = step (test r) h.0 (none_isnt_there test rs h.1)
  where
    step : (x : Bool) → x ≡ false → is_some (find test rs) ≡ false → is_some (cond x (Some r) (find test rs)) ≡ false
    step true e k = absurd (false≢true (sym e))
    step false e k = k

read_own : (q : ℕ) (closed : Bool) (b : Buffer) (old : List Fixed) (limit : ℕ) → Holds q closed b.sequences b.live old
    → Steps q closed (with_read b q limit).sequences b.live old
    (flat_map fixed_by_link (passed_by limit (row_from_cursor b (sequence_in b.sequences q))))
read_own q closed b old limit h =
    let s : Sequence = sequence_in b.sequences q in
    let links : List Link = passed_by limit (row_from_cursor b s) in
    let number : s.number ≡ q = number_of b.sequences q h.known in
    let given : List Fixed = flat_map fixed_by_link links in
    let to : Cursor = cursor_after s.cursor links in
    let stands : Stands (IsThere b s.number) s.cursor (row_from_cursor b s) =
    stands_row (IsThere b s.number) s.closed (slots_of b s s.cursor.chunk_id (horizon s - s.cursor.chunk_id)) s.cursor.chunk_id s.cursor.passed
    (slots_there b s s.closed (horizon s - s.cursor.chunk_id) s.cursor.chunk_id) in
    let are : AreWithin (IsThere b s.number) s.cursor to given = reads_within (IsThere b s.number) (row_from_cursor b s) limit s.cursor stands in
    let same : sequence_in (with_read b q limit).sequences q ≡ sequence_after links s = changed_here q (sequence_after links) (λ t. refl) b.sequences h.known in
    let later : Later s (sequence_in (with_read b q limit).sequences q) =
    subst (λ (t : Sequence). Later s t) (sym same) (record { cursor = are.onward; arrived = λ i a. a; closed = λ c. c }) in
    let goes : Holds q closed (with_read b q limit).sequences b.live old = holds_turned q closed b.sequences (with_read b q limit).sequences b.live old
    (record {
      known = known_changed q q (sequence_after links) (λ t. refl) b.sequences ∙ h.known;
      later = later;
      closed = ap (λ (t : Sequence). t.closed) same;
    }) h in
    record {
      holds = record {
        known = goes.known;
        once = goes.once;
        come = goes.come;
        shut = goes.shut;
        before = each-append (IsFixed q (sequence_in (with_read b q limit).sequences q) b.live) given old
            (each-then (Within (IsThere b s.number) s.cursor to) (IsFixed q (sequence_in (with_read b q limit).sequences q) b.live)
            (λ f w. inl (subst (λ (t : Sequence). Before f.at t.cursor) (sym same) w.before)) given are.each)
            goes.before;
      };
      apart = new_apart q s b.live old given h.before
          (each-then (Within (IsThere b s.number) s.cursor to) (IsNew q s b.live)
          (λ f w. (
            w.behind,
            λ none finished. false≢true (sym (none_isnt_there (is_of q f.at.chunk_id) b.live none)
                ∙ subst (λ (n : ℕ). is_some (live_at b n f.at.chunk_id) ≡ true) number w.there),
          )) given are.each);
      distinct = are.distinct;
    }

read_steps : (q p : ℕ) (closed : Bool) (b : Buffer) (old : List Fixed) (limit : ℕ) → Holds q closed b.sequences b.live old
    → Steps q closed (with_read b p limit).sequences b.live old (fixed_by b (sequence_in b.sequences q) (Read p limit))
read_steps q p closed b old limit h = step (cases_eq p q)
  where
    step : ((p ≡ q) ⊎ (p ≡ q → ⊥)) → Steps q closed (with_read b p limit).sequences b.live old
        (cond (p == (sequence_in b.sequences q).number) (flat_map fixed_by_link (passed_by limit (row_from_cursor b (sequence_in b.sequences q)))) [])
    step (inl e) =
        subst (λ (x : Bool). Steps q closed (with_read b p limit).sequences b.live old
        (cond x (flat_map fixed_by_link (passed_by limit (row_from_cursor b (sequence_in b.sequences q)))) []))
        (sym (eq-eqb p (sequence_in b.sequences q).number (e ∙ sym (number_of b.sequences q h.known))))
        (subst (λ (n : ℕ). Steps q closed (with_read b n limit).sequences b.live old
        (flat_map fixed_by_link (passed_by limit (row_from_cursor b (sequence_in b.sequences q))))) (sym e) (read_own q closed b old limit h))
    step (inr d) =
        let links : List Link = passed_by limit (row_from_cursor b (sequence_in b.sequences p)) in
        let same : sequence_in (with_read b p limit).sequences q ≡ sequence_in b.sequences q =
        changed_other p q (sequence_after links) (λ t. refl) b.sequences h.known d in
        subst (λ (x : Bool). Steps q closed (with_read b p limit).sequences b.live old
        (cond x (flat_map fixed_by_link (passed_by limit (row_from_cursor b (sequence_in b.sequences q)))) []))
        (sym (ne_eqb p (sequence_in b.sequences q).number (λ e. d (e ∙ number_of b.sequences q h.known))))
        (steps_none q closed (with_read b p limit).sequences b.live old
        (holds_turned q closed b.sequences (with_read b p limit).sequences b.live old
        (record {
          known = known_changed p q (sequence_after links) (λ t. refl) b.sequences ∙ h.known;
          later = subst (λ (t : Sequence). Later (sequence_in b.sequences q) t) (sym same) (later_same (sequence_in b.sequences q));
          closed = ap (λ (t : Sequence). t.closed) same;
        }) h))

-- Events

-- an arrival of the sequence comes only while it is open
opened_by : (p q : ℕ) (closed : Bool) → not (closed && (p == q)) ≡ true → p ≡ q → closed ≡ false
opened_by p q true h e = absurd (false≢true (sym (ap not (eq-eqb p q e)) ∙ h))
opened_by p q false h e = refl

read_image_steps : (q p : ℕ) (closed : Bool) (b : Buffer) (old : List Fixed) (chunk_id flags : ℕ) (reading : Reading) → Holds q closed b.sequences b.live old
    → is_known b.sequences p ≡ true → (p ≡ q → closed ≡ false)
    → Steps q closed (once_read b (with_arrival b p chunk_id) flags reading).sequences (once_read b (with_arrival b p chunk_id) flags reading).live old
    (fixed_once_read b (sequence_in b.sequences q) p chunk_id flags reading)
read_image_steps q p closed b old chunk_id flags (Fragments fragments) h known opened =
    complete_steps q p closed b old h chunk_id (whole_chunk flags fragments) (arrival_of b p chunk_id) known opened (arrival_facts b p chunk_id)
read_image_steps q p closed b old chunk_id flags (Unreadable number) h known opened = steps_none q closed b.sequences b.live old h

event_steps : (q : ℕ) (closed : Bool) (b : Buffer) (old : List Fixed) (event : Event) → Holds q closed b.sequences b.live old
    → is_known b.sequences (event_sequence event) ≡ true → not (closed && is_arrival_of q event) ≡ true
    → Steps q (closed || is_close_of q event) (after b event).sequences (after b event).live old (fixed_by b (sequence_in b.sequences q) event)
event_steps q closed b old (Arrives p chunk_id chunk) h known may =
    subst (λ (x : Bool). Steps q x (after b (Arrives p chunk_id chunk)).sequences (after b (Arrives p chunk_id chunk)).live old (fixed_by b (sequence_in b.sequences q) (Arrives p chunk_id chunk)))
    (sym (or-false closed))
    (complete_steps q p closed b old h chunk_id chunk (arrival_of b p chunk_id) known (opened_by p q closed may) (arrival_facts b p chunk_id))
event_steps q closed b old (ArrivesInPart p chunk_id chunk) h known may =
    subst (λ (x : Bool). Steps q x (after b (ArrivesInPart p chunk_id chunk)).sequences (after b (ArrivesInPart p chunk_id chunk)).live old (fixed_by b (sequence_in b.sequences q) (ArrivesInPart p chunk_id chunk)))
    (sym (or-false closed))
    (partial_steps q p closed b old h chunk_id chunk (partial_arrival_of b p chunk_id (length chunk.fragments)) known (opened_by p q closed may)
    (partial_facts b p chunk_id (length chunk.fragments)))
event_steps q closed b old (Patched p patches) h known may =
    subst (λ (x : Bool). Steps q x (with_patches b p patches).sequences (with_patches b p patches).live old []) (sym (or-false closed))
    (steps_patched patches q closed b p old [] (steps_none q closed b.sequences b.live old h))
event_steps q closed b old (Committed image patches) h known may =
    subst (λ (x : Bool). Steps q x (after b (Committed image patches)).sequences (after b (Committed image patches)).live old (fixed_by b (sequence_in b.sequences q) (Committed image patches)))
    (sym (or-false closed))
    (steps_patched patches q closed (with_image b image) image.sequence old (fixed_by b (sequence_in b.sequences q) (Committed image patches))
    (read_image_steps q image.sequence closed b old image.chunk_id image.flags (reading_of image.count image.payload) h known (opened_by image.sequence q closed may)))
event_steps q closed b old (Closed p) h known may =
    steps_none q (closed || (p == q)) (with_close b p).sequences (with_close b p).live old (holds_closed q p closed b old h)
event_steps q closed b old (Read p limit) h known may =
    subst (λ (x : Bool). Steps q x (with_read b p limit).sequences b.live old (fixed_by b (sequence_in b.sequences q) (Read p limit))) (sym (or-false closed))
    (read_steps q p closed b old limit h)

-- an event of a sequence that the buffer doesn't have closes none that it has
closes_none : (q : ℕ) (b : Buffer) (event : Event) → is_known b.sequences q ≡ true → is_known b.sequences (event_sequence event) ≡ false → is_close_of q event ≡ false
closes_none q b (Arrives p chunk_id chunk) known h = refl
closes_none q b (ArrivesInPart p chunk_id chunk) known h = refl
closes_none q b (Patched p patches) known h = refl
closes_none q b (Committed image patches) known h = refl
closes_none q b (Closed p) known h = ne_eqb p q (λ e. false≢true (sym h ∙ subst (λ (n : ℕ). is_known b.sequences n ≡ true) (sym e) known))
closes_none q b (Read p limit) known h = refl

any_steps : (q : ℕ) (closed : Bool) (b : Buffer) (old : List Fixed) (event : Event) → Holds q closed b.sequences b.live old → not (closed && is_arrival_of q event) ≡ true
    → Steps q (closed || is_close_of q event) (buffer_after b event).sequences (buffer_after b event).live old
    (cond (is_known b.sequences (event_sequence event)) (fixed_by b (sequence_in b.sequences q) event) [])
any_steps q closed b old event h may = step (is_known b.sequences (event_sequence event)) refl
  where
    step : (x : Bool) → is_known b.sequences (event_sequence event) ≡ x
        → Steps q (closed || is_close_of q event) (cond x (after b event) b).sequences (cond x (after b event) b).live old (cond x (fixed_by b (sequence_in b.sequences q) event) [])
    step true e = event_steps q closed b old event h e may
    step false e = subst (λ (x : Bool). Steps q x b.sequences b.live old [])
        (sym (ap (λ (x : Bool). closed || x) (closes_none q b event h.known e) ∙ or-false closed)) (steps_none q closed b.sequences b.live old h)

-- Histories

each-first : {X : Type 0} (P : X → Type 0) (xs ys : List X) → Each P (xs ++ ys) → Each P xs
each-first P [] ys h = tt
each-first P (x ∷ xs) ys h = (h.0, each-first P xs ys h.1)

each-second : {X : Type 0} (P : X → Type 0) (xs ys : List X) → Each P (xs ++ ys) → Each P ys
each-second P [] ys h = h
each-second P (x ∷ xs) ys h = each-second P xs ys h.1

all_once : (events : List Event) (q : ℕ) (closed : Bool) (b : Buffer) (old : List Fixed) → Holds q closed b.sequences b.live old → closes_last q closed events ≡ true
    → AllApart old (fixed_after q b events) × AreDistinct (fixed_after q b events)
all_once [] q closed b old h may = (tt, tt)
all_once (event ∷ events) q closed b old h may =
    let parts = and_parts (not (closed && is_arrival_of q event)) (closes_last q (closed || is_close_of q event) events) may in
    let new : List Fixed = cond (is_known b.sequences (event_sequence event)) (fixed_by b (sequence_in b.sequences q) event) [] in
    let here : Steps q (closed || is_close_of q event) (buffer_after b event).sequences (buffer_after b event).live old new = any_steps q closed b old event h parts.0 in
    let rest : List Fixed = fixed_after q (buffer_after b event) events in
    let others : AllApart (new ++ old) rest × AreDistinct rest =
    all_once events q (closed || is_close_of q event) (buffer_after b event) (new ++ old) here.holds parts.1 in (
      each-append (λ (g : Fixed). Apart g old) new rest here.apart
          (each-then (λ (g : Fixed). Apart g (new ++ old)) (λ (g : Fixed). Apart g old) (λ g a. each-second (λ (f : Fixed). is_same_place f.at g.at ≡ false) new old a) rest others.0),
      distinct-append new rest here.distinct others.1
          (each-then (λ (g : Fixed). Apart g (new ++ old)) (λ (g : Fixed). Apart g new) (λ g a. each-first (λ (f : Fixed). is_same_place f.at g.at ≡ false) new old a) rest others.0),
    )

pub packets_have_one_outcome : PacketsHaveOneOutcome
packets_have_one_outcome room policy sequences sequence size events known start may =
    (all_once events sequence false (empty_buffer room policy sequences) []
    (record { known = known; once = tt; come = tt; shut = ap (λ (s : Sequence). s.closed) start; before = tt }) may).1
