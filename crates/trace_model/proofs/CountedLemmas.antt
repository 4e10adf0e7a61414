-- What a buffer counts of a sequence is what its history fixed of the sequence's packets.
use Rattle.std.proofs.Common.{◌≡◌, ◌∙◌, ℕ, ◌+◌, Bool, true, false, ◌&&◌, List, [], ◌∷◌, ◌++◌, map, length, refl, sym, ap, subst, arith, inl, inr}
use Rattle.std.specs.Prelude.{filter, cond, ◌⊎◌, ◌==◌, sum_by}
use Rattle.std.specs.List.{flat_map}
use Rattle.std.proofs.lemmas.Bool.{cases_eq, eq-eqb, ne_eqb}
use Rattle.std.proofs.Math.Bool.{and-false}
use Rattle.trace_model.specs.Images.{Chunk, Patch, complete_chunk, whole_chunk}
use Rattle.trace_model.specs.Counts.{raised}
use Rattle.trace_model.specs.Reading.{Reading, Fragments, Unreadable, reading_of}
use Rattle.trace_model.specs.Sequences.{Cursor, Sequence, sequence_in, is_known, changed_at, unread_starts}
use Rattle.trace_model.specs.Buffers.{Buffer, BufferRecord, meets, with_losses, packets_lost, empty_buffer}
use Rattle.trace_model.specs.Arrivals.{Arrived, Kept, Rewritten, Duplicate, Discarded, TooFar, BadChunk, arrival_of, partial_arrival_of, with_arrived, with_discarded, with_arrival, with_image, once_read}
use Rattle.trace_model.specs.Patches.{with_patch, with_patches, closed_sequence, closed_buffer, with_close}
use Rattle.trace_model.specs.Row.{Link, row_from_cursor}
use Rattle.trace_model.specs.Reads.{Turn, Delivers, Counts, Skips, Ends, Cause, Dropped, Lost, Cut, delivers, counts_under, passed_by, sequence_after, with_read}
use Rattle.trace_model.specs.History.{Event, Arrives, ArrivesInPart, Patched, Committed, Closed, Read, event_sequence, after, state_after}
use Rattle.trace_model.specs.Balance.{is_delivered, is_absent_under}
use Rattle.trace_model.specs.Causes.{Fixed, Outcome, Absent, lost_at, unread_start_places, fixed_by_loss, fixed_by_link, fixed_by_turn, fixed_by_arrival, fixed_once_read, fixed_by, fixed_after}
use Rattle.trace_model.specs.CauseLaws.{CountsAreOutcomes}
use Rattle.trace_model.proofs.SequenceLemmas.{sequence_in-map, known-map, number_of, changed_here, changed_other, known_changed}
use Rattle.trace_model.proofs.OutcomeLemmas.{complete_after, partial_after}
use Rattle.trace_model.proofs.TallyLemmas.{tally, tally-append, tally-lost, tally-losses, tally-read, length-unread}

pub raised-none : (n : ℕ) → raised n 0 ≡ n
raised-none n = omega arith

pub raised-raised : (n a b : ℕ) → raised (raised n a) b ≡ raised n (a + b)
raised-raised n a b = omega arith

-- the counts of the second state are those of the first, and what was fixed in between
record Counted (s t : Sequence) (fixed : List Fixed) : Type 0 where
  delivered : t.delivered ≡ raised s.delivered (tally is_delivered fixed)
  dropped : t.dropped ≡ raised s.dropped (tally (is_absent_under Dropped) fixed)
  lost : t.lost ≡ raised s.lost (tally (is_absent_under Lost) fixed)
  cut : t.cut ≡ raised s.cut (tally (is_absent_under Cut) fixed)

-- the second state has the counts of the first
record SameCounts (s t : Sequence) : Type 0 where
  delivered : t.delivered ≡ s.delivered
  dropped : t.dropped ≡ s.dropped
  lost : t.lost ≡ s.lost
  cut : t.cut ≡ s.cut

same_counts : (s : Sequence) → SameCounts s s
same_counts s = record { delivered = refl; dropped = refl; lost = refl; cut = refl }

counted_none : (s t : Sequence) → SameCounts s t → Counted s t []
counted_none s t h = record {
  delivered = h.delivered ∙ sym (raised-none s.delivered);
  dropped = h.dropped ∙ sym (raised-none s.dropped);
  lost = h.lost ∙ sym (raised-none s.lost);
  cut = h.cut ∙ sym (raised-none s.cut);
}

counted_same : (s t u : Sequence) (fixed : List Fixed) → Counted s t fixed → SameCounts t u → Counted s u fixed
counted_same s t u fixed h k = record {
  delivered = k.delivered ∙ h.delivered;
  dropped = k.dropped ∙ h.dropped;
  lost = k.lost ∙ h.lost;
  cut = k.cut ∙ h.cut;
}

counted_one : (test : Outcome → Bool) (n m k : ℕ) (fs gs : List Fixed) → m ≡ raised n (tally test fs) → k ≡ raised m (tally test gs) → k ≡ raised n (tally test (fs ++ gs))
counted_one test n m k fs gs h e =
    e ∙ ap (λ (x : ℕ). raised x (tally test gs)) h ∙ raised-raised n (tally test fs) (tally test gs) ∙ ap (raised n) (sym (tally-append test fs gs))

counted_both : (s t u : Sequence) (fs gs : List Fixed) → Counted s t fs → Counted t u gs → Counted s u (fs ++ gs)
counted_both s t u fs gs h k = record {
  delivered = counted_one is_delivered s.delivered t.delivered u.delivered fs gs h.delivered k.delivered;
  dropped = counted_one (is_absent_under Dropped) s.dropped t.dropped u.dropped fs gs h.dropped k.dropped;
  lost = counted_one (is_absent_under Lost) s.lost t.lost u.lost fs gs h.lost k.lost;
  cut = counted_one (is_absent_under Cut) s.cut t.cut u.cut fs gs h.cut k.cut;
}

-- losses alone raise the count of losses, and no other
counted_losses : (s t : Sequence) (fixed : List Fixed) (n : ℕ)
    → ((test : Outcome → Bool) → tally test fixed ≡ cond (test (Absent Lost)) n 0)
    → t.delivered ≡ s.delivered → t.dropped ≡ s.dropped → t.lost ≡ raised s.lost n → t.cut ≡ s.cut → Counted s t fixed
counted_losses s t fixed n h a b c d = record {
  delivered = a ∙ sym (ap (raised s.delivered) (h is_delivered) ∙ raised-none s.delivered);
  dropped = b ∙ sym (ap (raised s.dropped) (h (is_absent_under Dropped)) ∙ raised-none s.dropped);
  lost = c ∙ sym (ap (raised s.lost) (h (is_absent_under Lost)));
  cut = d ∙ sym (ap (raised s.cut) (h (is_absent_under Cut)) ∙ raised-none s.cut);
}

-- Changes of sequences

same_changed : (p q : ℕ) (f : Sequence → Sequence) → ((s : Sequence) → (f s).number ≡ s.number) → ((s : Sequence) → SameCounts s (f s)) → (ss : List Sequence)
    → is_known ss q ≡ true → SameCounts (sequence_in ss q) (sequence_in (changed_at p f ss) q)
same_changed p q f keeps same ss known = step (cases_eq p q)
  where
    step : ((p ≡ q) ⊎ (p ≡ q → ⊥)) → SameCounts (sequence_in ss q) (sequence_in (changed_at p f ss) q)
    step (inl e) = subst (λ (n : ℕ). SameCounts (sequence_in ss q) (sequence_in (changed_at n f ss) q)) (sym e)
        (subst (λ (t : Sequence). SameCounts (sequence_in ss q) t) (sym (changed_here q f keeps ss known)) (same (sequence_in ss q)))
    step (inr d) = subst (λ (t : Sequence). SameCounts (sequence_in ss q) t) (sym (changed_other p q f keeps ss known d)) (same_counts (sequence_in ss q))

same_arrived : (p q chunk_id count : ℕ) (ss : List Sequence) → is_known ss q ≡ true → SameCounts (sequence_in ss q) (sequence_in (changed_at p (with_arrived chunk_id count) ss) q)
same_arrived p q chunk_id count ss known =
    same_changed p q (with_arrived chunk_id count) (λ s. refl) (λ s. record { delivered = refl; dropped = refl; lost = refl; cut = refl }) ss known

counted_displaced : (q : ℕ) (records : List BufferRecord) (ss : List Sequence) → is_known ss q ≡ true
    → Counted (sequence_in ss q) (sequence_in (map (with_losses records) ss) q) (flat_map (fixed_by_loss (sequence_in ss q)) records)
counted_displaced q records ss known =
    let s : Sequence = sequence_in ss q in
    subst (λ (t : Sequence). Counted s t (flat_map (fixed_by_loss s) records)) (sym (sequence_in-map (with_losses records) (λ t. refl) ss q known))
    (counted_losses s (with_losses records s) (flat_map (fixed_by_loss s) records) (sum_by (packets_lost s) records)
    (λ test. tally-losses test s records) refl refl refl refl)

-- Arrivals by their outcome

-- a chunk that gets no place loses its own packets
counted_discarded : (q p chunk_id : ℕ) (chunk : Chunk) (ss : List Sequence) → is_known ss q ≡ true → is_known ss p ≡ true
    → Counted (sequence_in ss q) (sequence_in (changed_at p (with_discarded chunk_id chunk) ss) q)
    (cond (((sequence_in ss q).number == (sequence_in ss p).number) && true) (map lost_at (unread_start_places (sequence_in ss q) chunk_id chunk)) [])
counted_discarded q p chunk_id chunk ss known owner = step (cases_eq p q)
  where
    own : Counted (sequence_in ss q) (sequence_in (changed_at q (with_discarded chunk_id chunk) ss) q) (map lost_at (unread_start_places (sequence_in ss q) chunk_id chunk))
    own = subst (λ (t : Sequence). Counted (sequence_in ss q) t (map lost_at (unread_start_places (sequence_in ss q) chunk_id chunk)))
        (sym (changed_here q (with_discarded chunk_id chunk) (λ t. refl) ss known))
        (counted_losses (sequence_in ss q) (with_discarded chunk_id chunk (sequence_in ss q)) (map lost_at (unread_start_places (sequence_in ss q) chunk_id chunk))
        (unread_starts (sequence_in ss q) chunk_id chunk)
        (λ test. tally-lost test (unread_start_places (sequence_in ss q) chunk_id chunk)
        ∙ ap (λ (n : ℕ). cond (test (Absent Lost)) n 0) (length-unread (sequence_in ss q) chunk_id chunk)) refl refl refl refl)

    step : ((p ≡ q) ⊎ (p ≡ q → ⊥)) → Counted (sequence_in ss q) (sequence_in (changed_at p (with_discarded chunk_id chunk) ss) q)
        (cond (((sequence_in ss q).number == (sequence_in ss p).number) && true) (map lost_at (unread_start_places (sequence_in ss q) chunk_id chunk)) [])
    step (inl e) =
        subst (λ (b : Bool). Counted (sequence_in ss q) (sequence_in (changed_at p (with_discarded chunk_id chunk) ss) q)
        (cond (b && true) (map lost_at (unread_start_places (sequence_in ss q) chunk_id chunk)) []))
        (sym (eq-eqb (sequence_in ss q).number (sequence_in ss p).number (ap (λ (n : ℕ). (sequence_in ss n).number) (sym e))))
        (subst (λ (n : ℕ). Counted (sequence_in ss q) (sequence_in (changed_at n (with_discarded chunk_id chunk) ss) q)
        (map lost_at (unread_start_places (sequence_in ss q) chunk_id chunk))) (sym e) own)
    step (inr d) =
        subst (λ (b : Bool). Counted (sequence_in ss q) (sequence_in (changed_at p (with_discarded chunk_id chunk) ss) q)
        (cond (b && true) (map lost_at (unread_start_places (sequence_in ss q) chunk_id chunk)) []))
        (sym (ne_eqb (sequence_in ss q).number (sequence_in ss p).number (λ e. d (sym (number_of ss p owner) ∙ sym e ∙ number_of ss q known))))
        (counted_none (sequence_in ss q) (sequence_in (changed_at p (with_discarded chunk_id chunk) ss) q)
        (subst (λ (t : Sequence). SameCounts (sequence_in ss q) t) (sym (changed_other p q (with_discarded chunk_id chunk) (λ t. refl) ss known d)) (same_counts (sequence_in ss q))))

module _ (q p : ℕ) (b : Buffer) (chunk_id : ℕ) (chunk : Chunk) (known : is_known b.sequences q ≡ true) (owner : is_known b.sequences p ≡ true) where
  counted_complete : (outcome : Arrived) → Counted (sequence_in b.sequences q) (sequence_in (complete_after b p chunk_id chunk outcome).sequences q)
      (fixed_by_arrival b (sequence_in b.sequences q) (sequence_in b.sequences p) outcome false chunk_id chunk)
  counted_complete Kept =
      let lost : List BufferRecord = filter (meets b (sequence_in b.sequences p).size) b.live in
      let middle : List Sequence = map (with_losses lost) b.sequences in
      counted_same (sequence_in b.sequences q) (sequence_in middle q) (sequence_in (changed_at p (with_arrived chunk_id (length chunk.fragments)) middle) q)
      (flat_map (fixed_by_loss (sequence_in b.sequences q)) lost) (counted_displaced q lost b.sequences known)
      (same_arrived p q chunk_id (length chunk.fragments) middle (known-map (with_losses lost) (λ t. refl) b.sequences q ∙ known))
  counted_complete Rewritten =
      counted_none (sequence_in b.sequences q) (sequence_in (changed_at p (with_arrived chunk_id (length chunk.fragments)) b.sequences) q)
      (same_arrived p q chunk_id (length chunk.fragments) b.sequences known)
  counted_complete Duplicate = counted_none (sequence_in b.sequences q) (sequence_in b.sequences q) (same_counts (sequence_in b.sequences q))
  counted_complete Discarded =
      let middle : List Sequence = changed_at p (with_discarded chunk_id (complete_chunk chunk)) b.sequences in
      counted_same (sequence_in b.sequences q) (sequence_in middle q) (sequence_in (changed_at p (with_arrived chunk_id (length chunk.fragments)) middle) q)
      (fixed_by_arrival b (sequence_in b.sequences q) (sequence_in b.sequences p) Discarded false chunk_id chunk)
      (counted_discarded q p chunk_id (complete_chunk chunk) b.sequences known owner)
      (same_arrived p q chunk_id (length chunk.fragments) middle (known_changed p q (with_discarded chunk_id (complete_chunk chunk)) (λ t. refl) b.sequences ∙ known))
  counted_complete TooFar = counted_none (sequence_in b.sequences q) (sequence_in b.sequences q) (same_counts (sequence_in b.sequences q))
  counted_complete (BadChunk fragment) = counted_none (sequence_in b.sequences q) (sequence_in b.sequences q) (same_counts (sequence_in b.sequences q))

  counted_partial : (outcome : Arrived) → Counted (sequence_in b.sequences q) (sequence_in (partial_after b p chunk_id chunk outcome).sequences q)
      (fixed_by_arrival b (sequence_in b.sequences q) (sequence_in b.sequences p) outcome true chunk_id chunk)
  counted_partial Kept = counted_displaced q (filter (meets b (sequence_in b.sequences p).size) b.live) b.sequences known
  counted_partial Rewritten = counted_none (sequence_in b.sequences q) (sequence_in b.sequences q) (same_counts (sequence_in b.sequences q))
  counted_partial Duplicate = counted_none (sequence_in b.sequences q) (sequence_in b.sequences q) (same_counts (sequence_in b.sequences q))
  counted_partial Discarded =
      subst (λ (x : Bool). Counted (sequence_in b.sequences q) (sequence_in b.sequences q) (cond x (map lost_at (unread_start_places (sequence_in b.sequences q) chunk_id chunk)) []))
      (sym (and-false ((sequence_in b.sequences q).number == (sequence_in b.sequences p).number)))
      (counted_none (sequence_in b.sequences q) (sequence_in b.sequences q) (same_counts (sequence_in b.sequences q)))
  counted_partial TooFar = counted_none (sequence_in b.sequences q) (sequence_in b.sequences q) (same_counts (sequence_in b.sequences q))
  counted_partial (BadChunk fragment) = counted_none (sequence_in b.sequences q) (sequence_in b.sequences q) (same_counts (sequence_in b.sequences q))

-- Reads

counted_read : (q p limit : ℕ) (b : Buffer) → is_known b.sequences q ≡ true
    → Counted (sequence_in b.sequences q) (sequence_in (with_read b p limit).sequences q) (fixed_by b (sequence_in b.sequences q) (Read p limit))
counted_read q p limit b known = step (cases_eq p q)
  where
    turn_delivered : (at : Cursor) (turn : Turn) → tally is_delivered (fixed_by_turn at turn) ≡ cond (delivers turn) 1 0
    turn_delivered at Delivers = refl
    turn_delivered at (Counts cause) = refl
    turn_delivered at Skips = refl
    turn_delivered at Ends = refl

    turn_absent : (cause : Cause) (at : Cursor) (turn : Turn) → tally (is_absent_under cause) (fixed_by_turn at turn) ≡ cond (counts_under cause turn) 1 0
    turn_absent cause at Delivers = refl
    turn_absent cause at (Counts other) = omega arith
    turn_absent cause at Skips = refl
    turn_absent cause at Ends = refl

    own : Counted (sequence_in b.sequences q) (sequence_in (with_read b q limit).sequences q)
        (flat_map fixed_by_link (passed_by limit (row_from_cursor b (sequence_in b.sequences q))))
    own =
        let s : Sequence = sequence_in b.sequences q in
        let passed : List Link = passed_by limit (row_from_cursor b s) in
        subst (λ (t : Sequence). Counted s t (flat_map fixed_by_link passed)) (sym (changed_here q (sequence_after passed) (λ t. refl) b.sequences known))
        (record {
          delivered = ap (raised s.delivered) (sym (tally-read is_delivered delivers turn_delivered refl refl passed));
          dropped = ap (raised s.dropped) (sym (tally-read (is_absent_under Dropped) (counts_under Dropped) (turn_absent Dropped) refl refl passed));
          lost = ap (raised s.lost) (sym (tally-read (is_absent_under Lost) (counts_under Lost) (turn_absent Lost) refl refl passed));
          cut = ap (raised s.cut) (sym (tally-read (is_absent_under Cut) (counts_under Cut) (turn_absent Cut) refl refl passed));
        })

    step : ((p ≡ q) ⊎ (p ≡ q → ⊥)) → Counted (sequence_in b.sequences q) (sequence_in (with_read b p limit).sequences q)
        (cond (p == (sequence_in b.sequences q).number) (flat_map fixed_by_link (passed_by limit (row_from_cursor b (sequence_in b.sequences q)))) [])
    step (inl e) =
        subst (λ (x : Bool). Counted (sequence_in b.sequences q) (sequence_in (with_read b p limit).sequences q)
        (cond x (flat_map fixed_by_link (passed_by limit (row_from_cursor b (sequence_in b.sequences q)))) []))
        (sym (eq-eqb p (sequence_in b.sequences q).number (e ∙ sym (number_of b.sequences q known))))
        (subst (λ (n : ℕ). Counted (sequence_in b.sequences q) (sequence_in (with_read b n limit).sequences q)
        (flat_map fixed_by_link (passed_by limit (row_from_cursor b (sequence_in b.sequences q))))) (sym e) own)
    step (inr d) =
        let passed : List Link = passed_by limit (row_from_cursor b (sequence_in b.sequences p)) in
        subst (λ (x : Bool). Counted (sequence_in b.sequences q) (sequence_in (with_read b p limit).sequences q)
        (cond x (flat_map fixed_by_link (passed_by limit (row_from_cursor b (sequence_in b.sequences q)))) []))
        (sym (ne_eqb p (sequence_in b.sequences q).number (λ e. d (e ∙ number_of b.sequences q known))))
        (counted_none (sequence_in b.sequences q) (sequence_in (with_read b p limit).sequences q)
        (subst (λ (t : Sequence). SameCounts (sequence_in b.sequences q) t) (sym (changed_other p q (sequence_after passed) (λ t. refl) b.sequences known d)) (same_counts (sequence_in b.sequences q))))

-- Events

pub patched_sequences : (patches : List Patch) (b : Buffer) (p : ℕ) → (with_patches b p patches).sequences ≡ b.sequences
patched_sequences [] b p = refl
patched_sequences (patch ∷ patches) b p = patched_sequences patches (with_patch b p patch) p

counted_once_read : (q p chunk_id flags : ℕ) (reading : Reading) (b : Buffer) → is_known b.sequences q ≡ true → is_known b.sequences p ≡ true
    → Counted (sequence_in b.sequences q) (sequence_in (once_read b (with_arrival b p chunk_id) flags reading).sequences q)
    (fixed_once_read b (sequence_in b.sequences q) p chunk_id flags reading)
counted_once_read q p chunk_id flags (Fragments fragments) b known owner = counted_complete q p b chunk_id (whole_chunk flags fragments) known owner (arrival_of b p chunk_id)
counted_once_read q p chunk_id flags (Unreadable number) b known owner = counted_none (sequence_in b.sequences q) (sequence_in b.sequences q) (same_counts (sequence_in b.sequences q))

same_closed : (closed : Bool) (q p : ℕ) (b : Buffer) → is_known b.sequences q ≡ true
    → SameCounts (sequence_in b.sequences q) (sequence_in (cond closed b (closed_buffer b p)).sequences q)
same_closed true q p b known = same_counts (sequence_in b.sequences q)
same_closed false q p b known =
    same_changed p q (closed_sequence b.live) (λ s. refl) (λ s. record { delivered = refl; dropped = refl; lost = refl; cut = refl }) b.sequences known

known_closed : (closed : Bool) (q p : ℕ) (b : Buffer) → is_known b.sequences q ≡ true → is_known (cond closed b (closed_buffer b p)).sequences q ≡ true
known_closed true q p b known = known
known_closed false q p b known = known_changed p q (closed_sequence b.live) (λ t. refl) b.sequences ∙ known

counted_event : (q : ℕ) (b : Buffer) (event : Event) → is_known b.sequences q ≡ true → is_known b.sequences (event_sequence event) ≡ true
    → Counted (sequence_in b.sequences q) (sequence_in (after b event).sequences q) (fixed_by b (sequence_in b.sequences q) event)
counted_event q b (Arrives p chunk_id chunk) known owner = counted_complete q p b chunk_id chunk known owner (arrival_of b p chunk_id)
counted_event q b (ArrivesInPart p chunk_id chunk) known owner = counted_partial q p b chunk_id chunk known owner (partial_arrival_of b p chunk_id (length chunk.fragments))
counted_event q b (Patched p patches) known owner =
    counted_none (sequence_in b.sequences q) (sequence_in (with_patches b p patches).sequences q)
    (subst (λ (ss : List Sequence). SameCounts (sequence_in b.sequences q) (sequence_in ss q)) (sym (patched_sequences patches b p)) (same_counts (sequence_in b.sequences q)))
counted_event q b (Committed image patches) known owner =
    subst (λ (ss : List Sequence). Counted (sequence_in b.sequences q) (sequence_in ss q) (fixed_by b (sequence_in b.sequences q) (Committed image patches)))
    (sym (patched_sequences patches (with_image b image) image.sequence))
    (counted_once_read q image.sequence image.chunk_id image.flags (reading_of image.count image.payload) b known owner)
counted_event q b (Closed p) known owner = counted_none (sequence_in b.sequences q) (sequence_in (with_close b p).sequences q) (same_closed (sequence_in b.sequences p).closed q p b known)
counted_event q b (Read p limit) known owner = counted_read q p limit b known

-- whatever happens, a buffer knows its sequences
known_settled : (q p : ℕ) (b : Buffer) (chunk_id : ℕ) (chunk : Chunk) (outcome : Arrived) → is_known b.sequences q ≡ true → is_known (complete_after b p chunk_id chunk outcome).sequences q ≡ true
known_settled q p b chunk_id chunk Kept known =
    let lost : List BufferRecord = filter (meets b (sequence_in b.sequences p).size) b.live in
    known_changed p q (with_arrived chunk_id (length chunk.fragments)) (λ t. refl) (map (with_losses lost) b.sequences) ∙ known-map (with_losses lost) (λ t. refl) b.sequences q ∙ known
known_settled q p b chunk_id chunk Rewritten known = known_changed p q (with_arrived chunk_id (length chunk.fragments)) (λ t. refl) b.sequences ∙ known
known_settled q p b chunk_id chunk Duplicate known = known
known_settled q p b chunk_id chunk Discarded known =
    let middle : List Sequence = changed_at p (with_discarded chunk_id (complete_chunk chunk)) b.sequences in
    known_changed p q (with_arrived chunk_id (length chunk.fragments)) (λ t. refl) middle ∙ known_changed p q (with_discarded chunk_id (complete_chunk chunk)) (λ t. refl) b.sequences ∙ known
known_settled q p b chunk_id chunk TooFar known = known
known_settled q p b chunk_id chunk (BadChunk fragment) known = known

known_partial : (q p : ℕ) (b : Buffer) (chunk_id : ℕ) (chunk : Chunk) (outcome : Arrived) → is_known b.sequences q ≡ true → is_known (partial_after b p chunk_id chunk outcome).sequences q ≡ true
known_partial q p b chunk_id chunk Kept known = known-map (with_losses (filter (meets b (sequence_in b.sequences p).size) b.live)) (λ t. refl) b.sequences q ∙ known
known_partial q p b chunk_id chunk Rewritten known = known
known_partial q p b chunk_id chunk Duplicate known = known
known_partial q p b chunk_id chunk Discarded known = known
known_partial q p b chunk_id chunk TooFar known = known
known_partial q p b chunk_id chunk (BadChunk fragment) known = known

known_once_read : (q p chunk_id flags : ℕ) (reading : Reading) (b : Buffer) → is_known b.sequences q ≡ true
    → is_known (once_read b (with_arrival b p chunk_id) flags reading).sequences q ≡ true
known_once_read q p chunk_id flags (Fragments fragments) b known = known_settled q p b chunk_id (whole_chunk flags fragments) (arrival_of b p chunk_id) known
known_once_read q p chunk_id flags (Unreadable number) b known = known

known_after : (q : ℕ) (b : Buffer) (event : Event) → is_known b.sequences q ≡ true → is_known (after b event).sequences q ≡ true
known_after q b (Arrives p chunk_id chunk) known = known_settled q p b chunk_id chunk (arrival_of b p chunk_id) known
known_after q b (ArrivesInPart p chunk_id chunk) known = known_partial q p b chunk_id chunk (partial_arrival_of b p chunk_id (length chunk.fragments)) known
known_after q b (Patched p patches) known = ap (λ (ss : List Sequence). is_known ss q) (patched_sequences patches b p) ∙ known
known_after q b (Committed image patches) known =
    ap (λ (ss : List Sequence). is_known ss q) (patched_sequences patches (with_image b image) image.sequence)
    ∙ known_once_read q image.sequence image.chunk_id image.flags (reading_of image.count image.payload) b known
known_after q b (Closed p) known = known_closed (sequence_in b.sequences p).closed q p b known
known_after q b (Read p limit) known = known_changed p q (sequence_after (passed_by limit (row_from_cursor b (sequence_in b.sequences p)))) (λ t. refl) b.sequences ∙ known

counted_all : (events : List Event) (q : ℕ) (b : Buffer) → is_known b.sequences q ≡ true
    → Counted (sequence_in b.sequences q) (sequence_in (state_after b events).sequences q) (fixed_after q b events)
counted_all [] q b known = counted_none (sequence_in b.sequences q) (sequence_in b.sequences q) (same_counts (sequence_in b.sequences q))
counted_all (event ∷ events) q b known = step (is_known b.sequences (event_sequence event)) refl (counted_all events q)
  where
    step : (x : Bool) → is_known b.sequences (event_sequence event) ≡ x
        → ((c : Buffer) → is_known c.sequences q ≡ true → Counted (sequence_in c.sequences q) (sequence_in (state_after c events).sequences q) (fixed_after q c events))
        → Counted (sequence_in b.sequences q) (sequence_in (state_after (cond x (after b event) b) events).sequences q)
        (cond x (fixed_by b (sequence_in b.sequences q) event) [] ++ fixed_after q (cond x (after b event) b) events)
    step true e rest = counted_both (sequence_in b.sequences q) (sequence_in (after b event).sequences q) (sequence_in (state_after (after b event) events).sequences q)
        (fixed_by b (sequence_in b.sequences q) event) (fixed_after q (after b event) events) (counted_event q b event known e)
        (rest (after b event) (known_after q b event known))
    step false e rest = rest b known

pub counts_are_outcomes : CountsAreOutcomes
counts_are_outcomes room policy sequences sequence size events known start =
    let h : Counted (sequence_in sequences sequence) (sequence_in (state_after (empty_buffer room policy sequences) events).sequences sequence)
    (fixed_after sequence (empty_buffer room policy sequences) events) = counted_all events sequence (empty_buffer room policy sequences) known in
    record {
      delivered = h.delivered ∙ ap (λ (s : Sequence). raised s.delivered (tally is_delivered (fixed_after sequence (empty_buffer room policy sequences) events))) start;
      dropped = h.dropped ∙ ap (λ (s : Sequence). raised s.dropped (tally (is_absent_under Dropped) (fixed_after sequence (empty_buffer room policy sequences) events))) start;
      lost = h.lost ∙ ap (λ (s : Sequence). raised s.lost (tally (is_absent_under Lost) (fixed_after sequence (empty_buffer room policy sequences) events))) start;
      cut = h.cut ∙ ap (λ (s : Sequence). raised s.cut (tally (is_absent_under Cut) (fixed_after sequence (empty_buffer room policy sequences) events))) start;
    }
