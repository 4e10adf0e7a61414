-- Rising lists are sets, histories keep them, and a second close changes nothing.
use Rattle.std.proofs.Common.{◌≡◌, ◌∙◌, ℕ, ◌<◌, ◌≤◌, Bool, true, false, ◌&&◌, ◌||◌, List, [], ◌∷◌, map, length, refl, sym, ap, subst, arith, inl, inr}
use Rattle.std.specs.Prelude.{cond, ◌⊎◌, ◌==◌, nat_lt, filter}
use Rattle.std.proofs.lemmas.Bool.{cases_eq, cases_Bool, eqb-true, eq-eqb, ne_eqb, ltb-true, ltb-false, false≢true}
use Rattle.trace_model.specs.Images.{Chunk, Patch, whole_chunk, complete_chunk, partial_chunk}
use Rattle.trace_model.specs.Reading.{Reading, Fragments, Unreadable, reading_of}
use Rattle.trace_model.specs.Sequences.{Sequence, is_among, with_number, rising, sequence_in, is_known, changed_at}
use Rattle.trace_model.specs.Buffers.{Buffer, BufferRecord, meets, with_losses}
use Rattle.trace_model.specs.Arrivals.{Arrived, Kept, Rewritten, Duplicate, Discarded, TooFar, BadChunk, arrival_of, partial_arrival_of, with_arrived, with_discarded, discarded_buffer, settled, makes_arrive, with_arrival, once_read, with_image}
use Rattle.trace_model.specs.Patches.{with_patch, with_patches, closed_sequence, closed_buffer, with_close}
use Rattle.trace_model.specs.Row.{row_from_cursor}
use Rattle.trace_model.specs.Reads.{passed_by, sequence_after}
use Rattle.trace_model.specs.History.{Event, Arrives, ArrivesInPart, Patched, Committed, Closed, Read, event_sequence, after, buffer_after, state_after}
use Rattle.trace_model.proofs.SequenceLemmas.{changed_here, among_with}
use Rattle.model_laws.specs.RisingLaws.{IsRising, AllRising, RisingListsAreSets, SecondCloseChangesNothing}

-- A number put in

-- behind a lower one
put_behind : (low n : ℕ) (numbers : List ℕ) → low < n → IsRising (low ∷ numbers) → IsRising (low ∷ with_number n numbers)
put_behind low n [] less h = (less, tt)
put_behind low n (m ∷ numbers) less h =
    step (nat_lt n m) refl (n == m) refl (put_behind m n numbers)
  where
    step : (below : Bool) → nat_lt n m ≡ below → (same : Bool) → (n == m) ≡ same → (m < n → IsRising (m ∷ numbers) → IsRising (m ∷ with_number n numbers))
        → IsRising (low ∷ cond below (n ∷ m ∷ numbers) (cond same (m ∷ numbers) (m ∷ with_number n numbers)))
    step true e same f k = (less, (ltb-true n m e, h.1))
    step false e true f k = h
    step false e false f k = (h.0, k (grind (arith, ltb-false n m e, λ (i : n ≡ m). false≢true (sym f ∙ eq-eqb n m i))) h.1)

put_in : (n : ℕ) (numbers : List ℕ) → IsRising numbers → IsRising (with_number n numbers)
put_in n [] h = tt
put_in n (m ∷ numbers) h = step (nat_lt n m) refl (n == m) refl
  where
    step : (below : Bool) → nat_lt n m ≡ below → (same : Bool) → (n == m) ≡ same
        → IsRising (cond below (n ∷ m ∷ numbers) (cond same (m ∷ numbers) (m ∷ with_number n numbers)))
    step true e same f = (ltb-true n m e, h)
    step false e true f = h
    step false e false f = put_behind m n numbers (grind (arith, ltb-false n m e, λ (i : n ≡ m). false≢true (sym f ∙ eq-eqb n m i))) h

all_put : (numbers : List ℕ) → IsRising (rising numbers)
all_put [] = tt
all_put (n ∷ numbers) = put_in n (rising numbers) (all_put numbers)

all_members : (m : ℕ) (numbers : List ℕ) → is_among m (rising numbers) ≡ is_among m numbers
all_members m [] = refl
all_members m (n ∷ numbers) = among_with n m (rising numbers) ∙ ap (λ (b : Bool). (n == m) || b) (all_members m numbers)

-- Rising lists with the same members

behind_first : (n : ℕ) (numbers : List ℕ) → IsRising (n ∷ numbers) → IsRising numbers
behind_first n [] h = tt
behind_first n (m ∷ numbers) h = h.1

above_first : (n m : ℕ) (numbers : List ℕ) → IsRising (n ∷ numbers) → is_among m numbers ≡ true → n < m
above_first n m [] h among = absurd (false≢true among)
above_first n m (k ∷ numbers) h among = step (k == m) refl among (above_first k m numbers h.1)
  where
    step : (b : Bool) → (k == m) ≡ b → (b || is_among m numbers) ≡ true → (is_among m numbers ≡ true → k < m) → n < m
    step true e a rest = omega (arith, h.0, eqb-true k m e)
    step false e a rest = omega (arith, h.0, rest a)

among_first : (n : ℕ) (numbers : List ℕ) → is_among n (n ∷ numbers) ≡ true
among_first n numbers = ap (λ (b : Bool). b || is_among n numbers) (eq-eqb n n refl)

at_least_first : (n m : ℕ) (numbers : List ℕ) → IsRising (n ∷ numbers) → is_among m (n ∷ numbers) ≡ true → n ≤ m
at_least_first n m numbers h among = step (n == m) refl among
  where
    step : (b : Bool) → (n == m) ≡ b → (b || is_among m numbers) ≡ true → n ≤ m
    step true e a = omega (arith, eqb-true n m e)
    step false e a = omega (arith, above_first n m numbers h a)

not_again : (n : ℕ) (numbers : List ℕ) → IsRising (n ∷ numbers) → is_among n numbers ≡ false
not_again n numbers h = elim (cases_Bool (is_among n numbers)) [
  | inl met ↦ absurd (omega (arith, above_first n n numbers h met))
  | inr missed ↦ missed
]

same_lists : (a b : List ℕ) → IsRising a → IsRising b → ((n : ℕ) → is_among n a ≡ is_among n b) → a ≡ b
same_lists [] [] h k same = refl
same_lists [] (m ∷ b) h k same = absurd (false≢true (same m ∙ among_first m b))
same_lists (n ∷ a) [] h k same = absurd (false≢true (sym (same n) ∙ among_first n a))
same_lists (n ∷ a) (m ∷ b) h k same =
    let one : m ≤ n = at_least_first m n b k (sym (same n) ∙ among_first n a) in
    let two : n ≤ m = at_least_first n m a h (same m ∙ among_first m b) in
    let first : n ≡ m = omega (arith, one, two) in
    ap (λ (x : ℕ). x ∷ a) first ∙ ap (λ (xs : List ℕ). m ∷ xs) (same_lists a b (behind_first n a h) (behind_first m b k) (tails first))
  where
    tails : n ≡ m → (x : ℕ) → is_among x a ≡ is_among x b
    tails first x = by_case (cases_eq n x)
      where
        by_case : ((n ≡ x) ⊎ (n ≡ x → ⊥)) → is_among x a ≡ is_among x b
        by_case (inl e) =
            subst (λ (y : ℕ). is_among y a ≡ is_among y b) e
            (not_again n a h ∙ sym (subst (λ (y : ℕ). is_among y b ≡ false) (sym first) (not_again m b k)))
        by_case (inr d) =
            sym (ap (λ (t : Bool). t || is_among x a) (ne_eqb n x d))
            ∙ same x
            ∙ ap (λ (t : Bool). t || is_among x b) (ne_eqb m x (λ e. d (first ∙ e)))

-- Histories

rise_mapped : (f : Sequence → Sequence) → ((s : Sequence) → IsRising s.arrived × IsRising s.final → IsRising (f s).arrived × IsRising (f s).final)
    → (ss : List Sequence) → AllRising ss → AllRising (map f ss)
rise_mapped f keeps [] h = tt
rise_mapped f keeps (s ∷ ss) h = (keeps s h.0, rise_mapped f keeps ss h.1)

rise_changed : (p : ℕ) (f : Sequence → Sequence) → ((s : Sequence) → IsRising s.arrived × IsRising s.final → IsRising (f s).arrived × IsRising (f s).final)
    → (ss : List Sequence) → AllRising ss → AllRising (changed_at p f ss)
rise_changed p f keeps ss h = rise_mapped (λ s. cond (s.number == p) (f s) s) (λ s k. step s (s.number == p) k) ss h
  where
    step : (s : Sequence) (b : Bool) → IsRising s.arrived × IsRising s.final → IsRising (cond b (f s) s).arrived × IsRising (cond b (f s) s).final
    step s true k = keeps s k
    step s false k = k

rise_settled : (outcome : Arrived) (b : Buffer) (p chunk_id : ℕ) (chunk : Chunk) → AllRising b.sequences → AllRising (settled outcome b p chunk_id chunk).sequences
rise_settled Kept b p chunk_id chunk h = rise_mapped (with_losses (filter (meets b (sequence_in b.sequences p).size) b.live)) (λ s k. k) b.sequences h
rise_settled Discarded b p chunk_id chunk h = step chunk.partial
  where
    step : (x : Bool) → AllRising (cond x (record b { shut = true }) (discarded_buffer b p chunk_id chunk)).sequences
    step true = h
    step false = rise_changed p (with_discarded chunk_id chunk) (λ s k. k) b.sequences h
rise_settled Rewritten b p chunk_id chunk h = h
rise_settled Duplicate b p chunk_id chunk h = h
rise_settled TooFar b p chunk_id chunk h = h
rise_settled (BadChunk fragment) b p chunk_id chunk h = h

rise_arrival : (b : Buffer) (p chunk_id : ℕ) (chunk : Chunk) → AllRising b.sequences → AllRising (with_arrival b p chunk_id chunk).sequences
rise_arrival b p chunk_id chunk h = step (makes_arrive (arrival_of b p chunk_id)) (rise_settled (arrival_of b p chunk_id) b p chunk_id (complete_chunk chunk) h)
  where
    step : (x : Bool) → AllRising (settled (arrival_of b p chunk_id) b p chunk_id (complete_chunk chunk)).sequences
        → AllRising (cond x (changed_at p (with_arrived chunk_id (length chunk.fragments)) (settled (arrival_of b p chunk_id) b p chunk_id (complete_chunk chunk)).sequences)
        (settled (arrival_of b p chunk_id) b p chunk_id (complete_chunk chunk)).sequences)
    step true k = rise_changed p (with_arrived chunk_id (length chunk.fragments)) (λ s r. (put_in chunk_id s.arrived r.0, r.1))
        (settled (arrival_of b p chunk_id) b p chunk_id (complete_chunk chunk)).sequences k
    step false k = k

rise_image : (reading : Reading) (b : Buffer) (p chunk_id flags : ℕ) → AllRising b.sequences → AllRising (once_read b (with_arrival b p chunk_id) flags reading).sequences
rise_image (Fragments fragments) b p chunk_id flags h = rise_arrival b p chunk_id (whole_chunk flags fragments) h
rise_image (Unreadable number) b p chunk_id flags h = h

rise_patches : (patches : List Patch) (b : Buffer) (p : ℕ) → AllRising b.sequences → AllRising (with_patches b p patches).sequences
rise_patches [] b p h = h
rise_patches (patch ∷ patches) b p h = rise_patches patches (with_patch b p patch) p h

rise_closed : (x : Bool) (b : Buffer) (p : ℕ) → AllRising b.sequences → AllRising (cond x b (closed_buffer b p)).sequences
rise_closed true b p h = h
rise_closed false b p h = rise_changed p (closed_sequence b.live) (λ s r. (
  r.0,
  all_put (map (λ (stored : BufferRecord). stored.chunk_id) (filter (λ stored. (stored.sequence == s.number) && stored.chunk.partial) b.live)),
)) b.sequences h

rise_event : (b : Buffer) (event : Event) → AllRising b.sequences → AllRising (after b event).sequences
rise_event b (Arrives p chunk_id chunk) h = rise_arrival b p chunk_id chunk h
rise_event b (ArrivesInPart p chunk_id chunk) h = rise_settled (partial_arrival_of b p chunk_id (length chunk.fragments)) b p chunk_id (partial_chunk chunk) h
rise_event b (Patched p patches) h = rise_patches patches b p h
rise_event b (Committed image patches) h =
    rise_patches patches (with_image b image) image.sequence (rise_image (reading_of image.count image.payload) b image.sequence image.chunk_id image.flags h)
rise_event b (Closed p) h = rise_closed (sequence_in b.sequences p).closed b p h
rise_event b (Read p limit) h = rise_changed p (sequence_after (passed_by limit (row_from_cursor b (sequence_in b.sequences p)))) (λ s k. k) b.sequences h

rise_history : (events : List Event) (b : Buffer) → AllRising b.sequences → AllRising (state_after b events).sequences
rise_history [] b h = h
rise_history (event ∷ events) b h = rise_history events (buffer_after b event) (step (is_known b.sequences (event_sequence event)))
  where
    step : (x : Bool) → AllRising (cond x (after b event) b).sequences
    step true = rise_event b event h
    step false = h

pub rising_lists_are_sets : RisingListsAreSets
rising_lists_are_sets = record {
  put = put_in;
  members = among_with;
  all_put = all_put;
  all_members = all_members;
  same = same_lists;
  kept = λ b events h. rise_history events b h;
}

-- A second close

pub second_close_changes_nothing : SecondCloseChangesNothing
second_close_changes_nothing b q known = step (sequence_in b.sequences q).closed refl
  where
    step : (x : Bool) → (sequence_in b.sequences q).closed ≡ x → with_close (cond x b (closed_buffer b q)) q ≡ cond x b (closed_buffer b q)
    step true e = ap (λ (x : Bool). cond x b (closed_buffer b q)) e
    step false e =
        ap (λ (s : Sequence). cond s.closed (closed_buffer b q) (closed_buffer (closed_buffer b q) q))
        (changed_here q (closed_sequence b.live) (λ s. refl) b.sequences known)
