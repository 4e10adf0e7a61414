-- An event that ends a chunk's record fixes what became of the packets that begin in it unread.
use Rattle.std.proofs.Common.{◌≡◌, ◌∙◌, ℕ, zero, suc, ◌+◌, ◌-◌, ◌<◌, ◌≤◌, ◌⊎◌, Bool, true, false, not, ◌&&◌, List, [], ◌∷◌, ◌++◌, length, map, Option, Some, None, refl, sym, ap, subst, arith, inl, inr}
use Rattle.std.specs.Prelude.{cond, ◌==◌, nat_lt, filter, find}
use Rattle.std.specs.List.{flat_map}
use Rattle.std.proofs.lemmas.Bool.{false≢true, cases_eq, cases_lt, eqb-true, eq-eqb, ltb-true, and_parts, and_from}
use Rattle.trace_model.specs.Images.{Chunk, Patch, whole_chunk, complete_chunk, partial_chunk, last_holds}
use Rattle.trace_model.specs.Reading.{Reading, Fragments, Unreadable, reading_of}
use Rattle.trace_model.specs.Sequences.{Sequence, Cursor, unread_of, sequence_in, is_known}
use Rattle.trace_model.specs.Buffers.{Buffer, BufferRecord, is_of, live_at, meets, is_loss_of}
use Rattle.trace_model.specs.Places.{place_after}
use Rattle.trace_model.specs.Arrivals.{Arrived, Kept, Rewritten, Duplicate, Discarded, TooFar, BadChunk, arrival_of, partial_arrival_of, settled, discarded_buffer, with_arrival, once_read, with_image}
use Rattle.trace_model.specs.Patches.{awaits_at, patched_chunk, with_patch, with_patches, closed_buffer}
use Rattle.trace_model.specs.Row.{place}
use Rattle.trace_model.specs.RowLaws.{Before, UpTo}
use Rattle.trace_model.specs.History.{Event, Arrives, ArrivesInPart, Patched, Committed, Closed, Read, event_sequence, after, buffer_after}
use Rattle.trace_model.specs.Causes.{places_from, starts_among, unread_start_places, lost_at, fixed_by_loss, fixed_by_arrival, fixed_once_read, fixed_by}
use Rattle.trace_model.proofs.SequenceLemmas.{number_of}
use Rattle.delivery_laws.proofs.StartRows.{IsFixed, fixed_first, fixed_behind, fixed_here}

-- a place is before another one, or not
pub before_or_not : (a b : Cursor) → Before a b ⊎ UpTo b a
before_or_not a b = by_chunk (cases_lt a.chunk_id b.chunk_id) (cases_eq a.chunk_id b.chunk_id) (cases_lt a.passed b.passed)
  where
    by_chunk : ((a.chunk_id < b.chunk_id) ⊎ (b.chunk_id ≤ a.chunk_id)) → ((a.chunk_id ≡ b.chunk_id) ⊎ (a.chunk_id ≡ b.chunk_id → ⊥))
        → ((a.passed < b.passed) ⊎ (b.passed ≤ a.passed)) → Before a b ⊎ UpTo b a
    by_chunk (inl h) e k = inl (inl h)
    by_chunk (inr h) (inl e) (inl k) = inl (inr (e, k))
    by_chunk (inr h) (inl e) (inr k) = inr (inr (sym e, k))
    by_chunk (inr h) (inr d) k = inr (inl (grind (arith, h, d)))

-- Places of a chunk that weren't passed

places_fixed : (chunk : Chunk) (chunk_id k : ℕ) → (chunk.continues && (k == 0)) ≡ false → (count passed : ℕ) → passed ≤ k → k < passed + count
    → IsFixed (place chunk_id k) (map lost_at (starts_among chunk (places_from chunk_id passed count)))
places_fixed chunk chunk_id k begins zero passed low high = absurd (omega (arith, low, high))
places_fixed chunk chunk_id k begins (suc count) passed low high =
    step (cases_eq passed k) (λ d. places_fixed chunk chunk_id k begins count (suc passed) (grind (arith, low, d)) (omega (arith, high)))
  where
    kept : (b : Bool) → IsFixed (place chunk_id k) (map lost_at (starts_among chunk (places_from chunk_id (suc passed) count)))
        → IsFixed (place chunk_id k) (map lost_at (cond b (place chunk_id passed ∷ starts_among chunk (places_from chunk_id (suc passed) count)) (starts_among chunk (places_from chunk_id (suc passed) count))))
    kept true h = fixed_behind (place chunk_id k) (lost_at (place chunk_id passed) ∷ []) (map lost_at (starts_among chunk (places_from chunk_id (suc passed) count))) h
    kept false h = h

    first : (n : ℕ) → n ≡ k → (b : Bool) → b ≡ true
        → IsFixed (place chunk_id k) (map lost_at (cond b (place chunk_id n ∷ starts_among chunk (places_from chunk_id (suc passed) count)) (starts_among chunk (places_from chunk_id (suc passed) count))))
    first n same false t = absurd (false≢true t)
    first n same true t =
        subst (λ (m : ℕ). IsFixed (place chunk_id m) (lost_at (place chunk_id n) ∷ map lost_at (starts_among chunk (places_from chunk_id (suc passed) count)))) same
        (fixed_here (place chunk_id n) _ (map lost_at (starts_among chunk (places_from chunk_id (suc passed) count))))

    step : ((passed ≡ k) ⊎ (passed ≡ k → ⊥)) → ((passed ≡ k → ⊥) → IsFixed (place chunk_id k) (map lost_at (starts_among chunk (places_from chunk_id (suc passed) count))))
        → IsFixed (place chunk_id k) (map lost_at (starts_among chunk (places_from chunk_id passed (suc count))))
    step (inl same) later = first passed same (not (chunk.continues && (passed == 0))) (ap not (ap (λ (n : ℕ). chunk.continues && (n == 0)) same ∙ begins))
    step (inr other) later = kept (not (chunk.continues && (passed == 0))) (later other)

pub unread_fixed : (s : Sequence) (chunk_id : ℕ) (chunk : Chunk) (k : ℕ) → k < length chunk.fragments → (chunk.continues && (k == 0)) ≡ false
    → UpTo s.cursor (place chunk_id k) → IsFixed (place chunk_id k) (map lost_at (unread_start_places s chunk_id chunk))
unread_fixed s chunk_id chunk k high begins unread =
    places_fixed chunk chunk_id k begins (unread_of s chunk_id (length chunk.fragments)) (length chunk.fragments - unread_of s chunk_id (length chunk.fragments))
    (let covers = is.0 in omega (arith, covers)) (let few = is.1 in omega (arith, few, high))
  where
    is : (length chunk.fragments - unread_of s chunk_id (length chunk.fragments) ≤ k) × (unread_of s chunk_id (length chunk.fragments) ≤ length chunk.fragments)
    is = by_chunk (nat_lt chunk_id s.cursor.chunk_id) refl (chunk_id == s.cursor.chunk_id) refl unread
      where
        by_chunk : (x : Bool) → nat_lt chunk_id s.cursor.chunk_id ≡ x → (y : Bool) → (chunk_id == s.cursor.chunk_id) ≡ y → UpTo s.cursor (place chunk_id k)
            → (length chunk.fragments - cond x 0 (cond y (length chunk.fragments - s.cursor.passed) (length chunk.fragments)) ≤ k)
            × (cond x 0 (cond y (length chunk.fragments - s.cursor.passed) (length chunk.fragments)) ≤ length chunk.fragments)
        by_chunk true e y f (inl h) = let low = ltb-true chunk_id s.cursor.chunk_id e in absurd (omega (arith, low, h))
        by_chunk true e y f (inr h) = let low = ltb-true chunk_id s.cursor.chunk_id e in let same = h.0 in absurd (omega (arith, low, same))
        by_chunk false e true f (inl h) = let same = eqb-true chunk_id s.cursor.chunk_id f in absurd (omega (arith, same, h))
        by_chunk false e true f (inr h) = let from = h.1 in (omega (arith, from), omega arith)
        by_chunk false e false f h = (omega arith, omega arith)

-- Records

pub found_of : (q i : ℕ) (rs : List BufferRecord) (r : BufferRecord) → find (is_of q i) rs ≡ Some r → is_of q i r ≡ true
found_of q i [] r e = absurd (cc)
found_of q i (t ∷ rs) r e = step (is_of q i t) refl e (found_of q i rs r)
  where
    step : (b : Bool) → is_of q i t ≡ b → cond b (Some t) (find (is_of q i) rs) ≡ Some r → (find (is_of q i) rs ≡ Some r → is_of q i r ≡ true) → is_of q i r ≡ true
    step true f e k = let same : t ≡ r = cc in ap (is_of q i) (sym same) ∙ f
    step false f e k = k e

-- changes that keep what records are of end none
pub none_changed : (q i : ℕ) (change : BufferRecord → BufferRecord) → ((r : BufferRecord) → is_of q i (change r) ≡ is_of q i r) → (rs : List BufferRecord)
    → find (is_of q i) (map change rs) ≡ None → find (is_of q i) rs ≡ None
none_changed q i change keeps [] e = refl
none_changed q i change keeps (r ∷ rs) e = step (is_of q i r) (keeps r) e (none_changed q i change keeps rs)
  where
    step : (b : Bool) → is_of q i (change r) ≡ b → cond (is_of q i (change r)) (Some (change r)) (find (is_of q i) (map change rs)) ≡ None
        → (find (is_of q i) (map change rs) ≡ None → find (is_of q i) rs ≡ None) → cond b (Some r) (find (is_of q i) rs) ≡ None
    step true f e k = absurd (some (sym (ap (λ (b : Bool). cond b (Some (change r)) (find (is_of q i) (map change rs))) f) ∙ e))
      where
        some : Some (change r) ≡ None → ⊥
        some h = cc
    step false f e k = k (sym (ap (λ (b : Bool). cond b (Some (change r)) (find (is_of q i) (map change rs))) f) ∙ e)

pub same_of : (q i : ℕ) (r : BufferRecord) (chunk : Chunk) (test : Bool) → is_of q i (cond test (record r { chunk = chunk }) r) ≡ is_of q i r
same_of q i r chunk true = refl
same_of q i r chunk false = refl

pub none_patched : (q i p : ℕ) (patches : List Patch) (b : Buffer) → live_at (with_patches b p patches) q i ≡ None → live_at b q i ≡ None
none_patched q i p [] b e = e
none_patched q i p (patch ∷ patches) b e =
    none_changed q i (λ stored. cond (awaits_at p patch.chunk_id stored && last_holds stored.chunk.fragments patch) (record stored { chunk = patched_chunk patch stored.chunk }) stored)
    (λ r. same_of q i r (patched_chunk patch r.chunk) (awaits_at p patch.chunk_id r && last_holds r.chunk.fragments patch)) b.live
    (none_patched q i p patches (with_patch b p patch) e)

module _ (q i : ℕ) (at : Cursor) (s : Sequence) where
  -- a record that a new one displaces
  displaced : (meet : BufferRecord → Bool) (more : List BufferRecord) (rs : List BufferRecord) (r : BufferRecord) → find (is_of q i) rs ≡ Some r
      → find (is_of q i) (filter (λ t. not (meet t)) rs ++ more) ≡ None → IsFixed at (fixed_by_loss s r) → IsFixed at (flat_map (fixed_by_loss s) (filter meet rs))
  displaced meet more [] r e n h = absurd (cc)
  displaced meet more (t ∷ rs) r e n h = step (meet t) (is_of q i t) refl e n (displaced meet more rs r)
    where
      step : (x y : Bool) → is_of q i t ≡ y → cond y (Some t) (find (is_of q i) rs) ≡ Some r
          → find (is_of q i) (cond (not x) (t ∷ filter (λ t. not (meet t)) rs) (filter (λ t. not (meet t)) rs) ++ more) ≡ None
          → (find (is_of q i) rs ≡ Some r → find (is_of q i) (filter (λ t. not (meet t)) rs ++ more) ≡ None → IsFixed at (fixed_by_loss s r) → IsFixed at (flat_map (fixed_by_loss s) (filter meet rs)))
          → IsFixed at (flat_map (fixed_by_loss s) (cond x (t ∷ filter meet rs) (filter meet rs)))
      step true true f e n k =
          let same : t ≡ r = cc in
          fixed_first at (fixed_by_loss s t) (flat_map (fixed_by_loss s) (filter meet rs)) (subst (λ (u : BufferRecord). IsFixed at (fixed_by_loss s u)) (sym same) h)
      step true false f e n k = fixed_behind at (fixed_by_loss s t) (flat_map (fixed_by_loss s) (filter meet rs)) (k e n h)
      step false y f e n k = by_of y f e (sym (ap (λ (b : Bool). cond b (Some t) (find (is_of q i) (filter (λ t. not (meet t)) rs ++ more))) f) ∙ n)
        where
          by_of : (y : Bool) → is_of q i t ≡ y → cond y (Some t) (find (is_of q i) rs) ≡ Some r → cond y (Some t) (find (is_of q i) (filter (λ t. not (meet t)) rs ++ more)) ≡ None
              → IsFixed at (flat_map (fixed_by_loss s) (filter meet rs))
          by_of true f e n = absurd (cc)
          by_of false f e n = k e n h

-- Events

-- a record, and a place in it where a packet begins that its reader hasn't passed
pub record IsUnread (q i k : ℕ) (b : Buffer) : Type 0 where
  pub stored : BufferRecord
  pub there : live_at b q i ≡ Some stored
  pub whole : stored.chunk.partial ≡ false
  pub inside : k < length stored.chunk.fragments
  pub begins : (stored.chunk.continues && (k == 0)) ≡ false
  pub unread : UpTo (sequence_in b.sequences q).cursor (place i k)

module _ (q i k : ℕ) (b : Buffer) (known : is_known b.sequences q ≡ true) (is : IsUnread q i k b) where
  some_none : (o : Option BufferRecord) → o ≡ Some is.stored → o ≡ None → ⊥
  some_none o e n = cc

  still_there : (c : Buffer) → live_at c q i ≡ live_at b q i → live_at c q i ≡ None → ⊥
  still_there c same none = some_none (live_at b q i) is.there (sym same ∙ none)

  own_loss : IsFixed (place i k) (fixed_by_loss (sequence_in b.sequences q) is.stored)
  own_loss =
      let of = and_parts (is.stored.sequence == q) (is.stored.chunk_id == i) (found_of q i b.live is.stored is.there) in
      let lost : is_loss_of (sequence_in b.sequences q) is.stored ≡ true =
      and_from (is.stored.sequence == (sequence_in b.sequences q).number) (not (is.stored.chunk.partial && not (sequence_in b.sequences q).closed))
      (eq-eqb is.stored.sequence (sequence_in b.sequences q).number (eqb-true is.stored.sequence q of.0 ∙ sym (number_of b.sequences q known)))
      (ap (λ (p : Bool). not (p && not (sequence_in b.sequences q).closed)) is.whole) in
      subst (λ (x : Bool). IsFixed (place i k) (cond x (map lost_at (unread_start_places (sequence_in b.sequences q) is.stored.chunk_id is.stored.chunk)) [])) (sym lost)
      (subst (λ (n : ℕ). IsFixed (place i k) (map lost_at (unread_start_places (sequence_in b.sequences q) n is.stored.chunk))) (sym (eqb-true is.stored.chunk_id i of.1))
      (unread_fixed (sequence_in b.sequences q) i is.stored.chunk k is.inside is.begins is.unread))

  settled_loses : (p chunk_id : ℕ) (chunk fixing : Chunk) (partial : Bool) (outcome : Arrived) → live_at (settled outcome b p chunk_id chunk) q i ≡ None
      → IsFixed (place i k) (fixed_by_arrival b (sequence_in b.sequences q) (sequence_in b.sequences p) outcome partial chunk_id fixing)
  settled_loses p chunk_id chunk fixing partial Kept none =
      displaced q i (place i k) (sequence_in b.sequences q) (meets b (sequence_in b.sequences p).size)
      (record { sequence = p; chunk_id = chunk_id; at = place_after b.room b.next (sequence_in b.sequences p).size; size = (sequence_in b.sequences p).size; chunk = chunk } ∷ [])
      b.live is.stored is.there none own_loss
  settled_loses p chunk_id chunk fixing partial Rewritten none =
      absurd (some_none (live_at b q i) is.there
      (none_changed q i (λ stored. cond (is_of p chunk_id stored) (record stored { chunk = chunk }) stored) (λ r. same_of q i r chunk (is_of p chunk_id r)) b.live none))
  settled_loses p chunk_id chunk fixing partial Duplicate none = absurd (some_none (live_at b q i) is.there none)
  settled_loses p chunk_id chunk fixing partial Discarded none = absurd (by_part chunk.partial none)
    where
      by_part : (x : Bool) → live_at (cond x (record b { shut = true }) (discarded_buffer b p chunk_id chunk)) q i ≡ None → ⊥
      by_part true none = some_none (live_at b q i) is.there none
      by_part false none = some_none (live_at b q i) is.there none
  settled_loses p chunk_id chunk fixing partial TooFar none = absurd (some_none (live_at b q i) is.there none)
  settled_loses p chunk_id chunk fixing partial (BadChunk fragment) none = absurd (some_none (live_at b q i) is.there none)

  after_loses : (event : Event) → live_at (after b event) q i ≡ None → IsFixed (place i k) (fixed_by b (sequence_in b.sequences q) event)
  after_loses (Arrives p chunk_id chunk) none = settled_loses p chunk_id (complete_chunk chunk) chunk false (arrival_of b p chunk_id) none
  after_loses (ArrivesInPart p chunk_id chunk) none =
      settled_loses p chunk_id (partial_chunk chunk) chunk true (partial_arrival_of b p chunk_id (length chunk.fragments)) none
  after_loses (Patched p patches) none = absurd (some_none (live_at b q i) is.there (none_patched q i p patches b none))
  after_loses (Committed image patches) none =
      by_reading (reading_of image.count image.payload) (none_patched q i image.sequence patches (with_image b image) none)
    where
      by_reading : (reading : Reading) → live_at (once_read b (with_arrival b image.sequence image.chunk_id) image.flags reading) q i ≡ None
          → IsFixed (place i k) (fixed_once_read b (sequence_in b.sequences q) image.sequence image.chunk_id image.flags reading)
      by_reading (Fragments fragments) none =
          settled_loses image.sequence image.chunk_id (complete_chunk (whole_chunk image.flags fragments)) (whole_chunk image.flags fragments) false
          (arrival_of b image.sequence image.chunk_id) none
      by_reading (Unreadable number) none = absurd (some_none (live_at b q i) is.there none)
  after_loses (Closed p) none = absurd (by_close (sequence_in b.sequences p).closed none)
    where
      by_close : (x : Bool) → live_at (cond x b (closed_buffer b p)) q i ≡ None → ⊥
      by_close true none = some_none (live_at b q i) is.there none
      by_close false none = some_none (live_at b q i) is.there none
  after_loses (Read p limit) none = absurd (some_none (live_at b q i) is.there none)

  pub event_loses : (event : Event) → live_at (buffer_after b event) q i ≡ None
      → IsFixed (place i k) (cond (is_known b.sequences (event_sequence event)) (fixed_by b (sequence_in b.sequences q) event) [])
  event_loses event none = by_known (is_known b.sequences (event_sequence event)) none
    where
      by_known : (x : Bool) → live_at (cond x (after b event) b) q i ≡ None → IsFixed (place i k) (cond x (fixed_by b (sequence_in b.sequences q) event) [])
      by_known true none = after_loses event none
      by_known false none = absurd (some_none (live_at b q i) is.there none)
