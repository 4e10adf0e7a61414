-- All reads of a sequence together deliver what one read of all that they pass would.
use Rattle.std.proofs.Common.{◌≡◌, ◌∙◌, ℕ, ◌+◌, ◌≤◌, Bool, true, false, not, ◌||◌, List, [], ◌∷◌, ◌++◌, map, length, refl, sym, ap, subst, arith, inl, inr, Some}
use Rattle.std.specs.Prelude.{cond, ◌⊎◌, ◌==◌, filter, slice_get}
use Rattle.std.proofs.lemmas.Bool.{cases_eq, eqb-true, eq-eqb, ne_eqb, false≢true}
use Rattle.trace_base.proofs.Lists.{get_seam}
use Rattle.trace_model.specs.Counts.{raised}
use Rattle.trace_model.specs.Images.{Chunk, whole_chunk, complete_chunk, partial_chunk}
use Rattle.trace_model.specs.Reading.{Reading, Fragments, Unreadable, reading_of}
use Rattle.trace_model.specs.Sequences.{Sequence, sequence_in, is_known, changed_at}
use Rattle.trace_model.specs.Buffers.{Buffer, BufferRecord, meets, with_losses, empty_buffer}
use Rattle.trace_model.specs.Arrivals.{Arrived, Kept, Rewritten, Duplicate, Discarded, TooFar, BadChunk, arrival_of, partial_arrival_of, with_arrived, with_discarded, discarded_buffer, settled, makes_arrive, with_arrival, once_read, with_image}
use Rattle.trace_model.specs.Patches.{with_patches, closed_sequence, closed_buffer, with_close}
use Rattle.trace_model.specs.Row.{Link, row_from_cursor}
use Rattle.trace_model.specs.Reads.{Delivery, turn_of, delivers, count_of, passed_by, link_bytes, delivered_of, missing_after, sequence_after, is_marked, delivered_by, with_read}
use Rattle.trace_model.specs.History.{Event, Arrives, ArrivesInPart, Patched, Committed, Closed, Read, event_sequence, after, buffer_after, delivered_at, delivered_to}
use Rattle.trace_model.proofs.SequenceLemmas.{sequence_in-map, known-map, changed_here, changed_other, known_changed}
use Rattle.trace_model.proofs.CountedLemmas.{patched_sequences}
use Rattle.model_laws.specs.MarkLaws.{links_at, links_passed, ends_delivered, MarksTellWhatIsMissing}
use Rattle.model_laws.proofs.PlaceCounts.{count-cons}

-- Lists of links

delivered-append : (xs ys : List Link) (marked : Bool) → delivered_of marked (xs ++ ys) ≡ delivered_of marked xs ++ delivered_of (missing_after marked xs) ys
delivered-append [] ys marked = refl
delivered-append (link ∷ xs) ys marked = step (delivers (turn_of link)) (delivered-append xs ys)
  where
    step : (b : Bool) → ((m : Bool) → delivered_of m (xs ++ ys) ≡ delivered_of m xs ++ delivered_of (missing_after m xs) ys)
        → cond b (record { body = link_bytes link; marked = marked } ∷ delivered_of false (xs ++ ys)) (delivered_of true (xs ++ ys))
        ≡ cond b (record { body = link_bytes link; marked = marked } ∷ delivered_of false xs) (delivered_of true xs) ++ delivered_of (missing_after (not b) xs) ys
    step true k = ap (λ (ds : List Delivery). record { body = link_bytes link; marked = marked } ∷ ds) (k false)
    step false k = k true

pub delivered-long : (xs : List Link) (marked : Bool) → length (delivered_of marked xs) ≡ count_of delivers xs
delivered-long [] marked = refl
delivered-long (link ∷ xs) marked =
    let one = count-cons (λ (l : Link). delivers (turn_of l)) link xs in
    step (delivers (turn_of link)) (delivered-long xs) ∙ sym one
  where
    step : (b : Bool) → ((m : Bool) → length (delivered_of m xs) ≡ count_of delivers xs)
        → length (cond b (record { body = link_bytes link; marked = marked } ∷ delivered_of false xs) (delivered_of true xs)) ≡ cond b 1 0 + count_of delivers xs
    step true k = let rest = k false in omega (arith, rest)
    step false k = let rest = k true in omega (arith, rest)

-- something was passed since the last delivery, or nothing was delivered yet
missing_is : (links : List Link) → missing_after true links ≡ not (ends_delivered links)
missing_is [] = refl
missing_is (link ∷ []) = refl
missing_is (link ∷ next ∷ links) = missing_is (next ∷ links)

some_delivered : (links : List Link) → missing_after true links ≡ false → 1 ≤ count_of delivers links
some_delivered [] h = absurd (false≢true (sym h))
some_delivered (link ∷ links) h =
    let one = count-cons (λ (l : Link). delivers (turn_of l)) link links in
    step (delivers (turn_of link)) refl h one (some_delivered links)
  where
    step : (b : Bool) → delivers (turn_of link) ≡ b → missing_after (not b) links ≡ false → count_of delivers (link ∷ links) ≡ cond (delivers (turn_of link)) 1 0 + count_of delivers links
        → (missing_after true links ≡ false → 1 ≤ count_of delivers links) → 1 ≤ count_of delivers (link ∷ links)
    step true e m one k = let own : cond {A = ℕ} (delivers (turn_of link)) 1 0 ≡ 1 = ap (λ (x : Bool). cond {A = ℕ} x 1 0) e in omega (arith, one, own)
    step false e m one k = let rest = k m in omega (arith, one, rest)

marked_after : (links : List Link) (missing : Bool) (delivered : ℕ)
    → (missing_after missing links || (raised delivered (count_of delivers links) == 0)) ≡ missing_after (missing || (delivered == 0)) links
marked_after [] missing delivered = let same : raised delivered 0 ≡ delivered = omega arith in ap (λ (n : ℕ). missing || (n == 0)) same
marked_after (link ∷ links) missing delivered = step (missing_after (not (delivers (turn_of link))) links) refl
  where
    some : (b : Bool) → delivers (turn_of link) ≡ b → missing_after (not b) links ≡ false → 1 ≤ count_of delivers (link ∷ links)
    some true e m =
        let one = count-cons (λ (l : Link). delivers (turn_of l)) link links in
        let own : cond {A = ℕ} (delivers (turn_of link)) 1 0 ≡ 1 = ap (λ (x : Bool). cond {A = ℕ} x 1 0) e in
        omega (arith, one, own)
    some false e m =
        let one = count-cons (λ (l : Link). delivers (turn_of l)) link links in
        let rest = some_delivered links m in
        omega (arith, one, rest)

    step : (b : Bool) → missing_after (not (delivers (turn_of link))) links ≡ b
        → (missing_after (not (delivers (turn_of link))) links || (raised delivered (count_of delivers (link ∷ links)) == 0)) ≡ missing_after (not (delivers (turn_of link))) links
    step true e = ap (λ (x : Bool). x || (raised delivered (count_of delivers (link ∷ links)) == 0)) e ∙ sym e
    step false e =
        let least = some (delivers (turn_of link)) refl e in
        let more : 1 ≤ raised delivered (count_of delivers (link ∷ links)) = omega (arith, least) in
        ap (λ (x : Bool). x || (raised delivered (count_of delivers (link ∷ links)) == 0)) e
        ∙ ne_eqb (raised delivered (count_of delivers (link ∷ links))) 0 (λ z. absurd (omega (arith, z, more)))
        ∙ sym e

-- What other events leave

record Keeps (q : ℕ) (old new : List Sequence) : Type 0 where
  known : is_known new q ≡ true
  missing : (sequence_in new q).missing ≡ (sequence_in old q).missing
  delivered : (sequence_in new q).delivered ≡ (sequence_in old q).delivered

keeps_same : (q : ℕ) (ss : List Sequence) → is_known ss q ≡ true → Keeps q ss ss
keeps_same q ss known = record { known = known; missing = refl; delivered = refl }

keeps_both : (q : ℕ) (a b c : List Sequence) → Keeps q a b → Keeps q b c → Keeps q a c
keeps_both q a b c h k = record { known = k.known; missing = k.missing ∙ h.missing; delivered = k.delivered ∙ h.delivered }

keeps_changed : (p q : ℕ) (f : Sequence → Sequence) → ((s : Sequence) → (f s).number ≡ s.number) → ((s : Sequence) → (f s).missing ≡ s.missing)
    → ((s : Sequence) → (f s).delivered ≡ s.delivered) → (ss : List Sequence) → is_known ss q ≡ true → Keeps q ss (changed_at p f ss)
keeps_changed p q f number missing delivered ss known = step (cases_eq p q)
  where
    step : ((p ≡ q) ⊎ (p ≡ q → ⊥)) → Keeps q ss (changed_at p f ss)
    step (inl e) =
        let same : sequence_in (changed_at p f ss) q ≡ f (sequence_in ss q) =
        subst (λ (n : ℕ). sequence_in (changed_at n f ss) q ≡ f (sequence_in ss q)) (sym e) (changed_here q f number ss known) in
        record {
          known = known_changed p q f number ss ∙ known;
          missing = ap (λ (s : Sequence). s.missing) same ∙ missing (sequence_in ss q);
          delivered = ap (λ (s : Sequence). s.delivered) same ∙ delivered (sequence_in ss q);
        }
    step (inr d) =
        let same : sequence_in (changed_at p f ss) q ≡ sequence_in ss q = changed_other p q f number ss known d in
        record {
          known = known_changed p q f number ss ∙ known;
          missing = ap (λ (s : Sequence). s.missing) same;
          delivered = ap (λ (s : Sequence). s.delivered) same;
        }

keeps_losses : (q : ℕ) (records : List BufferRecord) (ss : List Sequence) → is_known ss q ≡ true → Keeps q ss (map (with_losses records) ss)
keeps_losses q records ss known =
    let same : sequence_in (map (with_losses records) ss) q ≡ with_losses records (sequence_in ss q) = sequence_in-map (with_losses records) (λ s. refl) ss q known in
    record {
      known = known-map (with_losses records) (λ s. refl) ss q ∙ known;
      missing = ap (λ (s : Sequence). s.missing) same;
      delivered = ap (λ (s : Sequence). s.delivered) same;
    }

keeps_settled : (outcome : Arrived) (q p chunk_id : ℕ) (b : Buffer) (chunk : Chunk) → is_known b.sequences q ≡ true
    → Keeps q b.sequences (settled outcome b p chunk_id chunk).sequences
keeps_settled Kept q p chunk_id b chunk known = keeps_losses q (filter (meets b (sequence_in b.sequences p).size) b.live) b.sequences known
keeps_settled Discarded q p chunk_id b chunk known = step chunk.partial
  where
    step : (x : Bool) → Keeps q b.sequences (cond x (record b { shut = true }) (discarded_buffer b p chunk_id chunk)).sequences
    step true = keeps_same q b.sequences known
    step false = keeps_changed p q (with_discarded chunk_id chunk) (λ s. refl) (λ s. refl) (λ s. refl) b.sequences known
keeps_settled Rewritten q p chunk_id b chunk known = keeps_same q b.sequences known
keeps_settled Duplicate q p chunk_id b chunk known = keeps_same q b.sequences known
keeps_settled TooFar q p chunk_id b chunk known = keeps_same q b.sequences known
keeps_settled (BadChunk fragment) q p chunk_id b chunk known = keeps_same q b.sequences known

keeps_arrival : (q p chunk_id : ℕ) (b : Buffer) (chunk : Chunk) → is_known b.sequences q ≡ true → Keeps q b.sequences (with_arrival b p chunk_id chunk).sequences
keeps_arrival q p chunk_id b chunk known = step (makes_arrive (arrival_of b p chunk_id)) (keeps_settled (arrival_of b p chunk_id) q p chunk_id b (complete_chunk chunk) known)
  where
    step : (x : Bool) → Keeps q b.sequences (settled (arrival_of b p chunk_id) b p chunk_id (complete_chunk chunk)).sequences
        → Keeps q b.sequences (cond x (changed_at p (with_arrived chunk_id (length chunk.fragments)) (settled (arrival_of b p chunk_id) b p chunk_id (complete_chunk chunk)).sequences)
        (settled (arrival_of b p chunk_id) b p chunk_id (complete_chunk chunk)).sequences)
    step true k = keeps_both q b.sequences (settled (arrival_of b p chunk_id) b p chunk_id (complete_chunk chunk)).sequences
        (changed_at p (with_arrived chunk_id (length chunk.fragments)) (settled (arrival_of b p chunk_id) b p chunk_id (complete_chunk chunk)).sequences) k
        (keeps_changed p q (with_arrived chunk_id (length chunk.fragments)) (λ s. refl) (λ s. refl) (λ s. refl)
        (settled (arrival_of b p chunk_id) b p chunk_id (complete_chunk chunk)).sequences k.known)
    step false k = k

keeps_image : (reading : Reading) (q p chunk_id flags : ℕ) (b : Buffer) → is_known b.sequences q ≡ true
    → Keeps q b.sequences (once_read b (with_arrival b p chunk_id) flags reading).sequences
keeps_image (Fragments fragments) q p chunk_id flags b known = keeps_arrival q p chunk_id b (whole_chunk flags fragments) known
keeps_image (Unreadable number) q p chunk_id flags b known = keeps_same q b.sequences known

keeps_closed : (x : Bool) (q p : ℕ) (b : Buffer) → is_known b.sequences q ≡ true → Keeps q b.sequences (cond x b (closed_buffer b p)).sequences
keeps_closed true q p b known = keeps_same q b.sequences known
keeps_closed false q p b known = keeps_changed p q (closed_sequence b.live) (λ s. refl) (λ s. refl) (λ s. refl) b.sequences known

-- Events

-- what an event leaves of the mark, once it has passed its links
record Goes (q : ℕ) (old new : Buffer) (links : List Link) : Type 0 where
  known : is_known new.sequences q ≡ true
  marked : is_marked (sequence_in new.sequences q) ≡ missing_after (is_marked (sequence_in old.sequences q)) links

goes_kept : (q : ℕ) (old new : Buffer) → Keeps q old.sequences new.sequences → Goes q old new []
goes_kept q old new k = record {
  known = k.known;
  marked = ap (λ (m : Bool). m || ((sequence_in new.sequences q).delivered == 0)) k.missing
      ∙ ap (λ (n : ℕ). (sequence_in old.sequences q).missing || (n == 0)) k.delivered;
}

goes_read : (q p limit : ℕ) (b : Buffer) → is_known b.sequences q ≡ true → Goes q b (with_read b p limit) (links_at q b (Read p limit))
goes_read q p limit b known = step (cases_eq p q)
  where
    own : Goes q b (with_read b q limit) (passed_by limit (row_from_cursor b (sequence_in b.sequences q)))
    own =
        let s : Sequence = sequence_in b.sequences q in
        let links : List Link = passed_by limit (row_from_cursor b s) in
        let same : sequence_in (with_read b q limit).sequences q ≡ sequence_after links s = changed_here q (sequence_after links) (λ t. refl) b.sequences known in
        record {
          known = known_changed q q (sequence_after links) (λ t. refl) b.sequences ∙ known;
          marked = ap is_marked same ∙ marked_after links s.missing s.delivered;
        }

    step : ((p ≡ q) ⊎ (p ≡ q → ⊥)) → Goes q b (with_read b p limit) (cond (p == q) (passed_by limit (row_from_cursor b (sequence_in b.sequences p))) [])
    step (inl e) =
        subst (λ (x : Bool). Goes q b (with_read b p limit) (cond x (passed_by limit (row_from_cursor b (sequence_in b.sequences p))) [])) (sym (eq-eqb p q e))
        (subst (λ (n : ℕ). Goes q b (with_read b n limit) (passed_by limit (row_from_cursor b (sequence_in b.sequences n)))) (sym e) own)
    step (inr d) =
        let links : List Link = passed_by limit (row_from_cursor b (sequence_in b.sequences p)) in
        let same : sequence_in (with_read b p limit).sequences q ≡ sequence_in b.sequences q = changed_other p q (sequence_after links) (λ t. refl) b.sequences known d in
        subst (λ (x : Bool). Goes q b (with_read b p limit) (cond x links [])) (sym (ne_eqb p q d))
        (record { known = known_changed p q (sequence_after links) (λ t. refl) b.sequences ∙ known; marked = ap is_marked same })

goes_event : (q : ℕ) (b : Buffer) (event : Event) → is_known b.sequences q ≡ true → Goes q b (after b event) (links_at q b event)
goes_event q b (Arrives p chunk_id chunk) known = goes_kept q b (with_arrival b p chunk_id chunk) (keeps_arrival q p chunk_id b chunk known)
goes_event q b (ArrivesInPart p chunk_id chunk) known =
    goes_kept q b (settled (partial_arrival_of b p chunk_id (length chunk.fragments)) b p chunk_id (partial_chunk chunk))
    (keeps_settled (partial_arrival_of b p chunk_id (length chunk.fragments)) q p chunk_id b (partial_chunk chunk) known)
goes_event q b (Patched p patches) known =
    goes_kept q b (with_patches b p patches) (subst (λ (ss : List Sequence). Keeps q b.sequences ss) (sym (patched_sequences patches b p)) (keeps_same q b.sequences known))
goes_event q b (Committed image patches) known =
    goes_kept q b (with_patches (with_image b image) image.sequence patches)
    (subst (λ (ss : List Sequence). Keeps q b.sequences ss) (sym (patched_sequences patches (with_image b image) image.sequence))
    (keeps_image (reading_of image.count image.payload) q image.sequence image.chunk_id image.flags b known))
goes_event q b (Closed p) known = goes_kept q b (with_close b p) (keeps_closed (sequence_in b.sequences p).closed q p b known)
goes_event q b (Read p limit) known = goes_read q p limit b known

-- a buffer that doesn't have the event's sequence takes no part in it
none_at : (q : ℕ) (b : Buffer) (event : Event) → is_known b.sequences q ≡ true → is_known b.sequences (event_sequence event) ≡ false → links_at q b event ≡ []
none_at q b (Arrives p chunk_id chunk) known h = refl
none_at q b (ArrivesInPart p chunk_id chunk) known h = refl
none_at q b (Patched p patches) known h = refl
none_at q b (Committed image patches) known h = refl
none_at q b (Closed p) known h = refl
none_at q b (Read p limit) known h =
    ap (λ (x : Bool). cond x (passed_by limit (row_from_cursor b (sequence_in b.sequences p))) [])
    (ne_eqb p q (λ e. false≢true (sym h ∙ subst (λ (n : ℕ). is_known b.sequences n ≡ true) (sym e) known)))

goes_after : (q : ℕ) (b : Buffer) (event : Event) → is_known b.sequences q ≡ true → Goes q b (buffer_after b event) (links_at q b event)
goes_after q b event known = step (is_known b.sequences (event_sequence event)) refl
  where
    step : (x : Bool) → is_known b.sequences (event_sequence event) ≡ x → Goes q b (cond x (after b event) b) (links_at q b event)
    step true e = goes_event q b event known
    step false e = subst (λ (ls : List Link). Goes q b b ls) (sym (none_at q b event known e)) (record { known = known; marked = refl })

pub known_behind : (q : ℕ) (b : Buffer) (event : Event) → is_known b.sequences q ≡ true → is_known (buffer_after b event).sequences q ≡ true
known_behind q b event known = (goes_after q b event known).known

-- what the event delivers
delivered_here : (q : ℕ) (b : Buffer) (event : Event) → delivered_at q b event ≡ delivered_of (is_marked (sequence_in b.sequences q)) (links_at q b event)
delivered_here q b (Arrives p chunk_id chunk) = refl
delivered_here q b (ArrivesInPart p chunk_id chunk) = refl
delivered_here q b (Patched p patches) = refl
delivered_here q b (Committed image patches) = refl
delivered_here q b (Closed p) = refl
delivered_here q b (Read p limit) = step (p == q) refl
  where
    step : (x : Bool) → (p == q) ≡ x → cond x (delivered_by b p limit) []
        ≡ delivered_of (is_marked (sequence_in b.sequences q)) (cond x (passed_by limit (row_from_cursor b (sequence_in b.sequences p))) [])
    step true e = ap (λ (n : ℕ). delivered_of (is_marked (sequence_in b.sequences n)) (passed_by limit (row_from_cursor b (sequence_in b.sequences p)))) (eqb-true p q e)
    step false e = refl

-- nothing, where the buffer doesn't have the event's sequence
pub delivers_elsewhere : (q : ℕ) (b : Buffer) (event : Event) → is_known b.sequences q ≡ true → is_known b.sequences (event_sequence event) ≡ false
    → delivered_at q b event ≡ []
delivers_elsewhere q b event known e =
    delivered_here q b event ∙ ap (delivered_of (is_marked (sequence_in b.sequences q))) (none_at q b event known e)

delivered_all : (events : List Event) (q : ℕ) (b : Buffer) → is_known b.sequences q ≡ true
    → delivered_to q b events ≡ delivered_of (is_marked (sequence_in b.sequences q)) (links_passed q b events)
delivered_all [] q b known = refl
delivered_all (event ∷ events) q b known =
    let goes : Goes q b (buffer_after b event) (links_at q b event) = goes_after q b event known in
    let marked : Bool = is_marked (sequence_in b.sequences q) in
    ap (λ (ds : List Delivery). ds ++ delivered_to q (buffer_after b event) events) (delivered_here q b event)
    ∙ ap (λ (ds : List Delivery). delivered_of marked (links_at q b event) ++ ds) (delivered_all events q (buffer_after b event) goes.known)
    ∙ ap (λ (m : Bool). delivered_of marked (links_at q b event) ++ delivered_of m (links_passed q (buffer_after b event) events)) goes.marked
    ∙ sym (delivered-append (links_at q b event) (links_passed q (buffer_after b event) events) marked)

-- Places in what is delivered

pub marks_tell_what_is_missing : MarksTellWhatIsMissing
marks_tell_what_is_missing room policy sequences sequence size events known start =
    let b : Buffer = empty_buffer room policy sequences in
    let links : List Link = links_passed sequence b events in
    let all : delivered_to sequence b events ≡ delivered_of true links =
    delivered_all events sequence b known ∙ ap (λ (s : Sequence). delivered_of (is_marked s) links) start in
    record {
      many = ap length all ∙ delivered-long links true;
      each = λ before behind link split delivered.
          let first : List Delivery = delivered_of true before in
          let one : delivered_of (missing_after true before) (link ∷ behind) ≡ record { body = link_bytes link; marked = missing_after true before } ∷ delivered_of false behind =
          ap (λ (x : Bool). cond x (record { body = link_bytes link; marked = missing_after true before } ∷ delivered_of false behind) (delivered_of true behind)) delivered in
          ap (λ (ds : List Delivery). slice_get ds (count_of delivers before))
          (all ∙ ap (delivered_of true) split ∙ delivered-append before (link ∷ behind) true ∙ ap (λ (ds : List Delivery). first ++ ds) one)
          ∙ ap (slice_get (first ++ record { body = link_bytes link; marked = missing_after true before } ∷ delivered_of false behind)) (sym (delivered-long before true))
          ∙ get_seam first (delivered_of false behind) (record { body = link_bytes link; marked = missing_after true before })
          ∙ ap (λ (m : Bool). Some (record { body = link_bytes link; marked = m })) (missing_is before);
    }
