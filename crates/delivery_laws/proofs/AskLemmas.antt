-- A history asks for no more than a record for each chunk: each that asks had none, and has one from then on.
use Rattle.std.proofs.Common.{◌≡◌, ◌∙◌, ℕ, zero, suc, ◌+◌, ◌*◌, ◌<◌, ◌≤◌, ◌⊎◌, Bool, true, false, ◌&&◌, ◌||◌, List, [], ◌∷◌, length, map, Option, Some, None, refl, sym, ap, subst, arith, inl, inr, mul-le-mul_right, suc-mul}
use Rattle.std.specs.Prelude.{cond, ◌==◌, find, is_some}
use Rattle.std.specs.List.{list_any}
use Rattle.std.proofs.lemmas.Bool.{false≢true, eqb-true, eq-eqb, and_from, or_left, or_right, cases_eq}
use Rattle.std.proofs.lemmas.List.Folds.{list_any-append}
use Rattle.trace_model.specs.Images.{Image, Chunk, Patch, last_holds, whole_chunk, complete_chunk, partial_chunk}
use Rattle.trace_model.specs.Reading.{Reading, Fragments, Unreadable, reading_of}
use Rattle.trace_model.specs.Places.{place_after}
use Rattle.trace_model.specs.Sequences.{Sequence, sequence_in, is_known, has_arrived, unread_of}
use Rattle.trace_model.specs.Buffers.{Buffer, BufferRecord, empty_buffer, is_of, live_at, made_room}
use Rattle.trace_model.specs.Arrivals.{Arrived, Kept, Rewritten, Duplicate, Discarded, TooFar, BadChunk, is_refused, is_too_far, has_as_many, placing_of, arrival_of, partial_arrival_of, outcome_of, settled, with_arrival, once_read, with_image}
use Rattle.trace_model.specs.Patches.{awaits_at, patched_chunk, with_patch, with_patches}
use Rattle.trace_model.specs.History.{Event, Arrives, ArrivesInPart, Patched, Committed, Closed, Read, event_sequence, after, buffer_after}
use Rattle.trace_model.proofs.ShapeLemmas.{Shape, shapes, known_shapes, shapes_event}
use Rattle.delivery_laws.specs.Room.{is_placing, asks_for, asks, asked, wanted, EachBelow}
use Rattle.delivery_laws.specs.EnoughLaws.{EveryAskIsCounted}
use Rattle.delivery_laws.proofs.RoomLemmas.{has_record, IsRoomy, Grows, event_grows, is_discarded, arrival_not, part_not}

pub known_after : (b : Buffer) (event : Event) (q : ℕ) → is_known (buffer_after b event).sequences q ≡ is_known b.sequences q
known_after b event q =
    known_shapes false (buffer_after b event).sequences q
    ∙ ap (λ (xs : List Shape). list_any (λ (s : Shape). s.number == q) xs) (shapes_event b event)
    ∙ sym (known_shapes false b.sequences q)

known_same : (b : Buffer) (ss : List Sequence) (q : ℕ) → shapes false b.sequences ≡ shapes false ss → is_known b.sequences q ≡ true → is_known ss q ≡ true
known_same b ss q same k = known_shapes false ss q ∙ ap (λ (xs : List Shape). list_any (λ (s : Shape). s.number == q) xs) (sym same) ∙ sym (known_shapes false b.sequences q) ∙ k

-- the length of the records of a sequence
abbrev size_in : List Shape → ℕ → ℕ
size_in [] q = 0
size_in (s ∷ ss) q = cond (s.number == q) s.size (size_in ss q)

size_shapes : (ss : List Sequence) (q : ℕ) → (sequence_in ss q).size ≡ size_in (shapes false ss) q
size_shapes [] q = refl
size_shapes (s ∷ ss) q = step (s.number == q) (size_shapes ss q)
  where
    step : (b : Bool) → (sequence_in ss q).size ≡ size_in (shapes false ss) q → (cond b s (sequence_in ss q)).size ≡ cond b s.size (size_in (shapes false ss) q)
    step true e = refl
    step false e = e

-- The bytes of the chunks that have no record

-- how many of the first so many chunks have none
abbrev missing : ℕ → (ℕ → Bool) → ℕ
missing zero has = 0
missing (suc n) has = missing n has + cond {A = ℕ} (has n) 0 1

missing_less : (n : ℕ) (had has : ℕ → Bool) → ((i : ℕ) → had i ≡ true → has i ≡ true) → missing n has ≤ missing n had
missing_less zero had has stays = omega arith
missing_less (suc n) had has stays =
    let rest = missing_less n had has stays in
    step (had n) refl rest
  where
    step : (b : Bool) → had n ≡ b → missing n has ≤ missing n had → missing n has + cond {A = ℕ} (has n) 0 1 ≤ missing n had + cond {A = ℕ} b 0 1
    step true e rest = let here : cond {A = ℕ} (has n) 0 1 ≡ 0 = ap (λ (x : Bool). cond {A = ℕ} x 0 1) (stays n e) in omega (arith, here, rest)
    step false e rest = let most = at_most (has n) in omega (arith, most, rest)
      where
        at_most : (x : Bool) → cond {A = ℕ} x 0 1 ≤ 1
        at_most true = omega arith
        at_most false = omega arith

missing_fewer : (n i : ℕ) (had has : ℕ → Bool) → ((k : ℕ) → had k ≡ true → has k ≡ true) → i < n → had i ≡ false → has i ≡ true → suc (missing n has) ≤ missing n had
missing_fewer zero i had has stays low none some = absurd (omega (arith, low))
missing_fewer (suc n) i had has stays low none some = by_place (cases_eq i n) (λ l. missing_fewer n i had has stays l none some)
  where
    by_place : ((i ≡ n) ⊎ (i ≡ n → ⊥)) → (i < n → suc (missing n has) ≤ missing n had) → suc (missing n has + cond {A = ℕ} (has n) 0 1) ≤ missing n had + cond {A = ℕ} (had n) 0 1
    by_place (inl e) rest =
        let less = missing_less n had has stays in
        let now : cond {A = ℕ} (has n) 0 1 ≡ 0 = ap (λ (x : Bool). cond {A = ℕ} x 0 1) (subst (λ (k : ℕ). has k ≡ true) e some) in
        let before : cond {A = ℕ} (had n) 0 1 ≡ 1 = ap (λ (x : Bool). cond {A = ℕ} x 0 1) (subst (λ (k : ℕ). had k ≡ false) e none) in
        omega (arith, less, now, before)
    by_place (inr d) rest =
        let fewer = rest (grind (arith, low, d)) in
        step (had n) refl fewer
      where
        step : (b : Bool) → had n ≡ b → suc (missing n has) ≤ missing n had → suc (missing n has + cond {A = ℕ} (has n) 0 1) ≤ missing n had + cond {A = ℕ} b 0 1
        step true e fewer = let here : cond {A = ℕ} (has n) 0 1 ≡ 0 = ap (λ (x : Bool). cond {A = ℕ} x 0 1) (stays n e) in omega (arith, here, fewer)
        step false e fewer = let most = at_most (has n) in omega (arith, most, fewer)
          where
            at_most : (x : Bool) → cond {A = ℕ} x 0 1 ≤ 1
            at_most true = omega arith
            at_most false = omega arith

module _ (chunks : ℕ → ℕ) where
  abbrev want : List Shape → List BufferRecord → ℕ
  want [] live = 0
  want (s ∷ ss) live = missing (chunks s.number) (λ i. has_record s.number i live) * s.size + want ss live

  want_less : (ss : List Shape) (old new : List BufferRecord) → ((q i : ℕ) → has_record q i old ≡ true → has_record q i new ≡ true) → want ss new ≤ want ss old
  want_less [] old new stays = omega arith
  want_less (s ∷ ss) old new stays =
      let here = mul-le-mul_right s.size (missing_less (chunks s.number) (λ i. has_record s.number i old) (λ i. has_record s.number i new) (stays s.number)) in
      let rest = want_less ss old new stays in
      omega (arith, here, rest)

  want_fewer : (ss : List Shape) (q i : ℕ) (old new : List BufferRecord) → ((p k : ℕ) → has_record p k old ≡ true → has_record p k new ≡ true)
      → list_any (λ (s : Shape). s.number == q) ss ≡ true → i < chunks q → has_record q i old ≡ false → has_record q i new ≡ true
      → size_in ss q + want ss new ≤ want ss old
  want_fewer [] q i old new stays known low none some = absurd (false≢true known)
  want_fewer (s ∷ ss) q i old new stays known low none some = step (s.number == q) refl known (λ k. want_fewer ss q i old new stays k low none some)
    where
      step : (b : Bool) → (s.number == q) ≡ b → (b || list_any (λ (t : Shape). t.number == q) ss) ≡ true
          → (list_any (λ (t : Shape). t.number == q) ss ≡ true → size_in ss q + want ss new ≤ want ss old)
          → cond b s.size (size_in ss q) + (missing (chunks s.number) (λ k. has_record s.number k new) * s.size + want ss new)
          ≤ missing (chunks s.number) (λ k. has_record s.number k old) * s.size + want ss old
      step true e k rest =
          let same : q ≡ s.number = sym (eqb-true s.number q e) in
          let fewer = missing_fewer (chunks s.number) i (λ k. has_record s.number k old) (λ k. has_record s.number k new) (stays s.number)
          (subst (λ (n : ℕ). i < chunks n) same low) (subst (λ (n : ℕ). has_record n i old ≡ false) same none) (subst (λ (n : ℕ). has_record n i new ≡ true) same some) in
          let product = mul-le-mul_right s.size fewer in
          let one = suc-mul (missing (chunks s.number) (λ k. has_record s.number k new)) s.size in
          let others = want_less ss old new stays in
          omega (arith, product, one, others)
      step false e k rest =
          let here = mul-le-mul_right s.size (missing_less (chunks s.number) (λ k. has_record s.number k old) (λ k. has_record s.number k new) (stays s.number)) in
          let others = rest k in
          omega (arith, here, others)

  -- at the start each chunk is wanted
  want_all : (ss : List Sequence) → want (shapes false ss) [] ≡ wanted chunks ss
  want_all [] = refl
  want_all (s ∷ ss) =
      ap (λ (n : ℕ). n * s.size + want (shapes false ss) []) (none_there (chunks s.number)) ∙ ap (λ (n : ℕ). chunks s.number * s.size + n) (want_all ss)
    where
      none_there : (n : ℕ) → missing n (λ i. false) ≡ n
      none_there zero = refl
      none_there (suc n) = let e = none_there n in omega (arith, e)

-- What asks had no record, and has one then

none_found : (q i : ℕ) (rs : List BufferRecord) → find (is_of q i) rs ≡ None → has_record q i rs ≡ false
none_found q i [] e = refl
none_found q i (r ∷ rs) e = step (is_of q i r) e (none_found q i rs)
  where
    step : (b : Bool) → cond b (Some r) (find (is_of q i) rs) ≡ None → (find (is_of q i) rs ≡ None → has_record q i rs ≡ false) → (b || has_record q i rs) ≡ false
    step true e k = absurd (cc)
    step false e k = k e

abbrev Absent : Buffer → ℕ → ℕ → Arrived → Type 0
Absent b q i outcome = is_placing outcome ≡ true → has_record q i b.live ≡ false

placing_absent : (b : Buffer) (q i : ℕ) → Absent b q i (placing_of b q i)
placing_absent b q i = by_live (live_at b q i) refl
  where
    by_live : (o : Option BufferRecord) → live_at b q i ≡ o → Absent b q i (cond (is_some o) Rewritten (cond (is_refused b (sequence_in b.sequences q).size) Discarded Kept))
    by_live (Some r) e p = absurd (false≢true p)
    by_live None e p = none_found q i b.live e

arrival_absent : (b : Buffer) (q i : ℕ) → Absent b q i (arrival_of b q i)
arrival_absent b q i = by_case (has_arrived (sequence_in b.sequences q) i) (is_too_far (sequence_in b.sequences q) i)
  where
    by_case : (x y : Bool) → Absent b q i (cond x Duplicate (cond y TooFar (placing_of b q i)))
    by_case true y p = absurd (false≢true p)
    by_case false true p = absurd (false≢true p)
    by_case false false p = placing_absent b q i p

part_absent : (b : Buffer) (q i count : ℕ) → Absent b q i (partial_arrival_of b q i count)
part_absent b q i count =
    by_case (has_arrived (sequence_in b.sequences q) i || (has_as_many count (live_at b q i) || (unread_of (sequence_in b.sequences q) i count == 0)))
    (is_too_far (sequence_in b.sequences q) i)
  where
    by_case : (x y : Bool) → Absent b q i (cond x Duplicate (cond y TooFar (placing_of b q i)))
    by_case true y p = absurd (false≢true p)
    by_case false true p = absurd (false≢true p)
    by_case false false p = placing_absent b q i p

placed_has : (b : Buffer) (q i : ℕ) (chunk : Chunk) (outcome : Arrived) → is_placing outcome ≡ true → is_discarded outcome ≡ false → has_record q i (settled outcome b q i chunk).live ≡ true
placed_has b q i chunk Kept p d =
    list_any-append (is_of q i) (made_room b (sequence_in b.sequences q).size).live
    (record { sequence = q; chunk_id = i; at = place_after b.room b.next (sequence_in b.sequences q).size; size = (sequence_in b.sequences q).size; chunk = chunk } ∷ [])
    ∙ or_right (has_record q i (made_room b (sequence_in b.sequences q).size).live)
    (has_record q i (record { sequence = q; chunk_id = i; at = place_after b.room b.next (sequence_in b.sequences q).size; size = (sequence_in b.sequences q).size; chunk = chunk } ∷ []))
    (or_none ((q == q) && (i == i)) ∙ and_from (q == q) (i == i) (eq-eqb q q refl) (eq-eqb i i refl))
  where
    or_none : (a : Bool) → (a || false) ≡ a
    or_none true = refl
    or_none false = refl
placed_has b q i chunk Rewritten p d = absurd (false≢true p)
placed_has b q i chunk Duplicate p d = absurd (false≢true p)
placed_has b q i chunk Discarded p d = absurd (false≢true (sym d))
placed_has b q i chunk TooFar p d = absurd (false≢true p)
placed_has b q i chunk (BadChunk fragment) p d = absurd (false≢true p)

patch_keeps : (b : Buffer) (q p i : ℕ) (patch : Patch) → has_record q i b.live ≡ true → has_record q i (with_patch b p patch).live ≡ true
patch_keeps b q p i patch h = same_any b.live ∙ h
  where
    same_of : (r : BufferRecord) (x : Bool) → is_of q i (cond x (record r { chunk = patched_chunk patch r.chunk }) r) ≡ is_of q i r
    same_of r true = refl
    same_of r false = refl

    same_any : (rs : List BufferRecord) → has_record q i (map (λ stored. cond (awaits_at p patch.chunk_id stored && last_holds stored.chunk.fragments patch) (record stored { chunk = patched_chunk patch stored.chunk }) stored) rs) ≡ has_record q i rs
    same_any [] = refl
    same_any (r ∷ rs) =
        ap (λ (x : Bool). x || has_record q i (map (λ stored. cond (awaits_at p patch.chunk_id stored && last_holds stored.chunk.fragments patch) (record stored { chunk = patched_chunk patch stored.chunk }) stored) rs))
        (same_of r (awaits_at p patch.chunk_id r && last_holds r.chunk.fragments patch))
        ∙ ap (λ (x : Bool). is_of q i r || x) (same_any rs)

patches_keep : (b : Buffer) (q i : ℕ) (patches : List Patch) → has_record q i b.live ≡ true → has_record q i (with_patches b q patches).live ≡ true
patches_keep b q i [] h = h
patches_keep b q i (patch ∷ patches) h = patches_keep (with_patch b q patch) q i patches (patch_keeps b q q i patch h)

-- An event, in a buffer that has room for all that is wanted

module _ (chunks : ℕ → ℕ) where
  -- what an event asks is wanted before and not behind it
  record IsCounted (shape : List Shape) (b new : Buffer) (asking : ℕ) : Type 0 where
    fits : b.next + asking ≤ b.room
    fewer : Grows b new asking → asking + want chunks shape new.live ≤ want chunks shape b.live

  counted_none : (shape : List Shape) (b new : Buffer) → b.next + want chunks shape b.live ≤ b.room → IsCounted shape b new 0
  counted_none shape b new low = record {
    fits = omega (arith, low);
    fewer = λ g. let less = want_less chunks shape b.live new.live g.stays in omega (arith, less);
  }

  -- a chunk that comes, whole or in part
  counted_chunk : (b new : Buffer) (q i : ℕ) (outcome : Arrived) → IsRoomy b → b.next + want chunks (shapes false b.sequences) b.live ≤ b.room → is_known b.sequences q ≡ true → i < chunks q
      → Absent b q i outcome → (is_placing outcome ≡ true → b.next + asks_for outcome (sequence_in b.sequences q).size ≤ b.room → has_record q i new.live ≡ true)
      → IsCounted (shapes false b.sequences) b new (asks_for outcome (sequence_in b.sequences q).size)
  counted_chunk b new q i outcome roomy low known below absent has = by_placing (is_placing outcome) refl
    where
      by_placing : (x : Bool) → is_placing outcome ≡ x → IsCounted (shapes false b.sequences) b new (cond x (sequence_in b.sequences q).size 0)
      by_placing false p = counted_none (shapes false b.sequences) b new low
      by_placing true p =
          let size = size_shapes b.sequences q in
          let one : BufferRecord = record { sequence = q; chunk_id = i; at = 0; size = 0; chunk = record { continues = false; runs_on = false; awaits = false; partial = false; fragments = [] } } in
          let most = want_fewer chunks (shapes false b.sequences) q i b.live (one ∷ b.live) (λ p k h. or_right (is_of p k one) (has_record p k b.live) h)
          (sym (known_shapes false b.sequences q) ∙ known) below (absent p)
          (or_left (is_of q i one) (has_record q i b.live) (and_from (q == q) (i == i) (eq-eqb q q refl) (eq-eqb i i refl))) in
          let room : b.next + (sequence_in b.sequences q).size ≤ b.room = omega (arith, size, most, low) in
          record {
            fits = room;
            fewer = λ g.
                let less = want_fewer chunks (shapes false b.sequences) q i b.live new.live g.stays (sym (known_shapes false b.sequences q) ∙ known) below (absent p)
                (has p (subst (λ (y : Bool). b.next + cond y (sequence_in b.sequences q).size 0 ≤ b.room) (sym p) room)) in
                omega (arith, less, size);
          }

  abbrev EventBelow : List Sequence → Event → Type 0
  EventBelow ss (Arrives q i chunk) = is_known ss q ≡ true → i < chunks q
  EventBelow ss (ArrivesInPart q i chunk) = is_known ss q ≡ true → i < chunks q
  EventBelow ss (Committed image patches) = is_known ss image.sequence ≡ true → image.chunk_id < chunks image.sequence
  EventBelow ss event = Unit {0}

  counted_image : (b : Buffer) (image : Image) (patches : List Patch) → IsRoomy b → b.next + want chunks (shapes false b.sequences) b.live ≤ b.room → is_known b.sequences image.sequence ≡ true
      → image.chunk_id < chunks image.sequence
      → IsCounted (shapes false b.sequences) b (with_patches (with_image b image) image.sequence patches) (asks b (Committed image patches))
  counted_image b image patches roomy low known below = by_reading (reading_of image.count image.payload)
    where
      by_reading : (reading : Reading)
          → IsCounted (shapes false b.sequences) b (with_patches (once_read b (with_arrival b image.sequence image.chunk_id) image.flags reading) image.sequence patches)
          (asks_for (outcome_of (arrival_of b image.sequence image.chunk_id) reading) (sequence_in b.sequences image.sequence).size)
      by_reading (Unreadable number) = counted_none (shapes false b.sequences) b (with_patches b image.sequence patches) low
      by_reading (Fragments fragments) =
          counted_chunk b (with_patches (with_arrival b image.sequence image.chunk_id (whole_chunk image.flags fragments)) image.sequence patches) image.sequence image.chunk_id
          (arrival_of b image.sequence image.chunk_id) roomy low known below (arrival_absent b image.sequence image.chunk_id)
          (λ p fits. patches_keep (with_arrival b image.sequence image.chunk_id (whole_chunk image.flags fragments)) image.sequence image.chunk_id patches
          (placed_has b image.sequence image.chunk_id (complete_chunk (whole_chunk image.flags fragments)) (arrival_of b image.sequence image.chunk_id) p
          (arrival_not b image.sequence image.chunk_id roomy fits)))

  counted_after : (b : Buffer) (event : Event) → IsRoomy b → b.next + want chunks (shapes false b.sequences) b.live ≤ b.room → is_known b.sequences (event_sequence event) ≡ true
      → EventBelow b.sequences event → IsCounted (shapes false b.sequences) b (after b event) (asks b event)
  counted_after b (Arrives q i chunk) roomy low known below =
      counted_chunk b (with_arrival b q i chunk) q i (arrival_of b q i) roomy low known (below known) (arrival_absent b q i)
      (λ p fits. placed_has b q i (complete_chunk chunk) (arrival_of b q i) p (arrival_not b q i roomy fits))
  counted_after b (ArrivesInPart q i chunk) roomy low known below =
      counted_chunk b (settled (partial_arrival_of b q i (length chunk.fragments)) b q i (partial_chunk chunk)) q i (partial_arrival_of b q i (length chunk.fragments)) roomy low known (below known)
      (part_absent b q i (length chunk.fragments))
      (λ p fits. placed_has b q i (partial_chunk chunk) (partial_arrival_of b q i (length chunk.fragments)) p (part_not b q i (length chunk.fragments) roomy fits))
  counted_after b (Committed image patches) roomy low known below = counted_image b image patches roomy low known (below known)
  counted_after b (Patched q patches) roomy low known below = counted_none (shapes false b.sequences) b (after b (Patched q patches)) low
  counted_after b (Closed q) roomy low known below = counted_none (shapes false b.sequences) b (after b (Closed q)) low
  counted_after b (Read q limit) roomy low known below = counted_none (shapes false b.sequences) b (after b (Read q limit)) low

  counted_event : (b : Buffer) (event : Event) → IsRoomy b → b.next + want chunks (shapes false b.sequences) b.live ≤ b.room → EventBelow b.sequences event
      → IsCounted (shapes false b.sequences) b (buffer_after b event) (cond (is_known b.sequences (event_sequence event)) (asks b event) 0)
  counted_event b event roomy low below = step (is_known b.sequences (event_sequence event)) refl
    where
      step : (x : Bool) → is_known b.sequences (event_sequence event) ≡ x → IsCounted (shapes false b.sequences) b (cond x (after b event) b) (cond x (asks b event) 0)
      step true e = counted_after b event roomy low e below
      step false e = counted_none (shapes false b.sequences) b b low

  first_below : (b : Buffer) (ss : List Sequence) (event : Event) (events : List Event) → shapes false b.sequences ≡ shapes false ss → EachBelow chunks ss (event ∷ events)
      → EventBelow b.sequences event × EachBelow chunks ss events
  first_below b ss (Arrives q i chunk) events same below = ((λ k. below.0 (known_same b ss q same k)), below.1)
  first_below b ss (ArrivesInPart q i chunk) events same below = ((λ k. below.0 (known_same b ss q same k)), below.1)
  first_below b ss (Committed image patches) events same below = ((λ k. below.0 (known_same b ss image.sequence same k)), below.1)
  first_below b ss (Patched q patches) events same below = (tt, below)
  first_below b ss (Closed q) events same below = (tt, below)
  first_below b ss (Read q limit) events same below = (tt, below)

  asked_few : (events : List Event) (b : Buffer) (ss : List Sequence) → shapes false b.sequences ≡ shapes false ss → EachBelow chunks ss events → IsRoomy b
      → b.next + want chunks (shapes false b.sequences) b.live ≤ b.room → asked b events ≤ want chunks (shapes false b.sequences) b.live
  asked_few [] b ss same below roomy low = omega arith
  asked_few (event ∷ events) b ss same below roomy low =
      let parts = first_below b ss event events same below in
      let counted = counted_event b event roomy low parts.0 in
      let grows = event_grows b event roomy counted.fits in
      let shape = shapes_event b event in
      let fewer = counted.fewer grows in
      let next = grows.next in
      let room = grows.room in
      let now : want chunks (shapes false (buffer_after b event).sequences) (buffer_after b event).live ≡ want chunks (shapes false b.sequences) (buffer_after b event).live =
      ap (λ (xs : List Shape). want chunks xs (buffer_after b event).live) shape in
      let rest = asked_few events (buffer_after b event) ss (shape ∙ same) parts.1 grows.roomy (omega (arith, low, fewer, next, room, now)) in
      omega (arith, fewer, rest, now)

pub every_ask_is_counted : EveryAskIsCounted
every_ask_is_counted room policy sequences chunks events below low =
    let all = want_all chunks sequences in
    let few = asked_few chunks events (empty_buffer room policy sequences) sequences refl below (record { below = tt; unshut = refl }) (omega (arith, low, all)) in
    omega (arith, few, all)
