-- Events of other sequences leave a sequence as it is, but for what it loses: its records only vanish.
use Rattle.std.proofs.Common.{◌≡◌, ◌∙◌, ℕ, Bool, true, false, not, ◌&&◌, List, [], ◌∷◌, ◌++◌, length, map, refl, sym, ap, subst}
use Rattle.std.specs.Prelude.{cond, ◌==◌, filter}
use Rattle.std.proofs.lemmas.Bool.{eqb-true, and_parts}
use Rattle.trace_model.specs.Images.{Image, Chunk, Patch, whole_chunk, complete_chunk, partial_chunk, last_holds}
use Rattle.trace_model.specs.Reading.{Reading, Fragments, Unreadable, reading_of}
use Rattle.trace_model.specs.Places.{place_after}
use Rattle.trace_model.specs.Sequences.{Sequence, sequence_in, is_known, is_among, changed_at}
use Rattle.trace_model.specs.Buffers.{Buffer, BufferRecord, is_of, meets, with_losses, made_room}
use Rattle.trace_model.specs.Arrivals.{Arrived, Kept, Rewritten, Duplicate, Discarded, TooFar, BadChunk, arrival_of, partial_arrival_of, with_record, with_rewritten, with_arrived, with_discarded, discarded_buffer, settled, makes_arrive, arrival_noted, with_arrival, once_read, with_image}
use Rattle.trace_model.specs.Patches.{awaits_at, patched_chunk, with_patch, with_patches, closed_sequence, closed_buffer, with_close}
use Rattle.trace_model.specs.Row.{row_from_cursor}
use Rattle.trace_model.specs.Reads.{passed_by, sequence_after, with_read}
use Rattle.trace_model.specs.History.{Event, Arrives, ArrivesInPart, Patched, Committed, Closed, Read, event_sequence, after, buffer_after}
use Rattle.trace_model.proofs.SequenceLemmas.{sequence_in-map, known-map, changed_other, known_changed}
use Rattle.delivery_laws.proofs.KnownLemmas.{IsGood, EachOf, IsKnown}
use Rattle.delivery_laws.specs.Sheets.{Sheet}

-- the sequence but for its losses
abbrev pub unlost : Sequence → Sequence
unlost state = record state { lost = 0 }

-- The second buffer has the sequence as the first does; what holds of each of its records holds there too.
pub record Keeps (q : ℕ) (P : BufferRecord → Type 0) (a b : Buffer) : Type 0 where
  pub known : is_known a.sequences q ≡ true → is_known b.sequences q ≡ true
  pub same : is_known a.sequences q ≡ true → unlost (sequence_in b.sequences q) ≡ unlost (sequence_in a.sequences q)
  pub live : EachOf q P a.live → EachOf q P b.live

pub each_append : (q : ℕ) (P : BufferRecord → Type 0) (xs ys : List BufferRecord) → EachOf q P xs → EachOf q P ys → EachOf q P (xs ++ ys)
each_append q P [] ys h k = k
each_append q P (x ∷ xs) ys h k = (h.0, each_append q P xs ys h.1 k)

pub each_filter : (q : ℕ) (P : BufferRecord → Type 0) (test : BufferRecord → Bool) (rs : List BufferRecord) → EachOf q P rs → EachOf q P (filter test rs)
each_filter q P test [] h = tt
each_filter q P test (r ∷ rs) h = step (test r) (each_filter q P test rs h.1)
  where
    step : (b : Bool) → EachOf q P (filter test rs) → EachOf q P (cond b (r ∷ filter test rs) (filter test rs))
    step true k = (h.0, k)
    step false k = k

-- changes of each record
pub each_change : (q : ℕ) (P Q : BufferRecord → Type 0) (change : BufferRecord → BufferRecord)
    → ((r : BufferRecord) → ((r.sequence == q) ≡ true → P r) → ((change r).sequence == q) ≡ true → Q (change r))
    → (rs : List BufferRecord) → EachOf q P rs → EachOf q Q (map change rs)
each_change q P Q change keeps [] h = tt
each_change q P Q change keeps (r ∷ rs) h = (keeps r h.0, each_change q P Q change keeps rs h.1)

module _ (q : ℕ) (P : BufferRecord → Type 0) where
  pub keeps_same : (a : Buffer) → Keeps q P a a
  keeps_same a = record { known = λ h. h; same = λ h. refl; live = λ h. h }

  pub keeps_both : (a b c : Buffer) → Keeps q P a b → Keeps q P b c → Keeps q P a c
  keeps_both a b c h k = record {
    known = λ known. k.known (h.known known);
    same = λ known. k.same (h.known known) ∙ h.same known;
    live = λ each. k.live (h.live each);
  }

  pub keeps_room : (a : Buffer) (size : ℕ) → Keeps q P a (made_room a size)
  keeps_room a size = record {
    known = λ h. known-map (with_losses (filter (meets a size) a.live)) (λ s. refl) a.sequences q ∙ h;
    same = λ h. ap unlost (sequence_in-map (with_losses (filter (meets a size) a.live)) (λ s. refl) a.sequences q h);
    live = λ each. each_filter q P (λ stored. not (meets a size stored)) a.live each;
  }

  -- one sequence is changed, another one
  keeps_changed : (p : ℕ) (a : Buffer) (change : Sequence → Sequence) → (p ≡ q → ⊥) → ((s : Sequence) → (change s).number ≡ s.number) → (b : Buffer)
      → b.sequences ≡ changed_at p change a.sequences → (EachOf q P a.live → EachOf q P b.live) → Keeps q P a b
  keeps_changed p a change other keeps b e live = record {
    known = λ h. ap (λ (ss : List Sequence). is_known ss q) e ∙ known_changed p q change keeps a.sequences ∙ h;
    same = λ h. ap (λ (ss : List Sequence). unlost (sequence_in ss q)) e ∙ ap unlost (changed_other p q change keeps a.sequences h other);
    live = live;
  }

  -- records of another sequence are changed
  keeps_records : (p : ℕ) (a b : Buffer) (test : BufferRecord → Bool) (change : BufferRecord → BufferRecord) → (p ≡ q → ⊥)
      → ((r : BufferRecord) → test r ≡ true → r.sequence ≡ p) → ((r : BufferRecord) → (change r).sequence ≡ r.sequence)
      → b.sequences ≡ a.sequences → b.live ≡ map (λ r. cond (test r) (change r) r) a.live → Keeps q P a b
  keeps_records p a b test change other of keeps e l = record {
    known = λ h. ap (λ (ss : List Sequence). is_known ss q) e ∙ h;
    same = λ h. ap (λ (ss : List Sequence). unlost (sequence_in ss q)) e;
    live = λ each. subst (EachOf q P) (sym l) (each_change q P P (λ r. cond (test r) (change r) r) (λ r p_of. by_test r (test r) refl p_of) a.live each);
  }
    where
      by_test : (r : BufferRecord) (b : Bool) → test r ≡ b → ((r.sequence == q) ≡ true → P r) → ((cond b (change r) r).sequence == q) ≡ true → P (cond b (change r) r)
      by_test r true t k s = absurd (other (sym (of r t) ∙ sym (keeps r) ∙ eqb-true (change r).sequence q s))
      by_test r false t k s = k s

  keeps_record : (p : ℕ) (a : Buffer) (chunk_id size : ℕ) (chunk : Chunk) → (p ≡ q → ⊥) → Keeps q P a (with_record a p chunk_id size chunk)
  keeps_record p a chunk_id size chunk other = record {
    known = λ h. h;
    same = λ h. refl;
    live = λ each. each_append q P a.live (record { sequence = p; chunk_id = chunk_id; at = place_after a.room a.next size; size = size; chunk = chunk } ∷ []) each
        ((λ s. absurd (other (eqb-true p q s))), tt);
  }

  keeps_rewritten : (p : ℕ) (a : Buffer) (chunk_id : ℕ) (chunk : Chunk) → (p ≡ q → ⊥) → Keeps q P a (with_rewritten a p chunk_id chunk)
  keeps_rewritten p a chunk_id chunk other =
      keeps_records p a (with_rewritten a p chunk_id chunk) (is_of p chunk_id) (λ stored. record stored { chunk = chunk }) other
      (λ r t. eqb-true r.sequence p (and_parts (r.sequence == p) (r.chunk_id == chunk_id) t).0) (λ r. refl) refl refl

  keeps_settled : (p : ℕ) (a : Buffer) (chunk_id : ℕ) (chunk : Chunk) → (p ≡ q → ⊥) → (outcome : Arrived) → Keeps q P a (settled outcome a p chunk_id chunk)
  keeps_settled p a chunk_id chunk other Kept =
      keeps_both a (made_room a (sequence_in a.sequences p).size) (settled Kept a p chunk_id chunk) (keeps_room a (sequence_in a.sequences p).size)
      (keeps_record p (made_room a (sequence_in a.sequences p).size) chunk_id (sequence_in a.sequences p).size chunk other)
  keeps_settled p a chunk_id chunk other Rewritten = keeps_rewritten p a chunk_id chunk other
  keeps_settled p a chunk_id chunk other Duplicate = keeps_same a
  keeps_settled p a chunk_id chunk other Discarded = step chunk.partial
    where
      step : (b : Bool) → Keeps q P a (cond b (record a { shut = true }) (discarded_buffer a p chunk_id chunk))
      step true = record { known = λ h. h; same = λ h. refl; live = λ h. h }
      step false = keeps_changed p a (with_discarded chunk_id chunk) other (λ s. refl) (discarded_buffer a p chunk_id chunk) refl (λ h. h)
  keeps_settled p a chunk_id chunk other TooFar = keeps_same a
  keeps_settled p a chunk_id chunk other (BadChunk fragment) = keeps_same a

  keeps_arrival : (p : ℕ) (a : Buffer) (chunk_id : ℕ) (chunk : Chunk) → (p ≡ q → ⊥) → Keeps q P a (with_arrival a p chunk_id chunk)
  keeps_arrival p a chunk_id chunk other = by_outcome (arrival_of a p chunk_id)
    where
      by_outcome : (outcome : Arrived) → Keeps q P a (arrival_noted outcome p chunk_id (length chunk.fragments) (settled outcome a p chunk_id (complete_chunk chunk)))
      by_outcome outcome =
          keeps_both a (settled outcome a p chunk_id (complete_chunk chunk)) (arrival_noted outcome p chunk_id (length chunk.fragments) (settled outcome a p chunk_id (complete_chunk chunk)))
          (keeps_settled p a chunk_id (complete_chunk chunk) other outcome)
          (noted (settled outcome a p chunk_id (complete_chunk chunk)) (makes_arrive outcome))
        where
          noted : (c : Buffer) (b : Bool) → Keeps q P c (record c { sequences = cond b (changed_at p (with_arrived chunk_id (length chunk.fragments)) c.sequences) c.sequences })
          noted c true = keeps_changed p c (with_arrived chunk_id (length chunk.fragments)) other (λ s. refl)
              (record c { sequences = changed_at p (with_arrived chunk_id (length chunk.fragments)) c.sequences }) refl (λ h. h)
          noted c false = record { known = λ h. h; same = λ h. refl; live = λ h. h }

  keeps_image : (a : Buffer) (image : Image) → (image.sequence ≡ q → ⊥) → Keeps q P a (with_image a image)
  keeps_image a image other = by_reading (reading_of image.count image.payload)
    where
      by_reading : (reading : Reading) → Keeps q P a (once_read a (with_arrival a image.sequence image.chunk_id) image.flags reading)
      by_reading (Fragments fragments) = keeps_arrival image.sequence a image.chunk_id (whole_chunk image.flags fragments) other
      by_reading (Unreadable number) = keeps_same a

  keeps_patch : (p : ℕ) (a : Buffer) (patch : Patch) → (p ≡ q → ⊥) → Keeps q P a (with_patch a p patch)
  keeps_patch p a patch other =
      keeps_records p a (with_patch a p patch) (λ stored. awaits_at p patch.chunk_id stored && last_holds stored.chunk.fragments patch)
      (λ stored. record stored { chunk = patched_chunk patch stored.chunk }) other
      (λ r t.
      let awaits = (and_parts (awaits_at p patch.chunk_id r) (last_holds r.chunk.fragments patch) t).0 in
      let of = (and_parts (is_of p patch.chunk_id r) r.chunk.awaits awaits).0 in
      eqb-true r.sequence p (and_parts (r.sequence == p) (r.chunk_id == patch.chunk_id) of).0)
      (λ r. refl) refl refl

  keeps_patches : (p : ℕ) (a : Buffer) (patches : List Patch) → (p ≡ q → ⊥) → Keeps q P a (with_patches a p patches)
  keeps_patches p a [] other = keeps_same a
  keeps_patches p a (patch ∷ patches) other =
      keeps_both a (with_patch a p patch) (with_patches (with_patch a p patch) p patches) (keeps_patch p a patch other)
      (keeps_patches p (with_patch a p patch) patches other)

  keeps_close : (p : ℕ) (a : Buffer) → (p ≡ q → ⊥) → Keeps q P a (with_close a p)
  keeps_close p a other = step (sequence_in a.sequences p).closed
    where
      step : (b : Bool) → Keeps q P a (cond b a (closed_buffer a p))
      step true = keeps_same a
      step false = keeps_changed p a (closed_sequence a.live) other (λ s. refl) (closed_buffer a p) refl (λ h. h)

  keeps_after : (a : Buffer) (event : Event) → (event_sequence event ≡ q → ⊥) → Keeps q P a (after a event)
  keeps_after a (Arrives p chunk_id chunk) other = keeps_arrival p a chunk_id chunk other
  keeps_after a (ArrivesInPart p chunk_id chunk) other =
      keeps_settled p a chunk_id (partial_chunk chunk) other (partial_arrival_of a p chunk_id (length chunk.fragments))
  keeps_after a (Patched p patches) other = keeps_patches p a patches other
  keeps_after a (Committed image patches) other =
      keeps_both a (with_image a image) (with_patches (with_image a image) image.sequence patches) (keeps_image a image other)
      (keeps_patches image.sequence (with_image a image) patches other)
  keeps_after a (Closed p) other = keeps_close p a other
  keeps_after a (Read p limit) other =
      keeps_changed p a (sequence_after (passed_by limit (row_from_cursor a (sequence_in a.sequences p)))) other (λ s. refl) (with_read a p limit) refl (λ h. h)

  pub keeps_event : (a : Buffer) (event : Event) → (event_sequence event ≡ q → ⊥) → Keeps q P a (buffer_after a event)
  keeps_event a event other = step (is_known a.sequences (event_sequence event))
    where
      step : (b : Bool) → Keeps q P a (cond b (after a event) a)
      step true = keeps_after a event other
      step false = keeps_same a

-- the reader of a sequence: its cursor, and what decides on marks
pub record SameReader (s t : Sequence) : Type 0 where
  pub cursor : t.cursor ≡ s.cursor
  pub missing : t.missing ≡ s.missing
  pub delivered : t.delivered ≡ s.delivered

pub reader_kept : (s t : Sequence) → unlost t ≡ unlost s → SameReader s t
reader_kept s t e = record {
  cursor = ap (λ (x : Sequence). x.cursor) e;
  missing = ap (λ (x : Sequence). x.missing) e;
  delivered = ap (λ (x : Sequence). x.delivered) e;
}

-- what is known is kept
pub known_kept : (sheets : List Sheet) (q come : ℕ) (closed : Bool) (later : List Patch) (a b : Buffer) → IsKnown sheets q come closed later a
    → Keeps q (IsGood sheets come later) a b → IsKnown sheets q come closed later b
known_kept sheets q come closed later a b known keeps =
    let same : unlost (sequence_in b.sequences q) ≡ unlost (sequence_in a.sequences q) = keeps.same known.known in
    record {
      known = keeps.known known.known;
      arrived = ap (λ (x : Sequence). x.arrived) same ∙ known.arrived;
      shut = ap (λ (x : Sequence). x.closed) same ∙ known.shut;
      none = λ c. ap (λ (x : Sequence). x.final) same ∙ known.none c;
      final = λ i h. known.final i (sym (ap (λ (x : Sequence). is_among i x.final) same) ∙ h);
      came = known.came;
      live = keeps.live known.live;
    }
