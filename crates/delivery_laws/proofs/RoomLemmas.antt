-- A buffer with bytes enough displaces and refuses nothing.
use Rattle.std.proofs.Common.{◌≡◌, ◌∙◌, ℕ, ◌+◌, ◌≤◌, min, max, Bool, true, false, not, ◌&&◌, ◌||◌, List, [], ◌∷◌, length, map, refl, sym, ap, subst, arith}
use Rattle.std.specs.Prelude.{cond, ◌==◌, filter, is_some}
use Rattle.std.specs.List.{list_any}
use Rattle.std.proofs.lemmas.Bool.{false≢true, or_left, or_from, le-leb, le-ltb, and_right}
use Rattle.std.proofs.lemmas.List.Folds.{list_any-append}
use Rattle.trace_model.specs.Images.{Image, Chunk, Patch, whole_chunk, complete_chunk, partial_chunk, last_holds}
use Rattle.trace_model.specs.Reading.{Reading, Fragments, Unreadable, reading_of}
use Rattle.trace_model.specs.Places.{overlaps, fits, place_after, padding_before}
use Rattle.trace_model.specs.Sequences.{Sequence, sequence_in, is_known, has_arrived, unread_of}
use Rattle.trace_model.specs.Buffers.{Buffer, BufferRecord, discards, is_of, live_at, meets, is_unread, made_room}
use Rattle.trace_model.specs.Arrivals.{Arrived, Kept, Rewritten, Duplicate, Discarded, TooFar, BadChunk, is_refused, is_too_far, has_as_many, placing_of, arrival_of, partial_arrival_of, image_arrival_of, outcome_of, with_rewritten, settled, once_read, with_image, with_arrival}
use Rattle.trace_model.specs.Patches.{awaits_at, patched_chunk, with_patch, with_patches, closed_buffer, with_close}
use Rattle.trace_model.specs.History.{Event, Arrives, ArrivesInPart, Patched, Committed, Closed, Read, event_sequence, after, buffer_after}
use Rattle.trace_model.proofs.CursorLemmas.{Each, each-append, each-then, each-map}
use Rattle.delivery_laws.specs.Room.{asks_for, asks}

-- all records lie below the write place, and none was refused
pub record IsRoomy (b : Buffer) : Type 0 where
  pub below : Each (λ (r : BufferRecord). r.at + r.size ≤ b.next) b.live
  pub unshut : b.shut ≡ false

-- the chunk has a live record
abbrev pub has_record : ℕ → ℕ → List BufferRecord → Bool
has_record q chunk_id rs = list_any (is_of q chunk_id) rs

-- the second buffer has used so many bytes more, and its records stay
pub record Grows (b after : Buffer) (more : ℕ) : Type 0 where
  pub next : after.next ≡ b.next + more
  pub room : after.room ≡ b.room
  pub roomy : IsRoomy after
  pub stays : (q chunk_id : ℕ) → has_record q chunk_id b.live ≡ true → has_record q chunk_id after.live ≡ true

apart : (at n next size : ℕ) → at + n ≤ next → overlaps at n next size ≡ false
apart at n next size low = le-ltb (max at next) (min (at + n) (next + size)) (omega (arith, low))

fits_here : (b : Buffer) (size : ℕ) → b.next + size ≤ b.room → fits b.room b.next size ≡ true
fits_here b size low = le-leb (b.next + size) b.room low

none_met : (b : Buffer) (size : ℕ) → b.next + size ≤ b.room → (r : BufferRecord) → r.at + r.size ≤ b.next → meets b size r ≡ false
none_met b size low r below =
    or_from (overlaps r.at r.size (place_after b.room b.next size) size) (overlaps r.at r.size b.next (padding_before b.room b.next size))
    (ap (λ (x : Bool). overlaps r.at r.size (cond x b.next 0) size) (fits_here b size low) ∙ apart r.at r.size b.next size below)
    (apart r.at r.size b.next (padding_before b.room b.next size) below)

all_kept : (test : BufferRecord → Bool) (rs : List BufferRecord) → Each (λ (r : BufferRecord). test r ≡ false) rs → filter (λ r. not (test r)) rs ≡ rs
all_kept test [] h = refl
all_kept test (r ∷ rs) h =
    ap (λ (b : Bool). cond b (r ∷ filter (λ t. not (test t)) rs) (filter (λ t. not (test t)) rs)) (ap not h.0)
    ∙ ap (λ (ts : List BufferRecord). r ∷ ts) (all_kept test rs h.1)

pub room_keeps : (b : Buffer) (size : ℕ) → IsRoomy b → b.next + size ≤ b.room → (made_room b size).live ≡ b.live
room_keeps b size roomy low =
    all_kept (meets b size) b.live (each-then (λ (r : BufferRecord). r.at + r.size ≤ b.next) (λ (r : BufferRecord). meets b size r ≡ false) (none_met b size low) b.live roomy.below)

-- nothing is refused
pub none_refused : (b : Buffer) (size : ℕ) → IsRoomy b → b.next + size ≤ b.room → is_refused b size ≡ false
none_refused b size roomy low =
    and_right (discards b.policy) (b.shut || list_any (λ stored. meets b size stored && is_unread b.sequences stored) b.live)
    (or_from b.shut (list_any (λ stored. meets b size stored && is_unread b.sequences stored) b.live) roomy.unshut (none b.live roomy.below))
  where
    none : (rs : List BufferRecord) → Each (λ (r : BufferRecord). r.at + r.size ≤ b.next) rs → list_any (λ stored. meets b size stored && is_unread b.sequences stored) rs ≡ false
    none [] h = refl
    none (r ∷ rs) h =
        or_from (meets b size r && is_unread b.sequences r) (list_any (λ stored. meets b size stored && is_unread b.sequences stored) rs)
        (ap (λ (x : Bool). x && is_unread b.sequences r) (none_met b size low r h.0)) (none rs h.1)

abbrev pub is_discarded : Arrived → Bool
is_discarded Discarded = true
is_discarded other = false

same_grows : (b : Buffer) → IsRoomy b → Grows b b 0
same_grows b roomy = record { next = omega arith; room = refl; roomy = roomy; stays = λ q i has. has }

-- records are changed in their places
changed_grows : (b after : Buffer) (test : BufferRecord → Bool) (change : BufferRecord → BufferRecord) → IsRoomy b
    → ((r : BufferRecord) → ((change r).sequence ≡ r.sequence) × ((change r).chunk_id ≡ r.chunk_id))
    → ((r : BufferRecord) → ((change r).at ≡ r.at) × ((change r).size ≡ r.size))
    → after.next ≡ b.next → after.room ≡ b.room → after.shut ≡ b.shut → after.live ≡ map (λ r. cond (test r) (change r) r) b.live → Grows b after 0
changed_grows b after test change roomy of lies n m s l = record {
  next = omega (arith, n);
  room = m;
  roomy = record {
    below = subst (λ (rs : List BufferRecord). Each (λ (r : BufferRecord). r.at + r.size ≤ after.next) rs) (sym l)
        (each-map (λ (r : BufferRecord). r.at + r.size ≤ b.next) (λ (r : BufferRecord). r.at + r.size ≤ after.next) (λ r. cond (test r) (change r) r)
        (λ r below. lower r (test r) below) b.live roomy.below);
    unshut = s ∙ roomy.unshut;
  };
  stays = λ q i has. ap (λ (rs : List BufferRecord). has_record q i rs) l ∙ same_any q i b.live ∙ has;
}
  where
    lower : (r : BufferRecord) (x : Bool) → r.at + r.size ≤ b.next → (cond x (change r) r).at + (cond x (change r) r).size ≤ after.next
    lower r true below = let at = (lies r).0 in let size = (lies r).1 in omega (arith, below, n, at, size)
    lower r false below = omega (arith, below, n)

    same_of : (q i : ℕ) (r : BufferRecord) (x : Bool) → is_of q i (cond x (change r) r) ≡ is_of q i r
    same_of q i r true = ap (λ (p : ℕ). (p == q) && ((change r).chunk_id == i)) (of r).0 ∙ ap (λ (p : ℕ). (r.sequence == q) && (p == i)) (of r).1
    same_of q i r false = refl

    same_any : (q i : ℕ) (rs : List BufferRecord) → has_record q i (map (λ r. cond (test r) (change r) r) rs) ≡ has_record q i rs
    same_any q i [] = refl
    same_any q i (r ∷ rs) =
        ap (λ (x : Bool). x || has_record q i (map (λ t. cond (test t) (change t) t) rs)) (same_of q i r (test r))
        ∙ ap (λ (x : Bool). is_of q i r || x) (same_any q i rs)

-- what an outcome that isn't refused leaves
settled_grows : (b : Buffer) (q chunk_id : ℕ) (chunk : Chunk) → IsRoomy b → (outcome : Arrived) → is_discarded outcome ≡ false
    → b.next + asks_for outcome (sequence_in b.sequences q).size ≤ b.room
    → Grows b (settled outcome b q chunk_id chunk) (asks_for outcome (sequence_in b.sequences q).size)
settled_grows b q chunk_id chunk roomy Kept kept low =
    let here : place_after b.room b.next (sequence_in b.sequences q).size ≡ b.next =
    ap (λ (x : Bool). cond x b.next 0) (fits_here b (sequence_in b.sequences q).size low) in
    let keeps = room_keeps b (sequence_in b.sequences q).size roomy low in
    record {
      next = ap (λ (n : ℕ). n + (sequence_in b.sequences q).size) here;
      room = refl;
      roomy = record {
        below = each-append (λ (r : BufferRecord). r.at + r.size ≤ place_after b.room b.next (sequence_in b.sequences q).size + (sequence_in b.sequences q).size)
            (made_room b (sequence_in b.sequences q).size).live
            (record { sequence = q; chunk_id = chunk_id; at = place_after b.room b.next (sequence_in b.sequences q).size; size = (sequence_in b.sequences q).size; chunk = chunk } ∷ [])
            (subst (λ (rs : List BufferRecord). Each (λ (r : BufferRecord). r.at + r.size ≤ place_after b.room b.next (sequence_in b.sequences q).size + (sequence_in b.sequences q).size) rs) (sym keeps)
            (each-then (λ (r : BufferRecord). r.at + r.size ≤ b.next) (λ (r : BufferRecord). r.at + r.size ≤ place_after b.room b.next (sequence_in b.sequences q).size + (sequence_in b.sequences q).size)
            (λ r below. omega (arith, below, here)) b.live roomy.below))
            (omega arith, tt);
        unshut = roomy.unshut;
      };
      stays = λ p i has.
          list_any-append (is_of p i) (made_room b (sequence_in b.sequences q).size).live
          (record { sequence = q; chunk_id = chunk_id; at = place_after b.room b.next (sequence_in b.sequences q).size; size = (sequence_in b.sequences q).size; chunk = chunk } ∷ [])
          ∙ or_left (has_record p i (made_room b (sequence_in b.sequences q).size).live)
          (has_record p i (record { sequence = q; chunk_id = chunk_id; at = place_after b.room b.next (sequence_in b.sequences q).size; size = (sequence_in b.sequences q).size; chunk = chunk } ∷ []))
          (ap (λ (rs : List BufferRecord). has_record p i rs) keeps ∙ has);
    }
settled_grows b q chunk_id chunk roomy Rewritten kept low =
    changed_grows b (with_rewritten b q chunk_id chunk) (is_of q chunk_id) (λ stored. record stored { chunk = chunk }) roomy
    (λ r. (refl, refl)) (λ r. (refl, refl)) refl refl refl refl
settled_grows b q chunk_id chunk roomy Duplicate kept low = same_grows b roomy
settled_grows b q chunk_id chunk roomy Discarded kept low = absurd (false≢true (sym kept))
settled_grows b q chunk_id chunk roomy TooFar kept low = same_grows b roomy
settled_grows b q chunk_id chunk roomy (BadChunk fragment) kept low = same_grows b roomy

-- an outcome is refused only where a new place is
abbrev pub NotRefused : Buffer → ℕ → Arrived → Type 0
NotRefused b q outcome = b.next + asks_for outcome (sequence_in b.sequences q).size ≤ b.room → is_discarded outcome ≡ false

pub placing_not : (b : Buffer) (q chunk_id : ℕ) → IsRoomy b → NotRefused b q (placing_of b q chunk_id)
placing_not b q chunk_id roomy = by_live (is_some (live_at b q chunk_id))
  where
    by_refused : (y : Bool) → is_refused b (sequence_in b.sequences q).size ≡ y → NotRefused b q (cond y Discarded Kept)
    by_refused true e low = absurd (false≢true (sym (none_refused b (sequence_in b.sequences q).size roomy low) ∙ e))
    by_refused false e low = refl

    by_live : (x : Bool) → NotRefused b q (cond x Rewritten (cond (is_refused b (sequence_in b.sequences q).size) Discarded Kept))
    by_live true low = refl
    by_live false low = by_refused (is_refused b (sequence_in b.sequences q).size) refl low

pub arrival_not : (b : Buffer) (q chunk_id : ℕ) → IsRoomy b → NotRefused b q (arrival_of b q chunk_id)
arrival_not b q chunk_id roomy = by_case (has_arrived (sequence_in b.sequences q) chunk_id) (is_too_far (sequence_in b.sequences q) chunk_id)
  where
    by_case : (x y : Bool) → NotRefused b q (cond x Duplicate (cond y TooFar (placing_of b q chunk_id)))
    by_case true y low = refl
    by_case false true low = refl
    by_case false false low = placing_not b q chunk_id roomy low

pub part_not : (b : Buffer) (q chunk_id count : ℕ) → IsRoomy b → NotRefused b q (partial_arrival_of b q chunk_id count)
part_not b q chunk_id count roomy =
    by_case (has_arrived (sequence_in b.sequences q) chunk_id || (has_as_many count (live_at b q chunk_id) || (unread_of (sequence_in b.sequences q) chunk_id count == 0)))
    (is_too_far (sequence_in b.sequences q) chunk_id)
  where
    by_case : (x y : Bool) → NotRefused b q (cond x Duplicate (cond y TooFar (placing_of b q chunk_id)))
    by_case true y low = refl
    by_case false true low = refl
    by_case false false low = placing_not b q chunk_id roomy low

-- with other sequences' states in it
noted_grows : (b c : Buffer) (more : ℕ) (ss : List Sequence) → Grows b c more → Grows b (record c { sequences = ss }) more
noted_grows b c more ss g = record { next = g.next; room = g.room; roomy = record { below = g.roomy.below; unshut = g.roomy.unshut }; stays = g.stays }

arrival_grows : (b : Buffer) (q chunk_id : ℕ) (chunk : Chunk) → IsRoomy b → b.next + asks_for (arrival_of b q chunk_id) (sequence_in b.sequences q).size ≤ b.room
    → Grows b (with_arrival b q chunk_id chunk) (asks_for (arrival_of b q chunk_id) (sequence_in b.sequences q).size)
arrival_grows b q chunk_id chunk roomy low =
    noted_grows b (settled (arrival_of b q chunk_id) b q chunk_id (complete_chunk chunk)) (asks_for (arrival_of b q chunk_id) (sequence_in b.sequences q).size)
    (with_arrival b q chunk_id chunk).sequences
    (settled_grows b q chunk_id (complete_chunk chunk) roomy (arrival_of b q chunk_id) (arrival_not b q chunk_id roomy low) low)

grows_both : (a b c : Buffer) (more : ℕ) → Grows a b more → Grows b c 0 → Grows a c more
grows_both a b c more h k = record {
  next = let x = h.next in let y = k.next in omega (arith, x, y);
  room = k.room ∙ h.room;
  roomy = k.roomy;
  stays = λ q i has. k.stays q i (h.stays q i has);
}

patch_grows : (b : Buffer) (q : ℕ) (patch : Patch) → IsRoomy b → Grows b (with_patch b q patch) 0
patch_grows b q patch roomy =
    changed_grows b (with_patch b q patch) (λ stored. awaits_at q patch.chunk_id stored && last_holds stored.chunk.fragments patch)
    (λ stored. record stored { chunk = patched_chunk patch stored.chunk }) roomy (λ r. (refl, refl)) (λ r. (refl, refl)) refl refl refl refl

patches_grow : (b : Buffer) (q : ℕ) (patches : List Patch) → IsRoomy b → Grows b (with_patches b q patches) 0
patches_grow b q [] roomy = same_grows b roomy
patches_grow b q (patch ∷ patches) roomy =
    let one = patch_grows b q patch roomy in
    grows_both b (with_patch b q patch) (with_patches (with_patch b q patch) q patches) 0 one (patches_grow (with_patch b q patch) q patches one.roomy)

image_grows : (b : Buffer) (image : Image) → IsRoomy b → b.next + asks_for (image_arrival_of b image) (sequence_in b.sequences image.sequence).size ≤ b.room
    → Grows b (with_image b image) (asks_for (image_arrival_of b image) (sequence_in b.sequences image.sequence).size)
image_grows b image roomy = by_reading (reading_of image.count image.payload)
  where
    by_reading : (reading : Reading) → b.next + asks_for (outcome_of (arrival_of b image.sequence image.chunk_id) reading) (sequence_in b.sequences image.sequence).size ≤ b.room
        → Grows b (once_read b (with_arrival b image.sequence image.chunk_id) image.flags reading)
        (asks_for (outcome_of (arrival_of b image.sequence image.chunk_id) reading) (sequence_in b.sequences image.sequence).size)
    by_reading (Fragments fragments) low = arrival_grows b image.sequence image.chunk_id (whole_chunk image.flags fragments) roomy low
    by_reading (Unreadable number) low = same_grows b roomy

close_grows : (b : Buffer) (q : ℕ) → IsRoomy b → Grows b (with_close b q) 0
close_grows b q roomy = step (sequence_in b.sequences q).closed
  where
    step : (x : Bool) → Grows b (cond x b (closed_buffer b q)) 0
    step true = same_grows b roomy
    step false = record { next = omega arith; room = refl; roomy = record { below = roomy.below; unshut = roomy.unshut }; stays = λ p i has. has }

after_grows : (b : Buffer) (event : Event) → IsRoomy b → b.next + asks b event ≤ b.room → Grows b (after b event) (asks b event)
after_grows b (Arrives q chunk_id chunk) roomy low = arrival_grows b q chunk_id chunk roomy low
after_grows b (ArrivesInPart q chunk_id chunk) roomy low =
    settled_grows b q chunk_id (partial_chunk chunk) roomy (partial_arrival_of b q chunk_id (length chunk.fragments)) (part_not b q chunk_id (length chunk.fragments) roomy low) low
after_grows b (Patched q patches) roomy low = patches_grow b q patches roomy
after_grows b (Committed image patches) roomy low =
    let one = image_grows b image roomy low in
    grows_both b (with_image b image) (with_patches (with_image b image) image.sequence patches)
    (asks_for (image_arrival_of b image) (sequence_in b.sequences image.sequence).size) one (patches_grow (with_image b image) image.sequence patches one.roomy)
after_grows b (Closed q) roomy low = close_grows b q roomy
after_grows b (Read q limit) roomy low = record { next = omega arith; room = refl; roomy = record { below = roomy.below; unshut = roomy.unshut }; stays = λ p i has. has }

pub event_grows : (b : Buffer) (event : Event) → IsRoomy b → b.next + cond (is_known b.sequences (event_sequence event)) (asks b event) 0 ≤ b.room
    → Grows b (buffer_after b event) (cond (is_known b.sequences (event_sequence event)) (asks b event) 0)
event_grows b event roomy = step (is_known b.sequences (event_sequence event))
  where
    step : (x : Bool) → b.next + cond x (asks b event) 0 ≤ b.room → Grows b (cond x (after b event) b) (cond x (asks b event) 0)
    step true low = after_grows b event roomy low
    step false low = same_grows b roomy
