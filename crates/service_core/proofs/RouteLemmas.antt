-- The buffers of a service behind events: each is where it was, and one of them has the sequence.
use Rattle.std.proofs.Common.{◌≡◌, ◌≢◌, ◌∙◌, ℕ, zero, suc, ◌^◌, ◌<◌, ◌≤◌, Bool, true, false, List, [], ◌∷◌, ◌++◌, length, set, refl, sym, ap, arith, inl, inr}
use Rattle.std.specs.Prelude.{cond}
use Rattle.std.proofs.lemmas.Bool.{cases_lt}
use Rattle.std.proofs.lemmas.List.{set-get_or}
use Rattle.trace_base.specs.declared.policy.FullPolicy.TheVariants.{Ring}
use Rattle.trace_base.specs.Ids.{id_of}
use Rattle.trace_model.specs.Images.{Image, Patch, Chunk, whole_chunk}
use Rattle.trace_model.specs.Reading.{Reading, Fragments, Unreadable, reading_of}
use Rattle.trace_model.specs.Sequences.{sequence_in, is_known}
use Rattle.trace_model.specs.Buffers.{Buffer, empty_buffer}
use Rattle.trace_model.specs.Arrivals.{with_image, with_partial_image, once_read}
use Rattle.trace_model.specs.History.{Event, Arrives, ArrivesInPart, Patched, Committed, event_sequence, after, buffer_after, state_after, buffers_after}
use Rattle.trace_model.proofs.ShapeLemmas.{is_close, size_after, from_after, closed_after}
use Rattle.trace_model.specs.Ids.{placed_image, placed_patches}
use Rattle.trace_model.proofs.NamingLemmas.{image_placed}
use Rattle.chunk_plain.specs.Histories as histories
use Rattle.delivery_laws.proofs.AskLemmas.{known_after}
use Rattle.service_core.specs.Routing.{buffer_at, IsAt, is_closed_at, from_at, arrivals_of, partial_arrivals_of}

-- Events one after another

pub state_append : (b : Buffer) (xs ys : List Event) → state_after b (xs ++ ys) ≡ state_after (state_after b xs) ys
state_append b [] ys = refl
state_append b (x ∷ xs) ys = state_append (buffer_after b x) xs ys

pub buffers_append : (bs : List Buffer) (xs ys : List Event) → buffers_after bs (xs ++ ys) ≡ buffers_after (buffers_after bs xs) ys
buffers_append [] xs ys = refl
buffers_append (b ∷ bs) xs ys =
    ap (λ (x : Buffer). x ∷ buffers_after bs (xs ++ ys)) (state_append b xs ys)
    ∙ ap (λ (rest : List Buffer). state_after (state_after b xs) ys ∷ rest) (buffers_append bs xs ys)

pub buffers_none : (bs : List Buffer) → buffers_after bs [] ≡ bs
buffers_none [] = refl
buffers_none (b ∷ bs) = ap (λ (rest : List Buffer). b ∷ rest) (buffers_none bs)

pub length_after : (bs : List Buffer) (events : List Event) → length (buffers_after bs events) ≡ length bs
length_after [] events = refl
length_after (b ∷ bs) events = ap suc (length_after bs events)

abbrev no_buffer : Buffer
no_buffer = empty_buffer 0 Ring []

-- the buffer at a place: behind the events what it was, and where there is none, none
pub at_after : (bs : List Buffer) (index : ℕ) (events : List Event) → index < length bs → buffer_at (buffers_after bs events) index ≡ state_after (buffer_at bs index) events
at_after [] index events below = absurd (omega arith)
at_after (b ∷ bs) zero events below = refl
at_after (b ∷ bs) (suc index) events below = at_after bs index events (omega arith)

pub none_at : (bs : List Buffer) (index : ℕ) (q : ℕ) → length bs ≤ index → is_known (buffer_at bs index).sequences q ≡ false
none_at [] index q past = refl
none_at (b ∷ bs) zero q past = absurd (omega arith)
none_at (b ∷ bs) (suc index) q past = none_at bs index q (omega arith)

known_state : (b : Buffer) (events : List Event) (q : ℕ) → is_known (state_after b events).sequences q ≡ is_known b.sequences q
known_state b [] q = refl
known_state b (e ∷ es) q = known_state (buffer_after b e) es q ∙ known_after b e q

size_state : (b : Buffer) (events : List Event) (q : ℕ) → (sequence_in (state_after b events).sequences q).size ≡ (sequence_in b.sequences q).size
size_state b [] q = refl
size_state b (e ∷ es) q = size_state (buffer_after b e) es q ∙ size_after b e q

from_state : (b : Buffer) (events : List Event) (q : ℕ) → (sequence_in (state_after b events).sequences q).from ≡ (sequence_in b.sequences q).from
from_state b [] q = refl
from_state b (e ∷ es) q = from_state (buffer_after b e) es q ∙ from_after b e q

-- no event is a close
abbrev pub NoCloses : List Event → Type 0
NoCloses [] = Unit {0}
NoCloses (e ∷ es) = (is_close e ≡ false) × NoCloses es

-- nor is what an image is read as
pub closes_none : (event : Chunk → Event) → ((chunk : Chunk) → is_close (event chunk) ≡ false) → (flags : ℕ) (reading : Reading) → NoCloses (histories.once_read event flags reading)
closes_none event none flags (Fragments fragments) = (none (whole_chunk flags fragments), tt)
closes_none event none flags (Unreadable number) = tt

closed_state : (b : Buffer) (events : List Event) (q : ℕ) → NoCloses events → (sequence_in (state_after b events).sequences q).closed ≡ (sequence_in b.sequences q).closed
closed_state b [] q none = refl
closed_state b (e ∷ es) q none = closed_state (buffer_after b e) es q none.1 ∙ closed_after b e q none.0

pub is_at_after : (bs : List Buffer) (index q size : ℕ) (events : List Event) → IsAt bs index q size → IsAt (buffers_after bs events) index q size
is_at_after bs index q size events at =
    let here = at_after bs index events at.inside in
    record {
      inside = let low = at.inside in let same = length_after bs events in omega (arith, low, same);
      known = ap (λ (b : Buffer). is_known b.sequences q) here ∙ known_state (buffer_at bs index) events q ∙ at.known;
      size_is = ap (λ (b : Buffer). (sequence_in b.sequences q).size) here ∙ size_state (buffer_at bs index) events q ∙ at.size_is;
      others = λ other differs. by_place other differs;
    }
  where
    by_place : (other : ℕ) → other ≢ index → is_known (buffer_at (buffers_after bs events) other).sequences q ≡ false
    by_place other differs =
        elim (cases_lt other (length bs)) [
          | inr past ↦ none_at (buffers_after bs events) other q (let same = length_after bs events in omega (arith, past, same))
          | inl below ↦ ap (λ (b : Buffer). is_known b.sequences q) (at_after bs other events below) ∙ known_state (buffer_at bs other) events q ∙ at.others other differs
        ]

pub open_after : (bs : List Buffer) (index q : ℕ) (events : List Event) → index < length bs → NoCloses events
    → is_closed_at (buffers_after bs events) index q ≡ is_closed_at bs index q
open_after bs index q events below none =
    ap (λ (b : Buffer). (sequence_in b.sequences q).closed) (at_after bs index events below) ∙ closed_state (buffer_at bs index) events q none

-- no event changes which id the first chunk has
pub from_stays : (bs : List Buffer) (index q : ℕ) (events : List Event) → index < length bs → from_at (buffers_after bs events) index q ≡ from_at bs index q
from_stays bs index q events below =
    ap (λ (b : Buffer). (sequence_in b.sequences q).from) (at_after bs index events below) ∙ from_state (buffer_at bs index) events q

-- An image comes under the id of its position, and then patches come under the ids of theirs.
pub arrives_placed : (bs mid new : List Buffer) (index q from position : ℕ) (image : Image) (patches : List Patch) → index < length bs
    → from_at bs index q ≡ from → image.chunk_id ≡ id_of from position → position < 2 ^ 32
    → mid ≡ buffers_after bs (arrivals_of (placed_image (from_at bs index q) image))
    → new ≡ buffers_after mid (Patched q (placed_patches (from_at mid index q) patches) ∷ [])
    → new ≡ buffers_after (buffers_after bs (arrivals_of (record image { chunk_id = position }))) (Patched q (placed_patches from patches) ∷ [])
arrives_placed bs mid new index q from position image patches below from_is id small mid_is new_is =
    let one : Image = record image { chunk_id = position } in
    let image_is : placed_image (from_at bs index q) image ≡ one = ap (λ (n : ℕ). placed_image n image) from_is ∙ image_placed from position image id small in
    let mid_now : mid ≡ buffers_after bs (arrivals_of one) = mid_is ∙ ap (λ (i : Image). buffers_after bs (arrivals_of i)) image_is in
    let still : from_at mid index q ≡ from = ap (λ (xs : List Buffer). from_at xs index q) mid_now ∙ from_stays bs index q (arrivals_of one) below ∙ from_is in
    new_is ∙ ap (λ (n : ℕ). buffers_after mid (Patched q (placed_patches n patches) ∷ [])) still
    ∙ ap (λ (xs : List Buffer). buffers_after xs (Patched q (placed_patches from patches) ∷ [])) mid_now

-- One buffer changes

-- an event of a sequence changes the buffer that has it alone
pub event_at : (bs : List Buffer) (index size : ℕ) (event : Event) → IsAt bs index (event_sequence event) size
    → set bs index (after (buffer_at bs index) event) ≡ buffers_after bs (event ∷ [])
event_at [] index size event at = absurd (let low = at.inside in omega (arith, low))
event_at (b ∷ bs) zero size event at =
    ap (λ (x : Bool). cond x (after b event) b ∷ bs) (sym at.known) ∙ ap (λ (rest : List Buffer). buffer_after b event ∷ rest) (unknown bs (λ i. at.others (suc i) (λ e. absurd (omega (arith, e)))))
  where
    unknown : (xs : List Buffer) → ((i : ℕ) → is_known (buffer_at xs i).sequences (event_sequence event) ≡ false) → xs ≡ buffers_after xs (event ∷ [])
    unknown [] none = refl
    unknown (x ∷ xs) none =
        ap (λ (y : Bool). cond y (after x event) x ∷ xs) (sym (none zero)) ∙ ap (λ (rest : List Buffer). buffer_after x event ∷ rest) (unknown xs (λ i. none (suc i)))
event_at (b ∷ bs) (suc index) size event at =
    ap (λ (x : Bool). cond x (after b event) b ∷ set bs index (after (buffer_at bs index) event)) (sym (at.others zero (λ e. absurd (omega (arith, e)))))
    ∙ ap (λ (rest : List Buffer). buffer_after b event ∷ rest) (event_at bs index size event (record {
      inside = let low = at.inside in omega (arith, low);
      known = at.known;
      size_is = at.size_is;
      others = λ other differs. at.others (suc other) (λ e. differs (let same : other ≡ index = omega (arith, e) in same));
    }))

-- what an image is read as changes it by that event, and where its fragments don't read nothing changes
once_at : (bs : List Buffer) (index size : ℕ) (event : Chunk → Event) (flags : ℕ) (reading : Reading) → ((chunk : Chunk) → IsAt bs index (event_sequence (event chunk)) size)
    → set bs index (once_read (buffer_at bs index) (λ chunk. after (buffer_at bs index) (event chunk)) flags reading) ≡ buffers_after bs (histories.once_read event flags reading)
once_at bs index size event flags (Fragments fragments) at = event_at bs index size (event (whole_chunk flags fragments)) (at (whole_chunk flags fragments))
once_at bs index size event flags (Unreadable number) at = set-get_or bs index no_buffer ∙ sym (buffers_none bs)

-- a complete image arrives
pub image_at : (bs : List Buffer) (index size : ℕ) (image : Image) → IsAt bs index image.sequence size
    → set bs index (with_image (buffer_at bs index) image) ≡ buffers_after bs (arrivals_of image)
image_at bs index size image at =
    once_at bs index size (λ chunk. Arrives image.sequence image.chunk_id chunk) image.flags (reading_of image.count image.payload) (λ chunk. at)

-- the first fragments of a chunk arrive
pub part_at : (bs : List Buffer) (index size : ℕ) (image : Image) → IsAt bs index image.sequence size
    → set bs index (with_partial_image (buffer_at bs index) image) ≡ buffers_after bs (partial_arrivals_of image)
part_at bs index size image at =
    once_at bs index size (λ chunk. ArrivesInPart image.sequence image.chunk_id chunk) image.flags (reading_of image.count image.payload) (λ chunk. at)

-- an image leaves which sequences the buffer has
pub known_image : (b : Buffer) (image : Image) (q : ℕ) → is_known b.sequences image.sequence ≡ true → is_known (with_image b image).sequences q ≡ is_known b.sequences q
known_image b image q known =
    ap (λ (x : Bool). is_known (cond x (with_image b image) b).sequences q) (sym known) ∙ known_after b (Committed image []) q

-- nor which id its first chunk has
pub from_image : (b : Buffer) (image : Image) (q : ℕ) → is_known b.sequences image.sequence ≡ true
    → (sequence_in (with_image b image).sequences q).from ≡ (sequence_in b.sequences q).from
from_image b image q known =
    ap (λ (x : Bool). (sequence_in (cond x (with_image b image) b).sequences q).from) (sym known) ∙ from_after b (Committed image []) q
