-- No call takes a sequence from a buffer, or changes the size of its records.
use Rattle.std.proofs.Common.{◌≡◌, ℕ, ◌==◌, Bool, true, false, cond, List, map, length, refl, sym, ap, ◌∙◌, subst}
use Rattle.trace_model.specs.Arrivals.{Arrived, settled, arrival_of, partial_arrival_of, makes_arrive, with_arrived, arrival_noted, with_arrival, with_partial_arrival, once_read}
use Rattle.trace_model.specs.Buffers.{Buffer}
use Rattle.trace_model.specs.Images.{Chunk, complete_chunk, partial_chunk}
use Rattle.trace_model.specs.Patches.{closed_sequence, closed_buffer, with_close}
use Rattle.trace_model.specs.Reading.{Reading, Fragments, Unreadable}
use Rattle.trace_model.specs.Reads.{Turn, advanced}
use Rattle.trace_model.specs.Sequences.{Sequence, Cursor, is_known, sequence_in, changed_at}
use Rattle.trace_buffer.specs.Calls.{with_advance}
use Rattle.trace_buffer.proofs.PartLemmas.{KeepsSize, known_map, sequence_map, sizes, sizes_at}
use Rattle.trace_buffer.proofs.SettledLemmas.{settled_rows, known_still, open_still}
use Rattle.trace_buffer.specs.Ready.{IsReady, StayReady}

still : (rows : List Sequence) (f : Sequence → Sequence) (new : List Sequence) → KeepsSize f → new ≡ map f rows → (size number : ℕ) → IsReady rows size number → IsReady new size number
still rows f new keeps is size number ready = record {
  known = ap (λ (ss : List Sequence). is_known ss number) is ∙ known_map f rows number keeps ∙ ready.known;
  size_is = ap (λ (ss : List Sequence). (sequence_in ss number).size) is
      ∙ ap (λ (s : Sequence). s.size) (sequence_map f rows number keeps ready.known)
      ∙ keeps.size (sequence_in rows number) ∙ ready.size_is;
}

still_at : (rows : List Sequence) (n : ℕ) (g : Sequence → Sequence) → KeepsSize g → (size number : ℕ) → IsReady rows size number → IsReady (changed_at n g rows) size number
still_at rows n g keeps =
    still rows (λ s. cond (s.number == n) (g s) s) (changed_at n g rows) (sizes_at n g keeps) refl

after_settled : (a : Arrived) (v : Buffer) (q i : ℕ) (chunk : Chunk) → StayReady v (settled a v q i chunk)
after_settled a v q i chunk =
    let rows = settled_rows a v q i chunk in
    still v.sequences rows.change (settled a v q i chunk).sequences (sizes rows.keeps) rows.is

after_noted : (a : Arrived) (q i n : ℕ) (v : Buffer) → StayReady v (arrival_noted a q i n v)
after_noted a q i n v = of (makes_arrive a)
  where
    of : (b : Bool) → (size number : ℕ) → IsReady v.sequences size number → IsReady (cond b (changed_at q (with_arrived i n) v.sequences) v.sequences) size number
    of true = still_at v.sequences q (with_arrived i n) (record { number = λ s. refl; size = λ s. refl })
    of false = λ size number ready. ready

after_arrival : (v : Buffer) (q i : ℕ) (chunk : Chunk) → StayReady v (with_arrival v q i chunk)
after_arrival v q i chunk = λ size number ready.
    after_noted (arrival_of v q i) q i (length chunk.fragments) (settled (arrival_of v q i) v q i (complete_chunk chunk)) size number
    (after_settled (arrival_of v q i) v q i (complete_chunk chunk) size number ready)

after_part : (v : Buffer) (q i : ℕ) (chunk : Chunk) → StayReady v (with_partial_arrival v q i chunk)
after_part v q i chunk = after_settled (partial_arrival_of v q i (length chunk.fragments)) v q i (partial_chunk chunk)

after_reading : (v : Buffer) (arrive : Chunk → Buffer) (flags : ℕ) (reading : Reading) → ((chunk : Chunk) → StayReady v (arrive chunk)) → StayReady v (once_read v arrive flags reading)
after_reading v arrive flags (Fragments fragments) stays = stays _
after_reading v arrive flags (Unreadable number) stays = λ size number ready. ready

pub after_image : (v new : Buffer) (q i flags : ℕ) (reading : Reading) → new ≡ once_read v (with_arrival v q i) flags reading → StayReady v new
after_image v new q i flags reading is =
    subst (StayReady v) (sym is) (after_reading v (with_arrival v q i) flags reading (after_arrival v q i))

pub after_partial : (v new : Buffer) (q i flags : ℕ) (reading : Reading) → new ≡ once_read v (with_partial_arrival v q i) flags reading → StayReady v new
after_partial v new q i flags reading is =
    subst (StayReady v) (sym is) (after_reading v (with_partial_arrival v q i) flags reading (after_part v q i))

pub after_advance : (v new : Buffer) (q : ℕ) (to : Cursor) (turn : Turn) → new ≡ with_advance v q to turn → StayReady v new
after_advance v new q to turn is =
    subst (StayReady v) (sym is)
    (still_at v.sequences q (advanced to turn) (record { number = λ s. refl; size = λ s. refl }))

pub after_close : (v new : Buffer) (q : ℕ) → new ≡ with_close v q → StayReady v new
after_close v new q is = subst (StayReady v) (sym is) (of (sequence_in v.sequences q).closed)
  where
    of : (b : Bool) → StayReady v (cond b v (closed_buffer v q))
    of true = λ size number ready. ready
    of false = still_at v.sequences q (closed_sequence v.live) (record { number = λ s. refl; size = λ s. refl })

-- And an arrival closes none

IsOpen : List Sequence → ℕ → Type 0
IsOpen rows number = (is_known rows number ≡ true) × ((sequence_in rows number).closed ≡ false)

open_noted : (a : Arrived) (q i n : ℕ) (v : Buffer) (number : ℕ) → IsOpen v.sequences number → IsOpen (arrival_noted a q i n v).sequences number
unfolding IsOpen
open_noted a q i n v number is = of (makes_arrive a)
  where
    arrives : Sequence → Sequence
    arrives s = cond (s.number == q) (with_arrived i n s) s

    keeps : KeepsSize arrives
    keeps = sizes_at q (with_arrived i n) (record { number = λ s. refl; size = λ s. refl })

    closed : (s : Sequence) (b : Bool) → (cond b (with_arrived i n s) s).closed ≡ s.closed
    closed s true = refl
    closed s false = refl

    of : (b : Bool) → IsOpen (cond b (changed_at q (with_arrived i n) v.sequences) v.sequences) number
    of true = (
      known_map arrives v.sequences number keeps ∙ is.0,
      ap (λ (s : Sequence). s.closed) (sequence_map arrives v.sequences number keeps is.0)
          ∙ closed (sequence_in v.sequences number) ((sequence_in v.sequences number).number == q) ∙ is.1,
    )
    of false = is

open_settled : (a : Arrived) (v : Buffer) (q i : ℕ) (chunk : Chunk) (number : ℕ) → IsOpen v.sequences number → IsOpen (settled a v q i chunk).sequences number
unfolding IsOpen
open_settled a v q i chunk number is =
    let rows = settled_rows a v q i chunk in (
      known_still v.sequences (settled a v q i chunk).sequences number rows is.0,
      open_still v.sequences (settled a v q i chunk).sequences number rows is.0 is.1,
    )

pub open_after_image : (v new : Buffer) (q i flags : ℕ) (reading : Reading) (number : ℕ) → new ≡ once_read v (with_arrival v q i) flags reading → is_known v.sequences number ≡ true → (sequence_in v.sequences number).closed ≡ false → (sequence_in new.sequences number).closed ≡ false
unfolding IsOpen
open_after_image v new q i flags reading number is known stays =
    (subst (λ (b : Buffer). IsOpen b.sequences number) (sym is) (of reading)).1
  where
    of : (r : Reading) → IsOpen (once_read v (with_arrival v q i) flags r).sequences number
    of (Fragments fragments) =
        open_noted (arrival_of v q i) q i _ (settled (arrival_of v q i) v q i _) number
        (open_settled (arrival_of v q i) v q i _ number (known, stays))
    of (Unreadable n) = (known, stays)
