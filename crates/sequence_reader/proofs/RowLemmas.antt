-- The row of a sequence at a place, by what there is of the chunk there.
use Rattle.std.proofs.Common.{◌≡◌, ℕ, suc, ◌-◌, ◌<◌, ◌≤◌, ◌==◌, ◌&&◌, ◌||◌, not, max, Bool, true, false, cond, List, [], ◌∷◌, length, drop, Option, Some, None, is_some, refl, sym, ap, ◌∙◌, arith}
use Rattle.std.proofs.lemmas.List.{drop_all}
use Rattle.trace_base.proofs.Lists.{one_left}
use Rattle.trace_model.specs.Buffers.{Buffer, BufferRecord, live_at}
use Rattle.trace_model.specs.Images.{Chunk, Fragment}
use Rattle.trace_model.specs.Row.{Slot, Here, Gone, Never, Link, Gap, Stop, Missing, Partial, Unpatched, place, place_behind, is_last, is_part, with_piece, chunk_links, row_of, slot_from, slot_of, slots_of, horizon}
use Rattle.trace_model.specs.Sequences.{Sequence, sequence_in, is_known, has_arrived, is_among}
use Rattle.trace_model.proofs.SequenceLemmas.{number_of}
use Rattle.trace_buffer.specs.Calls.{is_lost}
use Rattle.sequence_reader.specs.Spots.{row_at}

module _ (b : Buffer) (s : Sequence) (i k : ℕ) where
  row_more : i < horizon s → row_at b s (place i k) ≡ row_of s.closed i k (slot_of b s i ∷ slots_of b s (suc i) (horizon s - suc i))
  row_more before =
      let more : horizon s - i ≡ suc (horizon s - suc i) = omega (arith, before) in
      ap (λ n. row_of s.closed i k (slots_of b s i n)) more

  row_slot : (slot : Slot) → slot_of b s i ≡ slot → i < horizon s → row_at b s (place i k) ≡ row_of s.closed i k (slot ∷ slots_of b s (suc i) (horizon s - suc i))
  row_slot slot is before = row_more before ∙ ap (λ t. row_of s.closed i k (t ∷ slots_of b s (suc i) (horizon s - suc i))) is

  pub row_gone : slot_of b s i ≡ Gone → i < horizon s → row_at b s (place i k) ≡ Gap (place i k) (place (suc i) 0) true ∷ row_at b s (place (suc i) 0)
  row_gone is before = row_slot Gone is before

  pub row_never : slot_of b s i ≡ Never → i < horizon s
      → row_at b s (place i k)
      ≡ cond s.closed (Gap (place i k) (place (suc i) 0) false ∷ row_at b s (place (suc i) 0)) (Stop (place i k) Missing true ∷ [])
  row_never is before = row_slot Never is before

  -- the chunk's own links, and then the stop place or the next chunk's
  abbrev pub rest_of : Chunk → ℕ → List Link
  rest_of chunk passed =
      cond (is_part s.closed chunk) (Stop (place i (max passed (length chunk.fragments))) Partial false ∷ []) (row_at b s (place (suc i) 0))

  pub row_here : (chunk : Chunk) → slot_of b s i ≡ Here chunk → i < horizon s
      → row_at b s (place i k) ≡ chunk_links s.closed i chunk k (drop k chunk.fragments) (rest_of chunk k)
  row_here chunk is before = row_slot (Here chunk) is before

-- behind all fragments that are there

pub row_exhausted : (b : Buffer) (s : Sequence) (i k : ℕ) (chunk : Chunk) → slot_of b s i ≡ Here chunk → i < horizon s → length chunk.fragments ≤ k
    → row_at b s (place i k) ≡ rest_of b s i k chunk k
row_exhausted b s i k chunk is before passed =
    row_here b s i k chunk is before
    ∙ ap (λ fs. chunk_links s.closed i chunk k fs (rest_of b s i k chunk k)) (drop_all k chunk.fragments passed)

pub row_part : (b : Buffer) (s : Sequence) (i k : ℕ) (chunk : Chunk) → slot_of b s i ≡ Here chunk → i < horizon s → length chunk.fragments ≤ k → is_part s.closed chunk ≡ true
    → row_at b s (place i k) ≡ Stop (place i (max k (length chunk.fragments))) Partial false ∷ []
row_part b s i k chunk is before passed part =
    row_exhausted b s i k chunk is before passed
    ∙ ap (λ p. cond p (Stop (place i (max k (length chunk.fragments))) Partial false ∷ []) (row_at b s (place (suc i) 0))) part

pub row_next : (b : Buffer) (s : Sequence) (i k : ℕ) (chunk : Chunk) → slot_of b s i ≡ Here chunk → i < horizon s → length chunk.fragments ≤ k → is_part s.closed chunk ≡ false
    → row_at b s (place i k) ≡ row_at b s (place (suc i) 0)
row_next b s i k chunk is before passed whole =
    row_exhausted b s i k chunk is before passed
    ∙ ap (λ p. cond p (Stop (place i (max k (length chunk.fragments))) Partial false ∷ []) (row_at b s (place (suc i) 0))) whole

-- at a fragment

module _ (b : Buffer) (s : Sequence) (i k : ℕ) (chunk : Chunk) (is : slot_of b s i ≡ Here chunk) (before : i < horizon s)
    (fragment : Fragment) (others : List Fragment) (here : drop k chunk.fragments ≡ fragment ∷ others) where
  at_fragment : row_at b s (place i k) ≡ chunk_links s.closed i chunk k (fragment ∷ others) (rest_of b s i k chunk k)
  at_fragment = row_here b s i k chunk is before ∙ ap (λ fs. chunk_links s.closed i chunk k fs (rest_of b s i k chunk k)) here

  abbrev stop : List Link
  stop = Stop (place i k) Unpatched (chunk.continues && (k == 0)) ∷ []

  abbrev piece_before : List Link → List Link
  piece_before rest = with_piece (record { at = place i k; fragment = fragment; runs_on = chunk.runs_on && is_last others })
      (place_behind (is_part s.closed chunk) i k (is_last others)) (chunk.continues && (k == 0)) (chunk.awaits && is_last others) rest

  pub row_waits : ((chunk.awaits && is_last others) && not s.closed) ≡ true → row_at b s (place i k) ≡ Stop (place i k) Unpatched (chunk.continues && (k == 0)) ∷ []
  row_waits waits =
      at_fragment
      ∙ ap (λ w. cond w stop (piece_before (chunk_links s.closed i chunk (suc k) others (rest_of b s i k chunk k)))) waits

  -- the rest stands at the place behind the fragment
  same_rest : (rest : List Fragment) → drop (suc k) chunk.fragments ≡ rest → k < length chunk.fragments
      → chunk_links s.closed i chunk (suc k) rest (rest_of b s i k chunk k)
      ≡ chunk_links s.closed i chunk (suc k) (drop (suc k) chunk.fragments) (rest_of b s i (suc k) chunk (suc k))
  same_rest rest e less =
      let most : max k (length chunk.fragments) ≡ max (suc k) (length chunk.fragments) = omega (arith, less) in
      ap (λ n. chunk_links s.closed i chunk (suc k) rest (cond (is_part s.closed chunk) (Stop (place i n) Partial false ∷ []) (row_at b s (place (suc i) 0)))) most
      ∙ ap (λ fs. chunk_links s.closed i chunk (suc k) fs (rest_of b s i (suc k) chunk (suc k))) (sym e)

  stays : (rest : List Fragment) → drop (suc k) chunk.fragments ≡ rest → k < length chunk.fragments
      → chunk_links s.closed i chunk (suc k) rest (rest_of b s i k chunk k) ≡ row_at b s (place i (suc k))
  stays rest e less = same_rest rest e less ∙ sym (row_here b s i (suc k) chunk is before)

  behind_with : (rest : List Fragment) (part : Bool) → drop (suc k) chunk.fragments ≡ rest → k < length chunk.fragments → is_part s.closed chunk ≡ part
      → chunk_links s.closed i chunk (suc k) rest (rest_of b s i k chunk k) ≡ row_at b s (place_behind part i k (is_last rest))
  behind_with [] true e less p = stays [] e less
  behind_with [] false e less p =
      ap (λ q. cond q (Stop (place i (max k (length chunk.fragments))) Partial false ∷ []) (row_at b s (place (suc i) 0))) p
  behind_with (g ∷ gs) true e less p = stays (g ∷ gs) e less
  behind_with (g ∷ gs) false e less p = stays (g ∷ gs) e less

  pub row_fragment : ((chunk.awaits && is_last others) && not s.closed) ≡ false
      → row_at b s (place i k)
      ≡ with_piece (record { at = place i k; fragment = fragment; runs_on = chunk.runs_on && is_last others })
      (place_behind (is_part s.closed chunk) i k (is_last others)) (chunk.continues && (k == 0)) (chunk.awaits && is_last others)
      (row_at b s (place_behind (is_part s.closed chunk) i k (is_last others)))
  row_fragment goes =
      let on = one_left k chunk.fragments fragment others here in
      at_fragment
      ∙ ap (λ w. cond w stop (piece_before (chunk_links s.closed i chunk (suc k) others (rest_of b s i k chunk k)))) goes
      ∙ ap piece_before (behind_with others (is_part s.closed chunk) on.0 on.1 refl)

-- What there is of a chunk, as a buffer's calls tell it

pub slot_here : (b : Buffer) (q i : ℕ) (stored : BufferRecord) → is_known b.sequences q ≡ true → live_at b q i ≡ Some stored → slot_of b (sequence_in b.sequences q) i ≡ Here stored.chunk
slot_here b q i stored known live =
    ap (λ n. slot_from (live_at b n i) (has_arrived (sequence_in b.sequences q) i || is_among i (sequence_in b.sequences q).final)) (number_of b.sequences q known)
    ∙ ap (λ o. slot_from o (has_arrived (sequence_in b.sequences q) i || is_among i (sequence_in b.sequences q).final)) live

slot_absent : (b : Buffer) (q i : ℕ) (was : Bool) → is_known b.sequences q ≡ true → live_at b q i ≡ None → was ≡ is_lost b q i → slot_of b (sequence_in b.sequences q) i ≡ slot_from None was
slot_absent b q i was known none lost =
    let there : Bool = has_arrived (sequence_in b.sequences q) i || is_among i (sequence_in b.sequences q).final in
    ap (λ n. slot_from (live_at b n i) there) (number_of b.sequences q known)
    ∙ ap (λ o. slot_from o there) none
    ∙ ap (slot_from None) (sym (lost ∙ ap (λ (o : Option BufferRecord). not (is_some o) && there) none))

pub slot_gone : (b : Buffer) (q i : ℕ) (was : Bool) → is_known b.sequences q ≡ true → live_at b q i ≡ None → was ≡ is_lost b q i → was ≡ true → slot_of b (sequence_in b.sequences q) i ≡ Gone
slot_gone b q i was known none lost is = slot_absent b q i was known none lost ∙ ap (slot_from None) is

pub slot_never : (b : Buffer) (q i : ℕ) (was : Bool) → is_known b.sequences q ≡ true → live_at b q i ≡ None → was ≡ is_lost b q i → was ≡ false → slot_of b (sequence_in b.sequences q) i ≡ Never
slot_never b q i was known none lost is = slot_absent b q i was known none lost ∙ ap (slot_from None) is
