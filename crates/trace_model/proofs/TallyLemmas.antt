-- How many outcomes of a kind are fixed, and by how much the counts of a sequence rise.
use Rattle.std.proofs.Common.{◌≡◌, ◌∙◌, ℕ, zero, suc, ◌+◌, ◌-◌, ◌≤◌, Bool, true, false, not, ◌&&◌, List, [], ◌∷◌, ◌++◌, map, length, refl, sym, ap, arith, inl, inr}
use Rattle.std.specs.Prelude.{cond, ◌⊎◌, ◌==◌, count_by, sum_by, nat_lt}
use Rattle.std.specs.List.{flat_map}
use Rattle.std.proofs.lemmas.Bool.{cases_eq, eq-eqb, ne_eqb}
use Rattle.std.proofs.lemmas.List.Sums.{sum_by-cons, sum_by-append}
use Rattle.trace_model.specs.Images.{Chunk}
use Rattle.trace_model.specs.Counts.{one_if}
use Rattle.trace_model.specs.Sequences.{Cursor, Sequence, unread_of, unread_starts}
use Rattle.trace_model.specs.Buffers.{BufferRecord, is_loss_of, packets_lost}
use Rattle.trace_model.specs.Row.{place, Link, Joined, Gap, Stop}
use Rattle.trace_model.specs.Reads.{Turn, Skips, Ends, Lost, turn_of, count_of}
use Rattle.trace_model.specs.Causes.{Fixed, Outcome, Absent, places_from, starts_among, unread_start_places, lost_at, fixed_by_loss, fixed_by_turn, fixed_by_link}

-- how many of the outcomes pass a test
abbrev pub tally : (Outcome → Bool) → List Fixed → ℕ
tally test fixed = count_by (λ (f : Fixed). test f.outcome) fixed

pub tally-append : (test : Outcome → Bool) (fs gs : List Fixed) → tally test (fs ++ gs) ≡ tally test fs + tally test gs
tally-append test fs gs = sum_by-append (λ (f : Fixed). cond (test f.outcome) 1 0) fs gs

pub tally-cons : (test : Outcome → Bool) (f : Fixed) (fs : List Fixed) → tally test (f ∷ fs) ≡ cond (test f.outcome) 1 0 + tally test fs
tally-cons test f fs = sum_by-cons (λ (g : Fixed). cond (test g.outcome) 1 0) f fs

-- Losses

zero_either : (b : Bool) → ◌≡◌ {A = ℕ} 0 (cond b 0 0)
zero_either true = refl
zero_either false = refl

-- so many places are lost, where the test takes losses
pub tally-lost : (test : Outcome → Bool) (places : List Cursor) → tally test (map lost_at places) ≡ cond (test (Absent Lost)) (length places) 0
tally-lost test [] = zero_either (test (Absent Lost))
tally-lost test (at ∷ places) =
    tally-cons test (lost_at at) (map lost_at places)
    ∙ ap (λ (n : ℕ). cond (test (Absent Lost)) 1 0 + n) (tally-lost test places)
    ∙ more (test (Absent Lost))
  where
    more : (b : Bool) → cond b 1 0 + cond b (length places) 0 ≡ cond b (suc (length places)) 0
    more true = omega arith
    more false = refl

-- behind the first fragment each one begins a packet
starts_behind : (chunk : Chunk) (count chunk_id passed : ℕ) → length (starts_among chunk (places_from chunk_id (suc passed) count)) ≡ count
starts_behind chunk zero chunk_id passed = refl
starts_behind chunk (suc count) chunk_id passed =
    ap (λ (b : Bool). length (cond (not (chunk.continues && b)) (place chunk_id (suc passed) ∷ starts_among chunk (places_from chunk_id (suc (suc passed)) count))
    (starts_among chunk (places_from chunk_id (suc (suc passed)) count)))) (ne_eqb (suc passed) 0 (λ e. omega (arith, e)))
    ∙ kept chunk.continues
    ∙ ap suc (starts_behind chunk count chunk_id (suc passed))
  where
    kept : (b : Bool) → length (cond (not (b && false)) (place chunk_id (suc passed) ∷ starts_among chunk (places_from chunk_id (suc (suc passed)) count))
        (starts_among chunk (places_from chunk_id (suc (suc passed)) count))) ≡ suc (length (starts_among chunk (places_from chunk_id (suc (suc passed)) count)))
    kept true = refl
    kept false = refl

-- of so many places from a first one on
starts_from : (chunk : Chunk) (count chunk_id passed : ℕ) → length (starts_among chunk (places_from chunk_id passed count)) ≡ count - one_if (chunk.continues && (passed == 0))
starts_from chunk zero chunk_id passed = none (chunk.continues && (passed == 0))
  where
    none : (b : Bool) → 0 ≡ 0 - one_if b
    none true = refl
    none false = refl
starts_from chunk (suc count) chunk_id (suc passed) =
    starts_behind chunk (suc count) chunk_id passed
    ∙ all chunk.continues
    ∙ ap (λ (b : Bool). suc count - one_if (chunk.continues && b)) (sym (ne_eqb (suc passed) 0 (λ e. omega (arith, e))))
  where
    all : (b : Bool) → suc count ≡ suc count - one_if (b && false)
    all true = omega arith
    all false = omega arith
starts_from chunk (suc count) chunk_id zero = first chunk.continues
  where
    first : (b : Bool) → length (cond (not (b && true)) (place chunk_id 0 ∷ starts_among chunk (places_from chunk_id 1 count)) (starts_among chunk (places_from chunk_id 1 count)))
        ≡ suc count - one_if (b && true)
    first true = starts_behind chunk count chunk_id 0 ∙ omega arith
    first false = ap suc (starts_behind chunk count chunk_id 0) ∙ omega arith

unread_most : (s : Sequence) (chunk_id count : ℕ) → unread_of s chunk_id count ≤ count
unread_most s chunk_id count = step (nat_lt chunk_id s.cursor.chunk_id) (chunk_id == s.cursor.chunk_id)
  where
    step : (a b : Bool) → cond a 0 (cond b (count - s.cursor.passed) count) ≤ count
    step true b = omega arith
    step false true = omega arith
    step false false = omega arith

-- the first of some fragments is the chunk's first exactly where all are there
first_where_all : (count u : ℕ) → u ≤ count → (count - u == 0) ≡ (u == count)
first_where_all count u h = step (cases_eq u count)
  where
    step : ((u ≡ count) ⊎ (u ≡ count → ⊥)) → (count - u == 0) ≡ (u == count)
    step (inl e) = eq-eqb (count - u) 0 (omega (arith, e)) ∙ sym (eq-eqb u count e)
    step (inr d) = ne_eqb (count - u) 0 (λ e. d (omega (arith, h, e))) ∙ sym (ne_eqb u count d)

pub length-unread : (s : Sequence) (chunk_id : ℕ) (chunk : Chunk) → length (unread_start_places s chunk_id chunk) ≡ unread_starts s chunk_id chunk
length-unread s chunk_id chunk =
    let count : ℕ = length chunk.fragments in
    let u : ℕ = unread_of s chunk_id count in
    starts_from chunk u chunk_id (count - u)
    ∙ ap (λ (b : Bool). u - one_if (chunk.continues && b)) (first_where_all count u (unread_most s chunk_id count))

tally-loss : (test : Outcome → Bool) (s : Sequence) (r : BufferRecord) → tally test (fixed_by_loss s r) ≡ cond (test (Absent Lost)) (packets_lost s r) 0
tally-loss test s r = step (is_loss_of s r)
  where
    step : (b : Bool) → tally test (cond b (map lost_at (unread_start_places s r.chunk_id r.chunk)) []) ≡ cond (test (Absent Lost)) (cond b (unread_starts s r.chunk_id r.chunk) 0) 0
    step true = tally-lost test (unread_start_places s r.chunk_id r.chunk) ∙ ap (λ (n : ℕ). cond (test (Absent Lost)) n 0) (length-unread s r.chunk_id r.chunk)
    step false = zero_either (test (Absent Lost))

pub tally-losses : (test : Outcome → Bool) (s : Sequence) (rs : List BufferRecord)
    → tally test (flat_map (fixed_by_loss s) rs) ≡ cond (test (Absent Lost)) (sum_by (packets_lost s) rs) 0
tally-losses test s [] = zero_either (test (Absent Lost))
tally-losses test s (r ∷ rs) =
    tally-append test (fixed_by_loss s r) (flat_map (fixed_by_loss s) rs)
    ∙ ap (λ (n : ℕ). n + tally test (flat_map (fixed_by_loss s) rs)) (tally-loss test s r)
    ∙ ap (λ (n : ℕ). cond (test (Absent Lost)) (packets_lost s r) 0 + n) (tally-losses test s rs)
    ∙ more (test (Absent Lost))
    ∙ ap (λ (n : ℕ). cond (test (Absent Lost)) n 0) (sym (sum_by-cons (packets_lost s) r rs))
  where
    more : (b : Bool) → cond b (packets_lost s r) 0 + cond b (sum_by (packets_lost s) rs) 0 ≡ cond b (packets_lost s r + sum_by (packets_lost s) rs) 0
    more true = refl
    more false = refl

-- Reads

pub tally-read : (test : Outcome → Bool) (turns : Turn → Bool)
    → ((at : Cursor) (turn : Turn) → tally test (fixed_by_turn at turn) ≡ cond (turns turn) 1 0) → turns Skips ≡ false → turns Ends ≡ false
    → (links : List Link) → tally test (flat_map fixed_by_link links) ≡ count_of turns links
tally-read test turns h skips ends [] = refl
tally-read test turns h skips ends (link ∷ links) =
    tally-append test (fixed_by_link link) (flat_map fixed_by_link links)
    ∙ ap (λ (n : ℕ). n + tally test (flat_map fixed_by_link links)) (here link)
    ∙ ap (λ (n : ℕ). cond (turns (turn_of link)) 1 0 + n) (tally-read test turns h skips ends links)
    ∙ sym (sum_by-cons (λ (l : Link). cond (turns (turn_of l)) 1 0) link links)
  where
    here : (l : Link) → tally test (fixed_by_link l) ≡ cond (turns (turn_of l)) 1 0
    here (Joined chain) = h chain.at (turn_of (Joined chain))
    here (Gap at next lost) = sym (ap (λ (b : Bool). cond b 1 0) skips)
    here (Stop at why may) = sym (ap (λ (b : Bool). cond b 1 0) ends)
