-- A new record in a place that meets nothing.
use Rattle.std.proofs.Common.{◌≡◌, ℕ, ◌+◌, ◌*◌, ◌<◌, ◌≤◌, Bool, true, false, cond, ◌||◌, ◌==◌, ⊎_elim, suc, List, [], ◌∷◌, ◌++◌, length, map, sum_by, None, sym, ap, subst, arith, true≢false}
use Rattle.std.proofs.Math.Nat.{mul-le-mul_right}
use Rattle.std.proofs.lemmas.Bool.{cases_lt}
use Rattle.std.proofs.lemmas.List.Sums.{sum_by-cons}
use Rattle.std.specs.List.{find}
use Rattle.std.specs.Option.{option_map}
use Rattle.ring_bytes.specs.Value.{Stored, RingValue, size_of, next_met_of}
use Rattle.trace_model.specs.Buffers.{is_of}
use Rattle.trace_model.specs.Sequences.{Sequence, is_known, sequence_in}
use Rattle.trace_buffer.specs.BufferFields.{AllKept, AllFit}
use Rattle.trace_buffer.specs.Records.{record_of, meets_record, is_at_key}
use Rattle.trace_buffer.proofs.FindLemmas.{find_no_record}

-- what the buffer says of its records, said of the ring's

pub free_is : (ring : RingValue) (size : ℕ) → find (meets_record ring size) (map record_of ring.live) ≡ None → next_met_of ring size ≡ None
free_is ring size none = ap (option_map (λ (s : Stored). s.at)) (find_no_record (meets_record ring size) ring.live none)

pub absent_is : (ring : RingValue) (sequence chunk_id : ℕ) → find (is_of sequence chunk_id) (map record_of ring.live) ≡ None → option_map (λ (s : Stored). s.at) (find (is_at_key sequence chunk_id) ring.live) ≡ None
absent_is ring sequence chunk_id none = ap (option_map (λ (s : Stored). s.at)) (find_no_record (is_of sequence chunk_id) ring.live none)

-- There are entries enough: as many records as take more than the ring has aren't there.

pub roomy : (room capacity number : ℕ) (rows : List Sequence) → AllFit room capacity rows → is_known rows number ≡ true → room < (sequence_in rows number).size * (capacity + 1)
roomy room capacity number [] fit known = absurd (true≢false (sym known))
roomy room capacity number (s ∷ rows) fit known = of (s.number == number) (roomy room capacity number rows fit.2) known
  where
    of : (b : Bool) → (is_known rows number ≡ true → room < (sequence_in rows number).size * (capacity + 1)) → (b || is_known rows number) ≡ true → room < (cond b s (sequence_in rows number)).size * (capacity + 1)
    of true later is = fit.1
    of false later is = later is

abbrev pub AllRoomy : ℕ → ℕ → List Stored → Type 0
AllRoomy room capacity [] = Unit {0}
AllRoomy room capacity (s ∷ ss) = (room < size_of s * (capacity + 1)) × AllRoomy room capacity ss

pub roomy_kept : (room capacity : ℕ) (rows : List Sequence) (ss : List Stored) → AllFit room capacity rows → AllKept rows ss → AllRoomy room capacity ss
roomy_kept room capacity rows [] fit kept = tt
roomy_kept room capacity rows (s ∷ ss) fit kept = (
  subst (λ n. room < n * (capacity + 1)) (sym kept.0.size) (roomy room capacity s.key.sequence rows fit kept.0.known),
  roomy_kept room capacity rows ss fit kept.1,
)

roomy_sum : (room capacity : ℕ) (ss : List Stored) → AllRoomy room capacity ss → length ss * (room + 1) ≤ sum_by size_of ss * (capacity + 1)
roomy_sum room capacity [] all = omega arith
roomy_sum room capacity (s ∷ ss) all =
    let rest = roomy_sum room capacity ss all.1 in
    step room capacity (length ss) (sum_by size_of ss) (size_of s) (sum_by size_of (s ∷ ss)) all.0 rest (sum_by-cons size_of s ss)
  where
    step : (room capacity n sum size all : ℕ) → room < size * (capacity + 1) → n * (room + 1) ≤ sum * (capacity + 1) → all ≡ size + sum → suc n * (room + 1) ≤ all * (capacity + 1)
    step room capacity n sum size all one rest is = subst (λ m. suc n * (room + 1) ≤ m * (capacity + 1)) (sym is) (omega arith)

pub few_entries : (room capacity : ℕ) (ss : List Stored) → AllRoomy room capacity ss → sum_by size_of ss ≤ room → length ss ≤ capacity
few_entries room capacity ss all few =
    of (length ss) (sum_by size_of ss) (roomy_sum room capacity ss all) few
  where
    of : (n sum : ℕ) → n * (room + 1) ≤ sum * (capacity + 1) → sum ≤ room → n ≤ capacity
    of n sum low le =
        let one : sum * (capacity + 1) ≤ room * (capacity + 1) = mul-le-mul_right (capacity + 1) le in
        ⊎_elim
        (λ (h : capacity < n).
        let two : (capacity + 1) * (room + 1) ≤ n * (room + 1) = mul-le-mul_right (room + 1) (omega arith) in
        absurd (omega arith))
        (λ (h : n ≤ capacity). h)
        (cases_lt capacity n)

pub roomy_with : (room capacity : ℕ) (ss : List Stored) (s : Stored) → AllRoomy room capacity ss → room < size_of s * (capacity + 1) → AllRoomy room capacity (ss ++ s ∷ [])
roomy_with room capacity [] s all one = (one, tt)
roomy_with room capacity (t ∷ ss) s all one = (all.0, roomy_with room capacity ss s all.1 one)
