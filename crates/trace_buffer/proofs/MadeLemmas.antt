-- The sequences that a buffer is made for.
use Rattle.std.proofs.Common.{◌≡◌, ℕ, zero, suc, ◌+◌, ◌*◌, ◌/◌, ◌<◌, ◌≤◌, ◌==◌, ◌||◌, List, [], ◌∷◌, length, map, get_or, take, refl, sym, ap, ◌∙◌, subst, arith}
use Rattle.std.proofs.Math.Nat.{lt-mul-div-succ, mul-le-mul_right}
use Rattle.std.specs.FinMap.{get-empty, len-empty}
use Rattle.std.specs.Ordering.{nat_cmp}
use Rattle.chunk_index.specs.Value.{IndexValue, empty_index, key_of}
use Rattle.ring_bytes.specs.Value.{RingValue, empty_ring}
use Rattle.page_geometry.specs.Sizes.{record_size}
use Rattle.ring_bytes.proofs.RowLemmas.{size_least}
use Rattle.std.specs.List.{list_any}
use Rattle.trace_buffer.specs.declared.answers.SequenceSpec.{SequenceSpec}
use Rattle.trace_model.specs.Sequences.{Sequence, is_known}
use Rattle.trace_buffer.specs.BufferFields.{AreParts, AllFit, NumbersOnce}
use Rattle.trace_buffer.specs.Made.{sequence_of, AreDistinct, AllSmall, AllTakeLeast}

small_at : (room i : ℕ) (specs : List SequenceSpec) (d : SequenceSpec) → AllSmall room specs → i < length specs → record_size (get_or specs i d).payload ≤ room
small_at room i [] d all in_it = absurd (omega arith)
small_at room zero (s ∷ specs) d all in_it = all.0
small_at room (suc i) (s ∷ specs) d all in_it = small_at room i specs d all.1 (omega arith)

pub payload_small : (room i : ℕ) (specs : List SequenceSpec) (d : SequenceSpec) → AllSmall room specs → i < length specs → (get_or specs i d).payload ≤ room
payload_small room i specs d all in_it =
    let size = small_at room i specs d all in_it in
    let least = size_least (get_or specs i d).payload in
    omega arith

pub small_more : (room most : ℕ) (specs : List SequenceSpec) → room ≤ most → AllSmall room specs → AllSmall most specs
small_more room most [] le all = tt
small_more room most (s ∷ specs) le all = (omega (arith, all.0), small_more room most specs le all.1)

-- the least of those so far

least_more : (n m : ℕ) (specs : List SequenceSpec) → m ≤ n → AllTakeLeast n specs → AllTakeLeast m specs
least_more n m [] le all = tt
least_more n m (s ∷ specs) le all = (omega (arith, all.0), least_more n m specs le all.1)

pub least_step : (n m i : ℕ) (specs : List SequenceSpec) (d : SequenceSpec) → i < length specs → m ≤ n → m ≤ record_size (get_or specs i d).payload → AllTakeLeast n (take i specs) → AllTakeLeast m (take (suc i) specs)
least_step n m i [] d in_it le here all = absurd (omega arith)
least_step n m zero (s ∷ specs) d in_it le here all = (here, tt)
least_step n m (suc i) (s ∷ specs) d in_it le here all =
    (omega (arith, all.0), least_step n m i specs d (omega arith) le here all.1)

pub least_all : (n i : ℕ) (specs : List SequenceSpec) → length specs ≤ i → AllTakeLeast n (take i specs) → AllTakeLeast n specs
least_all n i [] long all = tt
least_all n zero (s ∷ specs) long all = absurd (omega arith)
least_all n (suc i) (s ∷ specs) long all = (all.0, least_all n i specs (omega arith) all.1)

-- and what it gives

wider : (room least size k : ℕ) → room < least * k → least ≤ size → room < size * k
wider room least size k low le = first_of (omega (arith, mul-le-mul_right k le), grind arith)

pub fit_of : (room least : ℕ) (specs : List SequenceSpec) → 0 < least → AllSmall room specs → AllTakeLeast least specs → AllFit room (room / least) (map sequence_of specs)
fit_of room least [] some small all = tt
fit_of room least (s ∷ specs) some small all =
    (small.0, wider room least (record_size s.payload) (room / least + 1) (lt-mul-div-succ room some) all.0, fit_of room least specs some small.1 all.1)

known_of : (specs : List SequenceSpec) (n : ℕ) → is_known (map sequence_of specs) n ≡ list_any (λ (s : SequenceSpec). s.sequence == n) specs
known_of [] n = refl
known_of (s ∷ specs) n = ap (λ b. (s.sequence == n) || b) (known_of specs n)

pub once_of : (specs : List SequenceSpec) → AreDistinct specs → NumbersOnce (map sequence_of specs)
once_of [] distinct = tt
once_of (s ∷ specs) distinct = (known_of specs s.sequence ∙ distinct.0, once_of specs distinct.1)

pub parts_made : (ring : RingValue) (index : IndexValue) (rows : List Sequence) (room least : ℕ) (specs : List SequenceSpec) → ring ≡ empty_ring room → index ≡ empty_index (room / least) → rows ≡ map sequence_of specs → 0 < least → AllSmall room specs → AllTakeLeast least specs → AreDistinct specs → AreParts ring index rows
parts_made ring index rows room least specs ring_is index_is rows_are some small least_is distinct =
    subst (λ (r : RingValue). AreParts r index rows) (sym ring_is)
    (subst (λ (x : IndexValue). AreParts (empty_ring room) x rows) (sym index_is)
    (subst (λ (ss : List Sequence). AreParts (empty_ring room) (empty_index (room / least)) ss) (sym rows_are) made))
  where
    made : AreParts (empty_ring room) (empty_index (room / least)) (map sequence_of specs)
    made = record {
      indexed = record {
        found = λ sequence chunk_id low below. get-empty nat_cmp (key_of sequence chunk_id);
        few = len-empty nat_cmp ℕ;
        keys = tt;
        places_once = tt;
      };
      kept = tt;
      once = once_of specs distinct;
      fit = fit_of room least specs some small least_is;
    }
