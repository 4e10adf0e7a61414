-- Going over the records of a sequence as it is closed.
use Rattle.std.proofs.Common.{◌≡◌, ℕ, ◌<◌, ◌==◌, ◌&&◌, nat_lt, ◌⊎◌, ⊎_elim, inl, inr, Bool, true, false, cond, List, [], ◌∷◌, map, filter, refl, sym, ap, ap₂, ◌∙◌, subst, arith}
use Rattle.std.proofs.lemmas.Bool.Decides.{nat_tests}
use Rattle.ring_bytes.specs.declared.key.RecordKey.{RecordKey}
use Rattle.ring_bytes.specs.Value.{Stored}
use Rattle.trace_model.specs.Buffers.{BufferRecord}
use Rattle.trace_model.specs.Arrivals.{is_too_far}
use Rattle.trace_model.specs.Patches.{closed_sequence}
use Rattle.trace_model.specs.Sequences.{Sequence, with_number, rising, sequence_in, has_arrived}
use Rattle.trace_buffer.specs.BufferFields.{AllKept}
use Rattle.trace_buffer.proofs.PartLemmas.{KeepsRow}
use Rattle.trace_buffer.specs.Closing.{parts_of, finals_of, final_with, PartsAreNear, IsStillNear}
use Rattle.trace_buffer.specs.Records.{record_of}
use Rattle.trace_buffer.specs.Unfinished.{parts_in}
use Rattle.trace_buffer.proofs.CircleLemmas.{front, again, over}
use Rattle.trace_buffer.proofs.UnfinishedLemmas.{no_parts}

-- Numbers put in, in any order

order : (n m : ℕ) → (n < m) ⊎ ((n ≡ m) ⊎ (m < n))
order n m = of (nat_lt n m) refl (nat_lt m n) refl
  where
    is_less : (a b : ℕ) → nat_lt a b ≡ true → a < b
    is_less a b h = grind (arith, nat_tests)

    is_same : (a b : ℕ) → nat_lt a b ≡ false → nat_lt b a ≡ false → a ≡ b
    is_same a b h k = grind (arith, nat_tests)

    of : (b : Bool) → nat_lt n m ≡ b → (d : Bool) → nat_lt m n ≡ d → (n < m) ⊎ ((n ≡ m) ⊎ (m < n))
    of true is d h = inl (is_less n m is)
    of false is true h = inr (inr (is_less m n h))
    of false is false h = inr (inl (is_same n m is h))

same_front : (n k : ℕ) (ks : List ℕ) → n ≡ k → with_number n (k ∷ ks) ≡ k ∷ ks
same_front n k ks same = ap (λ m. with_number m (k ∷ ks)) same ∙ again k ks

swap_less : (n m : ℕ) (ks : List ℕ) → n < m → with_number n (with_number m ks) ≡ with_number m (with_number n ks)
swap_less n m [] less = front n m [] less ∙ sym (over m n [] less)
swap_less n m (k ∷ ks) less = of (order m k) (order n k) (swap_less n m ks less)
  where
    of : (m < k) ⊎ ((m ≡ k) ⊎ (k < m)) → (n < k) ⊎ ((n ≡ k) ⊎ (k < n)) → with_number n (with_number m ks) ≡ with_number m (with_number n ks) → with_number n (with_number m (k ∷ ks)) ≡ with_number m (with_number n (k ∷ ks))
    of (inl low) other rest =
        ap (with_number n) (front m k ks low) ∙ front n m (k ∷ ks) less
        ∙ sym (ap (with_number m) (front n k ks (omega arith)) ∙ over m n (k ∷ ks) less ∙ ap (λ xs. n ∷ xs) (front m k ks low))
    of (inr (inl same)) other rest =
        ap (with_number n) (same_front m k ks same) ∙ front n k ks (omega arith)
        ∙ sym (ap (with_number m) (front n k ks (omega arith)) ∙ over m n (k ∷ ks) less ∙ ap (λ xs. n ∷ xs) (same_front m k ks same))
    of (inr (inr high)) (inl low) rest =
        ap (with_number n) (over m k ks high) ∙ front n k (with_number m ks) low
        ∙ sym (ap (with_number m) (front n k ks low) ∙ over m n (k ∷ ks) less ∙ ap (λ xs. n ∷ xs) (over m k ks high))
    of (inr (inr high)) (inr (inl same)) rest =
        ap (with_number n) (over m k ks high) ∙ same_front n k (with_number m ks) same
        ∙ sym (ap (with_number m) (same_front n k ks same) ∙ over m k ks high)
    of (inr (inr high)) (inr (inr above)) rest =
        ap (with_number n) (over m k ks high) ∙ over n k (with_number m ks) above ∙ ap (λ xs. k ∷ xs) rest
        ∙ sym (ap (with_number m) (over n k ks above) ∙ over m k (with_number n ks) high)

swap : (n m : ℕ) (ks : List ℕ) → with_number n (with_number m ks) ≡ with_number m (with_number n ks)
swap n m ks =
    ⊎_elim (λ (less : n < m). swap_less n m ks less)
    (λ more.
    ⊎_elim (λ (same : n ≡ m). ap₂ (λ a b. with_number a (with_number b ks)) same (sym same))
    (λ (higher : m < n). sym (swap_less m n ks higher)) more)
    (order n m)

-- these put into others
pub filled : List ℕ → List ℕ → List ℕ
filled [] into = into
filled (n ∷ ns) into = with_number n (filled ns into)

filled_first : (n : ℕ) (ns into : List ℕ) → filled (n ∷ ns) into ≡ filled ns (with_number n into)
unfolding filled
filled_first n [] into = refl
filled_first n (m ∷ ns) into = swap n m (filled ns into) ∙ ap (with_number m) (filled_first n ns into)

filled_rising : (ns : List ℕ) → filled ns [] ≡ rising ns
unfolding filled
filled_rising [] = refl
filled_rising (n ∷ ns) = ap (with_number n) (filled_rising ns)

-- The loop

-- with what is left of the records all comes to what it comes to with all
pub record IsMarked (old : Sequence) (all : List Stored) (row : Sequence) (rest : List Stored) : Type 0 where
  pub same : row ≡ record old { final = row.final }
  pub near : PartsAreNear old rest
  pub ids : filled (parts_of old.number (map record_of rest)) row.final ≡ finals_of old.number (map record_of all)

pub begun : (row : Sequence) (all : List Stored) → PartsAreNear row all → row.final ≡ [] → IsMarked row all row all
begun row all near none = record {
  same = refl;
  near = near;
  ids = ap (filled (parts_of row.number (map record_of all))) none ∙ filled_rising (parts_of row.number (map record_of all));
}

-- where no record is a part of a chunk, nothing is left
pub none_to_mark : (old : Sequence) (all : List Stored) (row : Sequence) (rest : List Stored) → parts_in rest ≡ 0 → IsMarked old all row rest → IsMarked old all row []
none_to_mark old all row rest none m = record {
  same = m.same;
  near = tt;
  ids = ap (λ ids. filled ids row.final) (sym (no_parts old.number rest none)) ∙ m.ids;
}

part_first : (number : ℕ) (s : Stored) (rest : List Stored) (into : List ℕ) → filled (parts_of number (map record_of (s ∷ rest))) into ≡ filled (parts_of number (map record_of rest)) (final_with number s.key into)
part_first number s rest into = of ((s.key.sequence == number) && s.key.partial)
  where
    of : (b : Bool) → filled (map (λ (r : BufferRecord). r.chunk_id) (cond b (record_of s ∷ filter (λ (r : BufferRecord). (r.sequence == number) && r.chunk.partial) (map record_of rest)) (filter (λ (r : BufferRecord). (r.sequence == number) && r.chunk.partial) (map record_of rest)))) into ≡ filled (parts_of number (map record_of rest)) (cond b (with_number s.key.chunk_id into) into)
    of true = filled_first s.key.chunk_id (parts_of number (map record_of rest)) into
    of false = refl

pub still_marked : (old : Sequence) (all : List Stored) (row new : Sequence) (s : Stored) (key : RecordKey) (rest : List Stored) → IsMarked old all row (s ∷ rest) → key ≡ s.key → new ≡ record row { final = final_with row.number key row.final } → IsMarked old all new rest
still_marked old all row new s key rest m key_is new_is =
    let number_is : row.number ≡ old.number = ap (λ (t : Sequence). t.number) m.same in
    let final_is : new.final ≡ final_with old.number s.key row.final =
    ap (λ (t : Sequence). t.final) new_is ∙ ap₂ (λ n (k : RecordKey). final_with n k row.final) number_is key_is in
    record {
      same = new_is ∙ ap (λ (t : Sequence). record t { final = final_with row.number key row.final }) m.same
          ∙ ap (λ ids. record old { final = ids }) (sym (ap (λ (t : Sequence). t.final) new_is));
      near = m.near.1;
      ids = ap (filled (parts_of old.number (map record_of rest))) final_is
          ∙ sym (part_first old.number s rest row.final) ∙ m.ids;
    }

pub ended_row : (old : Sequence) (all : List Stored) (row : Sequence) → IsMarked old all row [] → row ≡ record old { final = finals_of old.number (map record_of all) }
unfolding filled
ended_row old all row m =
    let ids : row.final ≡ finals_of old.number (map record_of all) = m.ids in
    m.same ∙ ap (λ ids. record old { final = ids }) ids

pub near_here : (old row : Sequence) (key other : RecordKey) → row ≡ record old { final = row.final } → key ≡ other → IsStillNear old other → IsStillNear row key
near_here old row key other same key_is near =
    subst (λ (k : RecordKey). IsStillNear row k) (sym key_is) (subst (λ (t : Sequence). IsStillNear t other) (sym same) near)

-- The sequence of a buffer that is closed

pub parts_near : (rows : List Sequence) (row : Sequence) (number : ℕ) (ss : List Stored) → row ≡ sequence_in rows number → row.number ≡ number → AllKept rows ss → PartsAreNear (record row { closed = true }) ss
parts_near rows row number [] row_is number_is kept = tt
parts_near rows row number (s ∷ ss) row_is number_is kept = (
  λ same partial.
      subst (λ (t : Sequence). (has_arrived t s.key.chunk_id ≡ false) × (is_too_far t s.key.chunk_id ≡ false))
      (ap (sequence_in rows) (same ∙ number_is) ∙ sym row_is) (kept.0.part partial),
  parts_near rows row number ss row_is number_is kept.1,
)

pub keeps_closed : (live : List BufferRecord) → KeepsRow (closed_sequence live)
keeps_closed live = record { number = λ s. refl; size = λ s. refl; arrived = λ s. refl }

pub closed_is : (live : List BufferRecord) (row closed new : Sequence) → closed ≡ record row { closed = true } → new ≡ record closed { final = finals_of closed.number live } → new ≡ closed_sequence live row
closed_is live row closed new closed_is_it new_is =
    new_is ∙ ap (λ (s : Sequence). record s { final = finals_of s.number live }) closed_is_it
