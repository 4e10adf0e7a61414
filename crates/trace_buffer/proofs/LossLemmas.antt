-- What is lost with a record, from its header and the one sequence that has it.
use Rattle.std.proofs.Common.{◌≡◌, ℕ, zero, suc, ◌+◌, ◌-◌, ◌<◌, ◌==◌, ◌&&◌, Bool, true, false, not, cond, nat_lt, List, [], ◌∷◌, length, map, drop, get_or, set, sum_by, count_by, Option, Some, None, refl, sym, ap, ap₂, ◌∙◌, arith, eq-eqb, ne_eqb, true≢false}
use Rattle.std.proofs.lemmas.List.Sums.{sum_by-cons}
use Rattle.std.proofs.lemmas.Bool.{or_parts}
use Rattle.ring_bytes.specs.declared.key.RecordKey.{RecordKey}
use Rattle.ring_bytes.specs.Value.{Stored}
use Rattle.trace_model.specs.Arrivals.{with_discarded}
use Rattle.trace_model.specs.Buffers as model
use Rattle.trace_model.specs.Buffers.{BufferRecord, with_losses}
use Rattle.trace_model.specs.Counts.{raised, one_if}
use Rattle.trace_model.specs.Images.{Fragment, has_flag_1}
use Rattle.trace_model.specs.Reading.{Reading, Fragments, Unreadable, behind, read_on, reading_from, reading_of, fragment_of, size_of, fragment_end, fragments_of, is_readable}
use Rattle.trace_model.specs.Sequences as sequences
use Rattle.trace_model.specs.Sequences.{Sequence, fresh, is_known, changed_at, unread_of}
use Rattle.trace_model.proofs.CountedLemmas.{raised-none}
use Rattle.trace_buffer.specs.BufferFields.{NumbersOnce}
use Rattle.trace_buffer.specs.Keys.{packets_lost, is_loss, is_unread_loss, LosesAt, discarded_by}
use Rattle.trace_buffer.specs.Records.{record_of, chunk_of, unread_losses}
use Rattle.trace_buffer.proofs.RowLemmas.{changed_is, same_item, other_number}

-- A payload that reads has as many fragments as its header counts.

length_on : (left number : ℕ) (found : Option Fragment) (others : Fragment → Reading) → ((f : Fragment) → is_readable (others f) ≡ true → length (fragments_of (others f)) ≡ left) → is_readable (read_on number others found) ≡ true → length (fragments_of (read_on number others found)) ≡ suc left
length_on left number None others rest reads = absurd (true≢false (sym reads))
length_on left number (Some f) others rest reads = of (others f) refl reads
  where
    of : (r : Reading) → others f ≡ r → is_readable (behind f r) ≡ true → length (fragments_of (behind f r)) ≡ suc left
    of (Fragments fs) is ok =
        let h = rest f (ap is_readable is) in
        let same : length fs ≡ left = sym (ap (λ r. length (fragments_of r)) is) ∙ h in
        ap suc same
    of (Unreadable n) is ok = absurd (true≢false (sym ok))

pub length_from : (left number at : ℕ) (bytes : List ℕ) → is_readable (reading_from left number at bytes) ≡ true → length (fragments_of (reading_from left number at bytes)) ≡ left
length_from zero number at bytes reads = refl
length_from (suc left) number at bytes reads =
    length_on left number (fragment_of (left == 0) at bytes (size_of 4 bytes))
    (λ f. reading_from left (suc number) (fragment_end f) (drop (fragment_end f - at) bytes))
    (λ f. length_from left (suc number) (fragment_end f) (drop (fragment_end f - at) bytes)) reads

pub reading_length : (count : ℕ) (payload : List ℕ) → is_readable (reading_of count payload) ≡ true → length (fragments_of (reading_of count payload)) ≡ count
reading_length zero payload reads = absurd (true≢false (sym reads))
reading_length (suc more) payload reads = length_from (suc more) 0 0 payload reads

-- What a sequence loses

pub discarded_is : (state : Sequence) (key : RecordKey) (payload : List ℕ) → is_readable (reading_of key.count payload) ≡ true → discarded_by key state ≡ with_discarded key.chunk_id (chunk_of key payload) state
discarded_is state key payload reads =
    ap
    (λ n. record state { lost = raised state.lost (unread_of state key.chunk_id n - one_if (has_flag_1 key.flags && (unread_of state key.chunk_id n == n))) })
    (sym (reading_length key.count payload reads))

lost_one : (state : Sequence) (r : BufferRecord) → with_losses (r ∷ []) state ≡ record state { lost = raised state.lost (model.packets_lost state r) }
lost_one state r =
    ap (λ n. record state { lost = raised state.lost n })
    (let last : sum_by (model.packets_lost state) [] ≡ 0 = refl in omega (arith, sum_by-cons (model.packets_lost state) r []))

lost_other : (state : Sequence) (r : BufferRecord) → (r.sequence == state.number) ≡ false → with_losses (r ∷ []) state ≡ state
lost_other state r other =
    lost_one state r
    ∙ ap (λ b. record state { lost = raised state.lost (cond (b && not (r.chunk.partial && not state.closed)) (sequences.unread_starts state r.chunk_id r.chunk) 0) }) other
    ∙ ap (λ n. record state { lost = n }) (raised-none state.lost)

flip : (m n : ℕ) → (m == n) ≡ false → (n == m) ≡ false
flip m n other = ne_eqb n m (λ same. true≢false (sym (eq-eqb m n (sym same)) ∙ other))

pub lost_at : (rows : List Sequence) (r : BufferRecord) → map (with_losses (r ∷ [])) rows ≡ changed_at r.sequence (with_losses (r ∷ [])) rows
lost_at [] r = refl
lost_at (s ∷ rows) r = of (s.number == r.sequence) refl (lost_at rows r)
  where
    of : (b : Bool) → (s.number == r.sequence) ≡ b → map (with_losses (r ∷ [])) rows ≡ changed_at r.sequence (with_losses (r ∷ [])) rows → map (with_losses (r ∷ [])) (s ∷ rows) ≡ changed_at r.sequence (with_losses (r ∷ [])) (s ∷ rows)
    of true is rest = ap₂ (λ x xs. x ∷ xs) (sym (ap (λ b. cond b (with_losses (r ∷ []) s) s) is)) rest
    of false is rest =
        ap₂ (λ x xs. x ∷ xs)
        (lost_other s r (flip s.number r.sequence is) ∙ sym (ap (λ b. cond b (with_losses (r ∷ []) s) s) is))
        rest

-- as the header says it, for the sequence with the record's number
lost_here : (state : Sequence) (stored : Stored) (key : RecordKey) → stored.key ≡ key → state.number ≡ key.sequence → is_readable (reading_of stored.key.count stored.payload) ≡ true → record state { lost = raised state.lost (packets_lost state key) } ≡ with_losses (record_of stored ∷ []) state
lost_here state stored key same number reads =
    ap (λ (k : RecordKey). record state { lost = raised state.lost (packets_lost state k) }) (sym same)
    ∙ ap
    (λ n. record state { lost = raised state.lost (cond (is_loss state stored.key) (unread_of state stored.key.chunk_id n - one_if (has_flag_1 stored.key.flags && (unread_of state stored.key.chunk_id n == n))) 0) })
    (sym (reading_length stored.key.count stored.payload reads))
    ∙ ap
    (λ b. record state { lost = raised state.lost (cond (b && is_loss state stored.key) (sequences.unread_starts state stored.key.chunk_id (chunk_of stored.key stored.payload)) 0) })
    (sym (eq-eqb stored.key.sequence state.number (ap (λ (k : RecordKey). k.sequence) same ∙ sym number)))
    ∙ sym (lost_one state (record_of stored))

unread_here : (state : Sequence) (stored : Stored) (key : RecordKey) → stored.key ≡ key → state.number ≡ key.sequence → is_readable (reading_of stored.key.count stored.payload) ≡ true → is_unread_loss state key ≡ model.is_unread_loss state (record_of stored)
unread_here state stored key same number reads =
    ap (λ (k : RecordKey). is_unread_loss state k) (sym same)
    ∙ ap (λ n. is_loss state stored.key && nat_lt 0 (unread_of state stored.key.chunk_id n))
    (sym (reading_length stored.key.count stored.payload reads))
    ∙ ap (λ b. (b && is_loss state stored.key) && nat_lt 0 (unread_of state stored.key.chunk_id (length (fragments_of (reading_of stored.key.count stored.payload)))))
    (sym (eq-eqb stored.key.sequence state.number (ap (λ (k : RecordKey). k.sequence) same ∙ sym number)))

-- only one sequence loses something

one_is : (b : Bool) → cond b 1 0 ≡ one_if b
one_is true = refl
one_is false = refl

count_cons : (p : Sequence → Bool) (s : Sequence) (rows : List Sequence) → count_by p (s ∷ rows) ≡ cond (p s) 1 0 + count_by p rows
count_cons p s rows = sum_by-cons (λ x. cond (p x) 1 0) s rows

no_loss : (s : Sequence) (r : BufferRecord) → (s.number == r.sequence) ≡ false → model.is_unread_loss s r ≡ false
no_loss s r other =
    ap (λ b. (b && not (r.chunk.partial && not s.closed)) && nat_lt 0 (model.unread_in s r)) (flip s.number r.sequence other)

count_more : (rows : List Sequence) (s : Sequence) (r : BufferRecord) (n : ℕ) → (s.number == r.sequence) ≡ false → unread_losses rows r ≡ n → unread_losses (s ∷ rows) r ≡ n
count_more rows s r n other rest =
    let none : cond (model.is_unread_loss s r) 1 0 ≡ 0 = ap (λ b. cond b 1 0) (no_loss s r other) in
    count_cons (λ state. model.is_unread_loss state r) s rows ∙ (λ i. none i + rest i) ∙ omega arith

count_none : (rows : List Sequence) (r : BufferRecord) → is_known rows r.sequence ≡ false → unread_losses rows r ≡ 0
count_none [] r none = refl
count_none (s ∷ rows) r none =
    let no = or_parts (s.number == r.sequence) (is_known rows r.sequence) none in
    count_more rows s r 0 no.0 (count_none rows r no.1)

count_once : (rows : List Sequence) (i : ℕ) (d : Sequence) (r : BufferRecord) → NumbersOnce rows → i < length rows → (get_or rows i d).number ≡ r.sequence → unread_losses rows r ≡ one_if (model.is_unread_loss (get_or rows i d) r)
count_once [] i d r once in_it number = absurd (omega arith)
count_once (s ∷ rows) zero d r once in_it number =
    let rest : unread_losses rows r ≡ 0 = count_none rows r (ap (is_known rows) (sym number) ∙ once.0) in
    count_cons (λ state. model.is_unread_loss state r) s rows
    ∙ (λ i. one_is (model.is_unread_loss s r) i + rest i) ∙ omega arith
count_once (s ∷ rows) (suc i) d r once in_it number =
    count_more rows s r (one_if (model.is_unread_loss (get_or rows i d) r))
    (ap (λ n. s.number == n) (sym number) ∙ other_number s rows i d once.0 (omega arith))
    (count_once rows i d r once.1 (omega arith) number)

pub loses_at : (rows : List Sequence) (i n : ℕ) (key : RecordKey) (d e : Sequence) (new : Sequence) (unread : Bool) → NumbersOnce rows → i < length rows → (get_or rows i e).number ≡ key.sequence → new ≡ record (get_or rows i d) { lost = raised (get_or rows i d).lost (packets_lost (get_or rows i d) key) } → unread ≡ is_unread_loss (get_or rows i d) key → n ≡ cond unread 1 0 → LosesAt rows (set rows i new) key n
loses_at rows i n key d e new unread once in_it number_is is unread_is count_is =
    let number : (get_or rows i d).number ≡ key.sequence = ap (λ (s : Sequence). s.number) (same_item rows i d e in_it) ∙ number_is in
    record {
      rows = λ stored same reads.
          changed_is rows i stored.key.sequence d e (with_losses (record_of stored ∷ [])) new once in_it
          (number_is ∙ sym (ap (λ (k : RecordKey). k.sequence) same))
          (is ∙ lost_here (get_or rows i d) stored key same number reads)
          ∙ sym (lost_at rows (record_of stored));
      unread = λ stored same reads.
          count_is ∙ one_is unread ∙ ap one_if (unread_is ∙ unread_here (get_or rows i d) stored key same number reads)
          ∙ sym (count_once rows i d (record_of stored) once in_it (number ∙ sym (ap (λ (k : RecordKey). k.sequence) same)));
    }
