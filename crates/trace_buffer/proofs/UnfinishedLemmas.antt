-- What is counted of the records, where one is added, dropped or changed.
use Rattle.std.proofs.Common.{◌≡◌, ℕ, zero, suc, ◌+◌, ◌≤◌, ◌==◌, ◌&&◌, Bool, true, false, cond, List, [], ◌∷◌, ◌++◌, length, map, filter, get_or, count_by, sum_by, Some, refl, sym, ap, ◌∙◌, subst, arith, eqb-true, length-append}
use Rattle.std.proofs.lemmas.List.Sums.{count_by-le-length, sum_by-append, sum_by-cons, sum_by_push}
use Rattle.std.proofs.lemmas.List.{length-map}
use Rattle.std.specs.List.{find}
use Rattle.std.proofs.Math.Bool.{and-false}
use Rattle.ring_bytes.specs.declared.key.RecordKey.{RecordKey}
use Rattle.ring_bytes.specs.Value.{Stored, NoneAt, OnlyAt, is_at, size_of, change_at, without_stored}
use Rattle.ring_bytes.proofs.ListLemmas.{change_only, without_only}
use Rattle.ring_bytes.proofs.RowLemmas.{size_least}
use Rattle.trace_model.specs.Buffers.{BufferRecord}
use Rattle.trace_model.specs.Sequences.{Sequence}
use Rattle.trace_buffer.specs.BufferFields.{PlacesOnce}
use Rattle.trace_buffer.specs.Closing.{parts_of}
use Rattle.trace_buffer.specs.Records.{record_of}
use Rattle.trace_buffer.specs.Unfinished.{UnfinishedValue, is_awaiting, parts_in, awaiting_in, unfinished_of, AreFew, one_part, one_awaiting, counts_by, HaveOneMore, HaveOneLess, HaveOne}
use Rattle.trace_buffer.proofs.CountLemmas.{counts_same}

-- One record more, of those that pass a test

among : (P : Stored → Bool) (before behind : List Stored) (s : Stored) → count_by P (before ++ s ∷ behind) ≡ count_by P (before ++ behind) + cond (P s) 1 0
among P before behind s =
    omega (
      arith,
      sum_by-append (λ (t : Stored). cond (P t) 1 0) before (s ∷ behind),
      sum_by-append (λ (t : Stored). cond (P t) 1 0) before behind,
      sum_by-cons (λ (t : Stored). cond (P t) 1 0) s behind,
    )

-- the records of the second list are those of the first, and one that has this header
record IsOneMore (key : RecordKey) (less more : List Stored) : Type 0 where
  pub parts : parts_in more ≡ parts_in less + one_part key
  pub awaiting : (number : ℕ) → awaiting_in more number ≡ awaiting_in less number + one_awaiting key number

is_among : (before behind : List Stored) (s : Stored) → IsOneMore s.key (before ++ behind) (before ++ s ∷ behind)
is_among before behind s = record {
  parts = among (λ (t : Stored). t.key.partial) before behind s;
  awaiting = λ number. among (λ (t : Stored). is_awaiting number t.key) before behind s;
}

one_placed : (ss : List Stored) (s : Stored) → IsOneMore s.key ss (ss ++ s ∷ [])
one_placed ss s = record {
  parts = sum_by_push (λ (t : Stored). one_part t.key) ss s;
  awaiting = λ number. sum_by_push (λ (t : Stored). one_awaiting t.key number) ss s;
}

one_dropped : (place : ℕ) (ss : List Stored) (s : Stored) → OnlyAt place ss s → IsOneMore s.key (without_stored place ss) ss
one_dropped place ss s only =
    subst (λ ts. IsOneMore s.key ts ss) (sym (without_only place ss s only))
    (subst (λ ts. IsOneMore s.key (only.before ++ only.behind) ts) (sym only.split) (is_among only.before only.behind s))

one_changed : (place : ℕ) (change : Stored → Stored) (ss : List Stored) (s : Stored) → OnlyAt place ss s → IsOneMore (change s).key (without_stored place ss) (change_at place change ss)
one_changed place change ss s only =
    subst (λ ts. IsOneMore (change s).key ts (change_at place change ss)) (sym (without_only place ss s only))
    (subst (λ ts. IsOneMore (change s).key (only.before ++ only.behind) ts) (sym (change_only place change ss s only)) (is_among only.before only.behind (change s)))

-- as the counts have it

more_counted : (rows : List Sequence) (key : RecordKey) (less more : List Stored) (old new : UnfinishedValue) → IsOneMore key less more → old ≡ unfinished_of rows less → HaveOneMore rows key old new → new ≡ unfinished_of rows more
more_counted rows key less more old new one old_is have =
    let parts : new.parts ≡ parts_in more = have.parts ∙ ap (λ (c : UnfinishedValue). c.parts + one_part key) old_is ∙ sym one.parts in
    let awaiting : new.awaiting ≡ counts_by rows (awaiting_in more) =
    have.awaiting (awaiting_in less) (ap (λ (c : UnfinishedValue). c.awaiting) old_is)
    ∙ counts_same rows (λ n. awaiting_in less n + one_awaiting key n) (awaiting_in more) (λ n. sym (one.awaiting n)) in
    λ i. record { parts = parts i; awaiting = awaiting i }

with_one : (rows : List Sequence) (key : RecordKey) (less more : List Stored) (counts : UnfinishedValue) → IsOneMore key less more → counts ≡ unfinished_of rows more → counts.awaiting ≡ counts_by rows (λ n. awaiting_in less n + one_awaiting key n)
with_one rows key less more counts one counts_are =
    ap (λ (c : UnfinishedValue). c.awaiting) counts_are
    ∙ counts_same rows (awaiting_in more) (λ n. awaiting_in less n + one_awaiting key n) one.awaiting

less_counted : (rows : List Sequence) (key : RecordKey) (less more : List Stored) (old new : UnfinishedValue) → IsOneMore key less more → old ≡ unfinished_of rows more → HaveOneLess rows key old new → new ≡ unfinished_of rows less
less_counted rows key less more old new one old_is have =
    let parts : new.parts ≡ parts_in less = (let old_parts = ap (λ (c : UnfinishedValue). c.parts) old_is in omega (arith, have.parts, old_parts, one.parts)) in
    let awaiting : new.awaiting ≡ counts_by rows (awaiting_in less) = have.awaiting (awaiting_in less) (with_one rows key less more old one old_is) in
    λ i. record { parts = parts i; awaiting = awaiting i }

one_counted : (rows : List Sequence) (key : RecordKey) (less more : List Stored) (counts : UnfinishedValue) → IsOneMore key less more → counts ≡ unfinished_of rows more → HaveOne rows key counts
one_counted rows key less more counts one counts_are = record {
  parts = (let parts = ap (λ (c : UnfinishedValue). c.parts) counts_are in omega (arith, parts, one.parts));
  others = awaiting_in less;
  awaiting = with_one rows key less more counts one counts_are;
}

-- the same of the record at a place

pub there_counted : (rows : List Sequence) (place : ℕ) (ss : List Stored) (s : Stored) (key : RecordKey) (counts : UnfinishedValue) → OnlyAt place ss s → key ≡ s.key → counts ≡ unfinished_of rows ss → HaveOne rows key counts
there_counted rows place ss s key counts only key_is counts_are =
    one_counted rows key (without_stored place ss) ss counts
    (subst (λ k. IsOneMore k (without_stored place ss) ss) (sym key_is) (one_dropped place ss s only)) counts_are

pub dropped_counted : (rows : List Sequence) (place : ℕ) (ss : List Stored) (s : Stored) (key : RecordKey) (old new : UnfinishedValue) → OnlyAt place ss s → key ≡ s.key → old ≡ unfinished_of rows ss → HaveOneLess rows key old new → new ≡ unfinished_of rows (without_stored place ss)
dropped_counted rows place ss s key old new only key_is old_is have =
    less_counted rows key (without_stored place ss) ss old new
    (subst (λ k. IsOneMore k (without_stored place ss) ss) (sym key_is) (one_dropped place ss s only)) old_is have

pub changed_counted : (rows : List Sequence) (place : ℕ) (change : Stored → Stored) (ss : List Stored) (s : Stored) (key : RecordKey) (old new : UnfinishedValue) → OnlyAt place ss s → key ≡ (change s).key → old ≡ unfinished_of rows (without_stored place ss) → HaveOneMore rows key old new → new ≡ unfinished_of rows (change_at place change ss)
changed_counted rows place change ss s key old new only key_is old_is have =
    more_counted rows key (without_stored place ss) (change_at place change ss) old new
    (subst (λ k. IsOneMore k (without_stored place ss) (change_at place change ss)) (sym key_is) (one_changed place change ss s only)) old_is have

pub placed_counted : (rows : List Sequence) (ss : List Stored) (s : Stored) (old new : UnfinishedValue) → old ≡ unfinished_of rows ss → HaveOneMore rows s.key old new → new ≡ unfinished_of rows (ss ++ s ∷ [])
placed_counted rows ss s old new old_is have = more_counted rows s.key ss (ss ++ s ∷ []) old new (one_placed ss s) old_is have

pub counted_length : (rows : List Sequence) (ss : List Stored) (counts : UnfinishedValue) → counts ≡ unfinished_of rows ss → length counts.awaiting ≡ length rows
counted_length rows ss counts counts_are =
    ap (λ (c : UnfinishedValue). length c.awaiting) counts_are ∙ length-map rows (λ (state : Sequence). awaiting_in ss state.number)

-- the record that is found at a place is the only one there
pub only_of : (place : ℕ) (ss : List Stored) (s : Stored) → PlacesOnce ss → find (is_at place) ss ≡ Some s → OnlyAt place ss s
only_of place [] s once found = absurd (cc)
only_of place (t ∷ ss) s once found = of (is_at place t) refl found (only_of place ss s once.1)
  where
    later : is_at place t ≡ false → OnlyAt place ss s → OnlyAt place (t ∷ ss) s
    later other o = record {
      before = t ∷ o.before;
      behind = o.behind;
      split = ap (λ us. t ∷ us) o.split;
      here = o.here;
      none_before = (other, o.none_before);
      none_behind = o.none_behind;
    }

    of : (b : Bool) → is_at place t ≡ b → cond b (Some t) (find (is_at place) ss) ≡ Some s → (find (is_at place) ss ≡ Some s → OnlyAt place ss s) → OnlyAt place (t ∷ ss) s
    of true is found_is rest =
        let here : t ≡ s = cc in
        let at : t.at ≡ place = eqb-true t.at place is in
        record {
          before = [];
          behind = ss;
          split = ap (λ u. u ∷ ss) here;
          here = ap (λ (u : Stored). u.at) (sym here) ∙ at;
          none_before = tt;
          none_behind = subst (λ n. NoneAt n ss) at once.0;
        }
    of false is found_is rest = later is (rest found_is)

-- there are no more than the ring has bytes

few_records : (ss : List Stored) → length ss ≤ sum_by size_of ss
few_records [] = omega arith
few_records (s ∷ ss) = omega (arith, few_records ss, sum_by-cons size_of s ss, size_least (length s.payload))

few_awaiting : (rows : List Sequence) (place most : ℕ) (ss : List Stored) → length ss ≤ most → get_or (counts_by rows (awaiting_in ss)) place 0 ≤ most
few_awaiting [] place most ss few = omega arith
few_awaiting (state ∷ rows) zero most ss few = omega (arith, few, count_by-le-length (λ (s : Stored). is_awaiting state.number s.key) ss)
few_awaiting (state ∷ rows) (suc place) most ss few = few_awaiting rows place most ss few

few_counted : (rows : List Sequence) (ss : List Stored) (counts : UnfinishedValue) → length ss ≤ 67108864 → counts ≡ unfinished_of rows ss → AreFew counts
few_counted rows ss counts few counts_are =
    subst AreFew (sym counts_are)
    (record {
      parts = omega (arith, few, count_by-le-length (λ (s : Stored). s.key.partial) ss);
      awaiting = λ place. few_awaiting rows place 67108864 ss few;
    })

pub few_unfinished : (room : ℕ) (rows : List Sequence) (ss : List Stored) (counts : UnfinishedValue) → sum_by size_of ss ≤ room → room ≤ 67108864 → counts ≡ unfinished_of rows ss → AreFew counts
few_unfinished room rows ss counts few small counts_are = few_counted rows ss counts (omega (arith, few, small, few_records ss)) counts_are

pub few_without : (room place : ℕ) (rows : List Sequence) (ss : List Stored) (s : Stored) (counts : UnfinishedValue) → OnlyAt place ss s → sum_by size_of ss ≤ room → room ≤ 67108864 → counts ≡ unfinished_of rows (without_stored place ss) → AreFew counts
few_without room place rows ss s counts only few small counts_are =
    let all : length ss ≡ length (only.before ++ s ∷ only.behind) = ap length only.split in
    let rest : length (without_stored place ss) ≡ length (only.before ++ only.behind) = ap length (without_only place ss s only) in
    few_counted rows (without_stored place ss) counts
    (omega (arith, few, small, few_records ss, all, rest, length-append only.before (s ∷ only.behind), length-append only.before only.behind)) counts_are

-- Where no record is a part of a chunk, a close finds none

part_or_none : (x : Bool) (n : ℕ) → cond x 1 0 + n ≡ 0 → (x ≡ false) × (n ≡ 0)
part_or_none true n none = absurd (omega (arith, none))
part_or_none false n none = (refl, omega (arith, none))

pub no_parts : (number : ℕ) (ss : List Stored) → parts_in ss ≡ 0 → parts_of number (map record_of ss) ≡ []
no_parts number [] none = refl
no_parts number (s ∷ ss) none =
    let all = part_or_none s.key.partial (parts_in ss) (sym (sum_by-cons (λ (t : Stored). one_part t.key) s ss) ∙ none) in
    let others : List BufferRecord = filter (λ (r : BufferRecord). (r.sequence == number) && r.chunk.partial) (map record_of ss) in
    ap (λ b. map (λ (r : BufferRecord). r.chunk_id) (cond b (record_of s ∷ others) others))
    (ap (λ b. (s.key.sequence == number) && b) all.0 ∙ and-false (s.key.sequence == number))
    ∙ no_parts number ss all.1

-- the count as the definitions have it
pub awaiting_records : (number : ℕ) (ss : List Stored) → count_by (λ (r : BufferRecord). (r.sequence == number) && r.chunk.awaits) (map record_of ss) ≡ awaiting_in ss number
awaiting_records number [] = refl
awaiting_records number (s ∷ ss) =
    sum_by-cons (λ (r : BufferRecord). cond ((r.sequence == number) && r.chunk.awaits) 1 0) (record_of s) (map record_of ss)
    ∙ ap (λ n. one_awaiting s.key number + n) (awaiting_records number ss)
    ∙ sym (sum_by-cons (λ (t : Stored). one_awaiting t.key number) s ss)
