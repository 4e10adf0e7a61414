-- Making room: what one dropped record leaves.
use Rattle.std.proofs.Common.{◌≡◌, ℕ, ◌+◌, Bool, true, false, not, cond, List, [], ◌∷◌, ◌++◌, map, filter, sum_by, count_by, Some, None, refl, sym, ap, ap₂, ◌∙◌, arith}
use Rattle.std.proofs.lemmas.List.Sums.{sum_by-cons, sum_by-append}
use Rattle.std.specs.List.{find}
use Rattle.ring_bytes.specs.Value.{Stored, RingValue, IsMetAt, meets_stored, without_stored, dropped_at}
use Rattle.ring_bytes.proofs.ListLemmas.{without_only}
use Rattle.trace_model.specs.Buffers.{BufferRecord, with_losses, packets_lost, is_unread_loss}
use Rattle.trace_model.specs.Counts.{raised}
use Rattle.trace_model.specs.Sequences.{Sequence}
use Rattle.trace_model.proofs.CountedLemmas.{raised-raised}
use Rattle.trace_buffer.specs.Records.{record_of, meets_record, met_records, displaced, unread_losses}

-- Lists with and without one that passes a test

filter_in : {X : Type 0} (P : X → Bool) (xs ys : List X) (x : X) → P x ≡ true → filter P (xs ++ x ∷ ys) ≡ filter P xs ++ x ∷ filter P ys
filter_in P [] ys x is = ap (λ b. cond b (x ∷ filter P ys) (filter P ys)) is
filter_in P (z ∷ xs) ys x is = of (P z) (filter_in P xs ys x is)
  where
    of : (b : Bool) → filter P (xs ++ x ∷ ys) ≡ filter P xs ++ x ∷ filter P ys → cond b (z ∷ filter P (xs ++ x ∷ ys)) (filter P (xs ++ x ∷ ys)) ≡ cond b (z ∷ filter P xs) (filter P xs) ++ x ∷ filter P ys
    of true rest = ap (λ zs. z ∷ zs) rest
    of false rest = rest

filter_both : {X : Type 0} (P : X → Bool) (xs ys : List X) → filter P (xs ++ ys) ≡ filter P xs ++ filter P ys
filter_both P [] ys = refl
filter_both P (z ∷ xs) ys = of (P z) (filter_both P xs ys)
  where
    of : (b : Bool) → filter P (xs ++ ys) ≡ filter P xs ++ filter P ys → cond b (z ∷ filter P (xs ++ ys)) (filter P (xs ++ ys)) ≡ cond b (z ∷ filter P xs) (filter P xs) ++ filter P ys
    of true rest = ap (λ zs. z ∷ zs) rest
    of false rest = rest

filter_out : {X : Type 0} (P : X → Bool) (xs ys : List X) (x : X) → P x ≡ false → filter P (xs ++ x ∷ ys) ≡ filter P (xs ++ ys)
filter_out P [] ys x is = ap (λ b. cond b (x ∷ filter P ys) (filter P ys)) is
filter_out P (z ∷ xs) ys x is = ap (λ zs. cond (P z) (z ∷ zs) zs) (filter_out P xs ys x is)

map_both : (xs ys : List Stored) → map record_of (xs ++ ys) ≡ map record_of xs ++ map record_of ys
map_both [] ys = refl
map_both (x ∷ xs) ys = ap (λ zs. record_of x ∷ zs) (map_both xs ys)

-- The ring that is left

pub displaced_more : (ring : RingValue) (n place : ℕ) → IsMetAt ring n place → displaced (dropped_at ring place) n ≡ displaced ring n
displaced_more ring n place is =
    let P : Stored → Bool = λ s. not (meets_stored ring n s) in
    let split = is.alone in
    let same : filter P (without_stored place ring.live) ≡ filter P ring.live =
    ap (filter P) (without_only place ring.live is.stored split)
    ∙ sym (ap (filter P) split.split ∙ filter_out P split.before split.behind is.stored (ap not is.met)) in
    λ i. record ring { live = same i }

-- What is met, before and behind the dropped record

pub record IsSplit (ring : RingValue) (n place : ℕ) (lost : BufferRecord) : Type 0 where
  pub one : List BufferRecord
  pub two : List BufferRecord
  pub all : met_records ring n ≡ one ++ lost ∷ two
  pub left : met_records (dropped_at ring place) n ≡ one ++ two

pub split_met : (ring : RingValue) (n place : ℕ) (is : IsMetAt ring n place) → IsSplit ring n place (record_of is.stored)
split_met ring n place is =
    let P : BufferRecord → Bool = meets_record ring n in
    let before : List Stored = is.alone.before in
    let behind : List Stored = is.alone.behind in
    record {
      one = filter P (map record_of before);
      two = filter P (map record_of behind);
      all = ap (λ ss. filter P (map record_of ss)) is.alone.split
          ∙ ap (filter P) (map_both before (is.stored ∷ behind))
          ∙ filter_in P (map record_of before) (map record_of behind) (record_of is.stored) is.met;
      left = ap (λ ss. filter P (map record_of ss)) (without_only place ring.live is.stored is.alone)
          ∙ ap (filter P) (map_both before behind)
          ∙ filter_both P (map record_of before) (map record_of behind);
    }

-- Losses one behind another

sum_split : {X : Type 0} (f : X → ℕ) (xs ys : List X) (x : X) → sum_by f (xs ++ x ∷ ys) ≡ f x + sum_by f (xs ++ ys)
sum_split f xs ys x = omega (arith, sum_by-append f xs (x ∷ ys), sum_by-append f xs ys, sum_by-cons f x ys)

losses_twice : (one two : List BufferRecord) (r : BufferRecord) (s : Sequence) → with_losses (one ++ two) (with_losses (r ∷ []) s) ≡ with_losses (one ++ r ∷ two) s
losses_twice one two r s =
    ap (λ n. record s { lost = n })
    (raised-raised s.lost (sum_by (packets_lost s) (r ∷ [])) (sum_by (packets_lost s) (one ++ two))
    ∙ ap (raised s.lost) (omega (arith, sum_split (packets_lost s) one two r, sum_by-cons (packets_lost s) r [])))

pub rows_twice : (one two : List BufferRecord) (r : BufferRecord) (rows : List Sequence) → map (with_losses (one ++ two)) (map (with_losses (r ∷ [])) rows) ≡ map (with_losses (one ++ r ∷ two)) rows
rows_twice one two r [] = refl
rows_twice one two r (s ∷ rows) = ap₂ (λ x xs. x ∷ xs) (losses_twice one two r s) (rows_twice one two r rows)

count_map : (p : Sequence → Bool) (f : Sequence → Sequence) (rows : List Sequence) → ((s : Sequence) → p (f s) ≡ p s) → count_by p (map f rows) ≡ count_by p rows
count_map p f [] same = refl
count_map p f (s ∷ rows) same =
    sum_by-cons (λ x. cond (p x) 1 0) (f s) (map f rows)
    ∙ (λ i. cond (same s i) 1 0 + count_map p f rows same i)
    ∙ sym (sum_by-cons (λ x. cond (p x) 1 0) s rows)

sum_same : (f g : BufferRecord → ℕ) (rs : List BufferRecord) → ((r : BufferRecord) → f r ≡ g r) → sum_by f rs ≡ sum_by g rs
sum_same f g [] same = refl
sum_same f g (r ∷ rs) same = sum_by-cons f r rs ∙ (λ i. same r i + sum_same f g rs same i) ∙ sym (sum_by-cons g r rs)

pub lost_twice : (one two : List BufferRecord) (r : BufferRecord) (rows : List Sequence) (count lost : ℕ) → lost ≡ raised count (unread_losses rows r) → raised lost (sum_by (unread_losses (map (with_losses (r ∷ [])) rows)) (one ++ two)) ≡ raised count (sum_by (unread_losses rows) (one ++ r ∷ two))
lost_twice one two r rows count lost is =
    ap₂ raised is (sum_same (unread_losses (map (with_losses (r ∷ [])) rows)) (unread_losses rows) (one ++ two) (λ x. count_map (λ s. is_unread_loss s x) (with_losses (r ∷ [])) rows (λ s. refl)))
    ∙ raised-raised count (unread_losses rows r) (sum_by (unread_losses rows) (one ++ two))
    ∙ ap (raised count) (sym (sum_split (unread_losses rows) one two r))

-- the records that stay, said of the ring and of the buffer
pub map_stay : (P : BufferRecord → Bool) (ss : List Stored) → map record_of (filter (λ (s : Stored). not (P (record_of s))) ss) ≡ filter (λ r. not (P r)) (map record_of ss)
map_stay P [] = refl
map_stay P (s ∷ ss) = of (not (P (record_of s))) (map_stay P ss)
  where
    of : (b : Bool) → map record_of (filter (λ (t : Stored). not (P (record_of t))) ss) ≡ filter (λ r. not (P r)) (map record_of ss) → map record_of (cond b (s ∷ filter (λ (t : Stored). not (P (record_of t))) ss) (filter (λ (t : Stored). not (P (record_of t))) ss)) ≡ cond b (record_of s ∷ filter (λ r. not (P r)) (map record_of ss)) (filter (λ r. not (P r)) (map record_of ss))
    of true rest = ap (λ rs. record_of s ∷ rs) rest
    of false rest = rest

-- among fewer records none is found that wasn't before
pub find_filter : (P Q : BufferRecord → Bool) (rs : List BufferRecord) → find P rs ≡ None → find P (filter Q rs) ≡ None
find_filter P Q [] none = refl
find_filter P Q (r ∷ rs) none = of (P r) refl (Q r) (find_filter P Q rs) none
  where
    of : (b : Bool) → P r ≡ b → (d : Bool) → (find P rs ≡ None → find P (filter Q rs) ≡ None) → cond b (Some r) (find P rs) ≡ None → find P (cond d (r ∷ filter Q rs) (filter Q rs)) ≡ None
    of true h d rest is = absurd (cc)
    of false h true rest is = ap (λ b. cond b (Some r) (find P (filter Q rs))) h ∙ rest is
    of false h false rest is = rest is

pub find_unmet : (P : BufferRecord → Bool) (rs : List BufferRecord) → find P (filter (λ r. not (P r)) rs) ≡ None
find_unmet P [] = refl
find_unmet P (r ∷ rs) = of (P r) refl (find_unmet P rs)
  where
    of : (b : Bool) → P r ≡ b → find P (filter (λ x. not (P x)) rs) ≡ None → find P (cond (not b) (r ∷ filter (λ x. not (P x)) rs) (filter (λ x. not (P x)) rs)) ≡ None
    of true h rest = rest
    of false h rest = ap (λ b. cond b (Some r) (find P (filter (λ x. not (P x)) rs))) h ∙ rest
