-- Counts of records by the numbers of the sequences, where one of them changes.
use Rattle.std.proofs.Common.{◌≡◌, ℕ, zero, suc, ◌+◌, ◌-◌, ◌<◌, ◌==◌, ◌&&◌, true, false, cond, List, [], ◌∷◌, length, map, get_or, set, replicate, Vec, Global, refl, sym, ap, ap₂, ◌∙◌, arith, eq-eqb}
use Rattle.std.proofs.lemmas.Bool.{or_parts}
use Rattle.std.proofs.lemmas.Bool.Decides.{nat_tests}
use Rattle.std.proofs.lemmas.List.{get_or-map}
use Rattle.std.specs.Vec.{with_items}
use Rattle.ring_bytes.specs.declared.key.RecordKey.{RecordKey}
use Rattle.ring_bytes.specs.Value.{Stored}
use Rattle.trace_model.specs.Sequences.{Sequence, is_known, changed_at}
use Rattle.trace_buffer.specs.BufferFields.{NumbersOnce}
use Rattle.trace_buffer.specs.Unfinished.{UnfinishedValue, awaiting_in, unfinished_of, counts_by, one_awaiting}
use Rattle.trace_buffer.proofs.PartLemmas.{KeepsSize, rows_after, sizes_at}
use Rattle.trace_buffer.proofs.RowLemmas.{other_number}

pub counts_same : (rows : List Sequence) (f g : ℕ → ℕ) → ((n : ℕ) → f n ≡ g n) → counts_by rows f ≡ counts_by rows g
counts_same rows f g same = λ i. map (λ (state : Sequence). same state.number i) rows

pub none_counted : (rows : List Sequence) → replicate (length rows) 0 ≡ counts_by rows (λ n. 0)
none_counted [] = refl
none_counted (state ∷ rows) = ap (λ ns. 0 ∷ ns) (none_counted rows)

pub count_at : (rows : List Sequence) (f : ℕ → ℕ) (i number e : ℕ) (d : Sequence) → i < length rows → (get_or rows i d).number ≡ number → get_or (counts_by rows f) i e ≡ f number
count_at rows f i number e d in_it is = get_or-map (λ (state : Sequence). f state.number) rows i d e in_it ∙ ap f is

-- functions that agree on all numbers but one

counts_other : (rows : List Sequence) (f g : ℕ → ℕ) (number : ℕ) → is_known rows number ≡ false → ((n : ℕ) → (n == number) ≡ false → f n ≡ g n) → counts_by rows f ≡ counts_by rows g
counts_other [] f g number none same = refl
counts_other (state ∷ rows) f g number none same =
    let no = or_parts (state.number == number) (is_known rows number) none in
    ap₂ (λ n ns. n ∷ ns) (same state.number no.0) (counts_other rows f g number no.1 same)

set_one : (rows : List Sequence) (f g : ℕ → ℕ) (i number : ℕ) (d : Sequence) → NumbersOnce rows → i < length rows → (get_or rows i d).number ≡ number → ((n : ℕ) → (n == number) ≡ false → g n ≡ f n) → set (counts_by rows g) i (f number) ≡ counts_by rows f
set_one [] f g i number d once in_it is same = absurd (omega arith)
set_one (state ∷ rows) f g zero number d once in_it is same =
    ap₂ (λ n ns. n ∷ ns) (ap f (sym is)) (counts_other rows g f number (ap (is_known rows) (sym is) ∙ once.0) same)
set_one (state ∷ rows) f g (suc i) number d once in_it is same =
    ap₂ (λ n ns. n ∷ ns)
    (same state.number (ap (λ n. state.number == n) (sym is) ∙ other_number state rows i d once.0 (omega arith)))
    (set_one rows f g i number d once.1 (omega arith) is same)

-- The one of a record that awaits a patch

other_none : (key : RecordKey) (n : ℕ) → (n == key.sequence) ≡ false → one_awaiting key n ≡ 0
other_none key n other = ap (λ b. cond (b && key.awaits) 1 0) (flip key.sequence n other)
  where
    flip : (a b : ℕ) → (b == a) ≡ false → (a == b) ≡ false
    flip a b h = grind (arith, nat_tests)

one_here : (key : RecordKey) → key.awaits ≡ true → one_awaiting key key.sequence ≡ 1
one_here key awaits = ap₂ (λ b c. cond (b && c) 1 0) (eq-eqb key.sequence key.sequence refl) awaits

-- as the calls have it

pub set_more : (rows : List Sequence) (counts : List ℕ) (count : ℕ → ℕ) (i seen e : ℕ) (key : RecordKey) (d : Sequence) → NumbersOnce rows → i < length rows → (get_or rows i d).number ≡ key.sequence → key.awaits ≡ true → counts ≡ counts_by rows count → seen ≡ get_or counts i e → set counts i (seen + 1) ≡ counts_by rows (λ n. count n + one_awaiting key n)
set_more rows counts count i seen e key d once in_it is awaits counts_are seen_is =
    let value : seen ≡ count key.sequence = seen_is ∙ ap (λ ns. get_or ns i e) counts_are ∙ count_at rows count i key.sequence e d in_it is in
    ap₂ (λ ns n. set ns i n) counts_are (ap₂ (λ n m. n + m) value (sym (one_here key awaits)))
    ∙ set_one rows (λ n. count n + one_awaiting key n) count i key.sequence d once in_it is
    (λ n other. let none = other_none key n other in omega (arith, none))

pub set_less : (rows : List Sequence) (counts : List ℕ) (count : ℕ → ℕ) (i seen e : ℕ) (key : RecordKey) (d : Sequence) → NumbersOnce rows → i < length rows → (get_or rows i d).number ≡ key.sequence → key.awaits ≡ true → counts ≡ counts_by rows (λ n. count n + one_awaiting key n) → seen ≡ get_or counts i e → set counts i (seen - 1) ≡ counts_by rows count
set_less rows counts count i seen e key d once in_it is awaits counts_are seen_is =
    let value : seen ≡ count key.sequence + one_awaiting key key.sequence = seen_is ∙ ap (λ ns. get_or ns i e) counts_are ∙ count_at rows (λ n. count n + one_awaiting key n) i key.sequence e d in_it is in
    let one = one_here key awaits in
    let less : seen - 1 ≡ count key.sequence = omega (arith, value, one) in
    ap₂ (λ ns n. set ns i n) counts_are less
    ∙ set_one rows count (λ n. count n + one_awaiting key n) i key.sequence d once in_it is
    (λ n other. let none = other_none key n other in omega (arith, none))

-- The sequences change, but not their numbers

pub counts_map : (f : Sequence → Sequence) (rows : List Sequence) (count : ℕ → ℕ) → KeepsSize f → counts_by (map f rows) count ≡ counts_by rows count
counts_map f [] count keeps = refl
counts_map f (state ∷ rows) count keeps = ap₂ (λ n ns. n ∷ ns) (ap count (keeps.number state)) (counts_map f rows count keeps)

pub counted_map : (f : Sequence → Sequence) (rows new : List Sequence) (live : List Stored) (counts : UnfinishedValue) → KeepsSize f → counts ≡ unfinished_of rows live → new ≡ map f rows → counts ≡ unfinished_of new live
counted_map f rows new live counts keeps counts_are new_is =
    let same : counts_by rows (awaiting_in live) ≡ counts_by new (awaiting_in live) =
    sym (ap (λ ss. counts_by ss (awaiting_in live)) new_is ∙ counts_map f rows (awaiting_in live) keeps) in
    counts_are ∙ (λ i. record (unfinished_of rows live) { awaiting = same i })

pub counted_at : (rows new : List Sequence) (number : ℕ) (g : Sequence → Sequence) (live : List Stored) (counts : UnfinishedValue) → KeepsSize g → counts ≡ unfinished_of rows live → new ≡ changed_at number g rows → counts ≡ unfinished_of new live
counted_at rows new number g live counts keeps counts_are new_is =
    counted_map (λ s. cond (s.number == number) (g s) s) rows new live counts (sizes_at number g keeps) counts_are new_is

pub counted_after : (v : Vec Sequence Global) (seen new : List Sequence) (number : ℕ) (g : Sequence → Sequence) (live : List Stored) (counts : UnfinishedValue) → KeepsSize g → counts ≡ unfinished_of v.items live → seen ≡ v.items → new ≡ changed_at number g seen → counts ≡ unfinished_of (with_items v new).items live
counted_after v seen new number g live counts keeps counts_are same is =
    counted_at v.items (with_items v new).items number g live counts keeps counts_are (rows_after v seen new number g same is)
