-- What a request, an answer and what a commit was answered make of the counts of requests.
use Rattle.std.proofs.Common.{◌≡◌, ◌≢◌, ◌∙◌, ℕ, zero, suc, ◌+◌, ◌*◌, ◌^◌, ◌<◌, ◌≤◌, ◌⊎◌, ◌==◌, ◌-◌, Bool, true, false, Option, Some, None, List, [], ◌∷◌, ◌++◌, length, length-append, replicate, get_or, refl, sym, ap, arith, inl, inr, cond, add-zero, zero-add}
use Rattle.std.specs.Prelude.{is_some, unwrap_or}
use Rattle.std.proofs.Math.Seq.{get_or-append_right}
use Rattle.std.proofs.lemmas.List.{ext_get_or, get_or_append_left}
use Rattle.std.proofs.lemmas.Bool.{cases_eq, cases_lt, eq-eqb, ne_eqb}
use Rattle.chunk_plain.specs.Views.{Taken}
use Rattle.loss_report.specs.declared.raws.RawAnswer.{RawAnswer}
use Rattle.replay_model.specs.ActNotes.{ActNote, Requested, Answered, Told, answers_in}
use Rattle.replay_model.specs.Flushes.{first_answer, chunks_answered, flush_sums}
use Rattle.replay_host.specs.Tally.{nobody, answered_by, AreAnswers}

-- a number more in each sum from this place on
abbrev pub raised_from : (from more : ℕ) → List ℕ → List ℕ
raised_from from more [] = []
raised_from zero more (x ∷ xs) = (x + more) ∷ raised_from zero more xs
raised_from (suc from) more (x ∷ xs) = x ∷ raised_from from more xs

pub raised_long : (from more : ℕ) (xs : List ℕ) → length (raised_from from more xs) ≡ length xs
raised_long zero more [] = refl
raised_long (suc from) more [] = refl
raised_long zero more (x ∷ xs) = ap suc (raised_long zero more xs)
raised_long (suc from) more (x ∷ xs) = ap suc (raised_long from more xs)

pub raised_below : (from more : ℕ) (xs : List ℕ) (k : ℕ) → k < from → get_or (raised_from from more xs) k 0 ≡ get_or xs k 0
raised_below zero more xs k below = absurd (omega (arith, below))
raised_below (suc from) more [] k below = refl
raised_below (suc from) more (x ∷ xs) zero below = refl
raised_below (suc from) more (x ∷ xs) (suc k) below = raised_below from more xs k (omega (arith, below))

pub raised_above : (from more : ℕ) (xs : List ℕ) (k : ℕ) → from ≤ k → k < length xs → get_or (raised_from from more xs) k 0 ≡ get_or xs k 0 + more
raised_above from more [] k above inside = absurd (omega (arith, inside))
raised_above zero more (x ∷ xs) zero above inside = refl
raised_above zero more (x ∷ xs) (suc k) above inside = raised_above zero more xs k (omega arith) (omega (arith, inside))
raised_above (suc from) more (x ∷ xs) zero above inside = absurd (omega (arith, above))
raised_above (suc from) more (x ∷ xs) (suc k) above inside = raised_above from more xs k (omega (arith, above)) (omega (arith, inside))

-- ---- a request

first_request : (place : ℕ) (notes : List ActNote) → first_answer place (notes ++ Requested ∷ []) ≡ first_answer place notes
first_request place [] = refl
first_request place (Requested ∷ notes) = first_request place notes
first_request place (Answered other chunks ∷ notes) = ap (λ (o : Option ℕ). cond (other == place) (Some chunks) o) (first_request place notes)
first_request place (Told answer ∷ notes) = first_request place notes

sum_request : (notes : List ActNote) (place : ℕ) (taken : List Taken) → chunks_answered (notes ++ Requested ∷ []) place taken ≡ chunks_answered notes place taken
sum_request notes place [] = refl
sum_request notes place (one ∷ taken) =
    ap (λ (o : Option ℕ). unwrap_or o one.count + chunks_answered (notes ++ Requested ∷ []) (suc place) taken) (first_request place notes)
    ∙ ap (λ (n : ℕ). unwrap_or (first_answer place notes) one.count + n) (sum_request notes (suc place) taken)

none_sum : (place writers : ℕ) → chunks_answered [] place (nobody writers) ≡ 0
none_sum place zero = refl
none_sum place (suc writers) = ap (λ (n : ℕ). 0 + n) (none_sum (suc place) writers)

pub sums_request : (notes : List ActNote) (writers : ℕ) → flush_sums (notes ++ Requested ∷ []) (nobody writers) ≡ flush_sums notes (nobody writers) ++ 0 ∷ []
sums_request [] writers = ap (λ (n : ℕ). n ∷ []) (none_sum 0 writers)
sums_request (Requested ∷ notes) writers =
    ap (λ (n : ℕ). n ∷ flush_sums (notes ++ Requested ∷ []) (nobody writers)) (sum_request notes 0 (nobody writers))
    ∙ ap (λ (ns : List ℕ). chunks_answered notes 0 (nobody writers) ∷ ns) (sums_request notes writers)
sums_request (Answered place chunks ∷ notes) writers = sums_request notes writers
sums_request (Told answer ∷ notes) writers = sums_request notes writers

pub answered_request : (place : ℕ) (notes : List ActNote) → answered_by place (notes ++ Requested ∷ []) ≡ answered_by place notes
answered_request place [] = refl
answered_request place (Requested ∷ notes) =
    ap (λ (o : Option ℕ). cond (is_some o) (suc (answered_by place (notes ++ Requested ∷ []))) (answered_by place (notes ++ Requested ∷ []))) (first_request place notes)
    ∙ ap (λ (n : ℕ). cond (is_some (first_answer place notes)) (suc n) n) (answered_request place notes)
answered_request place (Answered other chunks ∷ notes) = answered_request place notes
answered_request place (Told answer ∷ notes) = answered_request place notes

pub fits_append : (writers : ℕ) (notes more : List ActNote) → AreAnswers writers notes → AreAnswers writers more → AreAnswers writers (notes ++ more)
fits_append writers [] more first second = second
fits_append writers (Requested ∷ notes) more first second = fits_append writers notes more first second
fits_append writers (Answered place chunks ∷ notes) more first second = (first.0, first.1, fits_append writers notes more first.2 second)
fits_append writers (Told answer ∷ notes) more first second = fits_append writers notes more first second

-- ---- what a commit was answered

pub told_append : (notes more : List ActNote) → answers_in (notes ++ more) ≡ answers_in notes ++ answers_in more
told_append [] more = refl
told_append (Requested ∷ notes) more = told_append notes more
told_append (Answered place chunks ∷ notes) more = told_append notes more
told_append (Told answer ∷ notes) more = ap (λ (answers : List RawAnswer). answer ∷ answers) (told_append notes more)

first_told : (place : ℕ) (notes : List ActNote) (told : RawAnswer) → first_answer place (notes ++ Told told ∷ []) ≡ first_answer place notes
first_told place [] told = refl
first_told place (Requested ∷ notes) told = first_told place notes told
first_told place (Answered other chunks ∷ notes) told = ap (λ (o : Option ℕ). cond (other == place) (Some chunks) o) (first_told place notes told)
first_told place (Told answer ∷ notes) told = first_told place notes told

sum_told : (notes : List ActNote) (place : ℕ) (taken : List Taken) (told : RawAnswer)
    → chunks_answered (notes ++ Told told ∷ []) place taken ≡ chunks_answered notes place taken
sum_told notes place [] told = refl
sum_told notes place (one ∷ taken) told =
    ap (λ (o : Option ℕ). unwrap_or o one.count + chunks_answered (notes ++ Told told ∷ []) (suc place) taken) (first_told place notes told)
    ∙ ap (λ (n : ℕ). unwrap_or (first_answer place notes) one.count + n) (sum_told notes (suc place) taken told)

pub sums_told : (notes : List ActNote) (taken : List Taken) (told : RawAnswer) → flush_sums (notes ++ Told told ∷ []) taken ≡ flush_sums notes taken
sums_told [] taken told = refl
sums_told (Requested ∷ notes) taken told =
    ap (λ (n : ℕ). n ∷ flush_sums (notes ++ Told told ∷ []) taken) (sum_told notes 0 taken told)
    ∙ ap (λ (ns : List ℕ). chunks_answered notes 0 taken ∷ ns) (sums_told notes taken told)
sums_told (Answered place chunks ∷ notes) taken told = sums_told notes taken told
sums_told (Told answer ∷ notes) taken told = sums_told notes taken told

pub answered_told : (place : ℕ) (notes : List ActNote) (told : RawAnswer) → answered_by place (notes ++ Told told ∷ []) ≡ answered_by place notes
answered_told place [] told = refl
answered_told place (Requested ∷ notes) told =
    ap (λ (o : Option ℕ). cond (is_some o) (suc (answered_by place (notes ++ Told told ∷ []))) (answered_by place (notes ++ Told told ∷ []))) (first_told place notes told)
    ∙ ap (λ (n : ℕ). cond (is_some (first_answer place notes)) (suc n) n) (answered_told place notes told)
answered_told place (Answered other chunks ∷ notes) told = answered_told place notes told
answered_told place (Told answer ∷ notes) told = answered_told place notes told

-- ---- an answer

-- what an answer is more to a sum where the writer has given one, or none
abbrev extra : Option ℕ → ℕ → ℕ
extra None chunks = chunks
extra (Some first) chunks = 0

abbrev pub answer_behind : Option ℕ → Bool → ℕ → Option ℕ
answer_behind None same chunks = cond same (Some chunks) None
answer_behind (Some first) same chunks = Some first

pub first_behind : (place asker chunks : ℕ) (notes : List ActNote)
    → first_answer place (notes ++ Answered asker chunks ∷ []) ≡ answer_behind (first_answer place notes) (asker == place) chunks
first_behind place asker chunks [] = refl
first_behind place asker chunks (Requested ∷ notes) = first_behind place asker chunks notes
first_behind place asker chunks (Told answer ∷ notes) = first_behind place asker chunks notes
first_behind place asker chunks (Answered other count ∷ notes) = by_test (other == place) (first_behind place asker chunks notes)
  where
    by_test : (b : Bool) → first_answer place (notes ++ Answered asker chunks ∷ []) ≡ answer_behind (first_answer place notes) (asker == place) chunks
        → cond b (Some count) (first_answer place (notes ++ Answered asker chunks ∷ []))
        ≡ answer_behind (cond b (Some count) (first_answer place notes)) (asker == place) chunks
    by_test true rest = refl
    by_test false rest = rest

other_stays : (first : Option ℕ) (chunks : ℕ) → answer_behind first false chunks ≡ first
other_stays None chunks = refl
other_stays (Some one) chunks = refl

own_adds : (first : Option ℕ) (chunks : ℕ) → unwrap_or (answer_behind first true chunks) 0 ≡ unwrap_or first 0 + extra first chunks
own_adds None chunks = sym (zero-add chunks)
own_adds (Some one) chunks = sym (add-zero one)

-- the first answer of another writer
pub first_other : (place asker chunks : ℕ) (notes : List ActNote) → asker ≢ place → first_answer place (notes ++ Answered asker chunks ∷ []) ≡ first_answer place notes
first_other place asker chunks notes apart =
    first_behind place asker chunks notes
    ∙ ap (λ (b : Bool). answer_behind (first_answer place notes) b chunks) (ne_eqb asker place apart)
    ∙ other_stays (first_answer place notes) chunks

-- the sum over writers behind this one
sum_other : (asker chunks : ℕ) (notes : List ActNote) (place writers : ℕ) → asker < place
    → chunks_answered (notes ++ Answered asker chunks ∷ []) place (nobody writers) ≡ chunks_answered notes place (nobody writers)
sum_other asker chunks notes place zero behind = refl
sum_other asker chunks notes place (suc writers) behind =
    ap (λ (o : Option ℕ). unwrap_or o 0 + chunks_answered (notes ++ Answered asker chunks ∷ []) (suc place) (nobody writers))
    (first_other place asker chunks notes (λ same. omega (arith, behind, same)))
    ∙ ap (λ (n : ℕ). unwrap_or (first_answer place notes) 0 + n) (sum_other asker chunks notes (suc place) writers (omega (arith, behind)))

sum_answer : (asker chunks : ℕ) (notes : List ActNote) (place writers : ℕ) → place ≤ asker → asker < place + writers
    → chunks_answered (notes ++ Answered asker chunks ∷ []) place (nobody writers) ≡ chunks_answered notes place (nobody writers) + extra (first_answer asker notes) chunks
sum_answer asker chunks notes place zero least below = absurd (omega (arith, least, below))
sum_answer asker chunks notes place (suc writers) least below =
    by_place (cases_eq asker place) (λ apart. sum_answer asker chunks notes (suc place) writers (omega (arith, least, apart)) (omega (arith, below)))
  where
    by_place : (asker ≡ place) ⊎ (asker ≡ place → ⊥)
        → ((asker ≡ place → ⊥) → chunks_answered (notes ++ Answered asker chunks ∷ []) (suc place) (nobody writers)
        ≡ chunks_answered notes (suc place) (nobody writers) + extra (first_answer asker notes) chunks)
        → unwrap_or (first_answer place (notes ++ Answered asker chunks ∷ [])) 0 + chunks_answered (notes ++ Answered asker chunks ∷ []) (suc place) (nobody writers)
        ≡ unwrap_or (first_answer place notes) 0 + chunks_answered notes (suc place) (nobody writers) + extra (first_answer asker notes) chunks
    by_place (inl same) rest =
        let head : unwrap_or (first_answer place (notes ++ Answered asker chunks ∷ [])) 0 ≡ unwrap_or (first_answer place notes) 0 + extra (first_answer place notes) chunks =
        ap (λ (o : Option ℕ). unwrap_or o 0) (first_behind place asker chunks notes ∙ ap (λ (b : Bool). answer_behind (first_answer place notes) b chunks) (eq-eqb asker place same))
        ∙ own_adds (first_answer place notes) chunks in
        let tail = sum_other asker chunks notes (suc place) writers (omega (arith, same)) in
        let own : extra (first_answer asker notes) chunks ≡ extra (first_answer place notes) chunks = ap (λ (p : ℕ). extra (first_answer p notes) chunks) same in
        omega (arith, head, tail, own)
    by_place (inr apart) rest =
        let head : unwrap_or (first_answer place (notes ++ Answered asker chunks ∷ [])) 0 ≡ unwrap_or (first_answer place notes) 0 =
        ap (λ (o : Option ℕ). unwrap_or o 0) (first_other place asker chunks notes apart) in
        let tail = rest apart in
        omega (arith, head, tail)

-- a writer that gave no answer has answered no request
none_answered : (place : ℕ) (notes : List ActNote) → first_answer place notes ≡ None → answered_by place notes ≡ 0
none_answered place [] none = refl
none_answered place (Told answer ∷ notes) none = none_answered place notes none
none_answered place (Requested ∷ notes) none =
    ap (λ (o : Option ℕ). cond (is_some o) (suc (answered_by place notes)) (answered_by place notes)) none ∙ none_answered place notes none
none_answered place (Answered other chunks ∷ notes) none = by_test (other == place) none (none_answered place notes)
  where
    by_test : (b : Bool) → cond b (Some chunks) (first_answer place notes) ≡ None → (first_answer place notes ≡ None → answered_by place notes ≡ 0) → answered_by place notes ≡ 0
    by_test true is rest = absurd (let never : Some chunks ≡ None = is in cc)
    by_test false is rest = rest is

-- An answer adds its chunks to the sums of all requests that the writer hadn't answered.
pub sums_answer : (asker chunks : ℕ) (notes : List ActNote) (writers : ℕ) → asker < writers
    → flush_sums (notes ++ Answered asker chunks ∷ []) (nobody writers) ≡ raised_from (answered_by asker notes) chunks (flush_sums notes (nobody writers))
sums_answer asker chunks [] writers below = refl
sums_answer asker chunks (Answered place count ∷ notes) writers below = sums_answer asker chunks notes writers below
sums_answer asker chunks (Told answer ∷ notes) writers below = sums_answer asker chunks notes writers below
sums_answer asker chunks (Requested ∷ notes) writers below =
    ap (λ (n : ℕ). n ∷ flush_sums (notes ++ Answered asker chunks ∷ []) (nobody writers)) (sum_answer asker chunks notes 0 writers (omega arith) (omega (arith, below)))
    ∙ ap (λ (ns : List ℕ). (head + extra (first_answer asker notes) chunks) ∷ ns) (sums_answer asker chunks notes writers below)
    ∙ by_first (first_answer asker notes) refl
  where
    head : ℕ
    head = chunks_answered notes 0 (nobody writers)

    by_first : (first : Option ℕ) → first_answer asker notes ≡ first
        → (chunks_answered notes 0 (nobody writers) + extra (first_answer asker notes) chunks) ∷ raised_from (answered_by asker notes) chunks (flush_sums notes (nobody writers))
        ≡ raised_from (answered_by asker (Requested ∷ notes)) chunks (chunks_answered notes 0 (nobody writers) ∷ flush_sums notes (nobody writers))
    by_first None is =
        let none = none_answered asker notes is in
        let all : answered_by asker (Requested ∷ notes) ≡ 0 =
        ap (λ (o : Option ℕ). cond (is_some o) (suc (answered_by asker notes)) (answered_by asker notes)) is ∙ none in
        ap (λ (o : Option ℕ). (chunks_answered notes 0 (nobody writers) + extra o chunks) ∷ raised_from (answered_by asker notes) chunks (flush_sums notes (nobody writers))) is
        ∙ ap (λ (n : ℕ). (chunks_answered notes 0 (nobody writers) + chunks) ∷ raised_from n chunks (flush_sums notes (nobody writers))) none
        ∙ ap (λ (n : ℕ). raised_from n chunks (chunks_answered notes 0 (nobody writers) ∷ flush_sums notes (nobody writers))) (sym all)
    by_first (Some one) is =
        let all : answered_by asker (Requested ∷ notes) ≡ suc (answered_by asker notes) =
        ap (λ (o : Option ℕ). cond (is_some o) (suc (answered_by asker notes)) (answered_by asker notes)) is in
        ap (λ (o : Option ℕ). (chunks_answered notes 0 (nobody writers) + extra o chunks) ∷ raised_from (answered_by asker notes) chunks (flush_sums notes (nobody writers))) is
        ∙ ap (λ (n : ℕ). n ∷ raised_from (answered_by asker notes) chunks (flush_sums notes (nobody writers))) (add-zero (chunks_answered notes 0 (nobody writers)))
        ∙ ap (λ (n : ℕ). raised_from n chunks (chunks_answered notes 0 (nobody writers) ∷ flush_sums notes (nobody writers))) (sym all)

-- behind its answer the writer has answered all
pub answered_own : (asker chunks : ℕ) (notes : List ActNote) (taken : List Taken) → answered_by asker (notes ++ Answered asker chunks ∷ []) ≡ length (flush_sums notes taken)
answered_own asker chunks [] taken = refl
answered_own asker chunks (Answered place count ∷ notes) taken = answered_own asker chunks notes taken
answered_own asker chunks (Told answer ∷ notes) taken = answered_own asker chunks notes taken
answered_own asker chunks (Requested ∷ notes) taken =
    ap (λ (b : Bool). cond b (suc (answered_by asker (notes ++ Answered asker chunks ∷ []))) (answered_by asker (notes ++ Answered asker chunks ∷ []))) has
    ∙ ap suc (answered_own asker chunks notes taken)
  where
    some : (first : Option ℕ) → is_some (answer_behind first true chunks) ≡ true
    some None = refl
    some (Some one) = refl

    has : is_some (first_answer asker (notes ++ Answered asker chunks ∷ [])) ≡ true
    has = ap is_some (first_behind asker asker chunks notes ∙ ap (λ (b : Bool). answer_behind (first_answer asker notes) b chunks) (eq-eqb asker asker refl))
        ∙ some (first_answer asker notes)

-- and each other one as many as before
pub answered_other : (place asker chunks : ℕ) (notes : List ActNote) → asker ≢ place → answered_by place (notes ++ Answered asker chunks ∷ []) ≡ answered_by place notes
answered_other place asker chunks [] apart = refl
answered_other place asker chunks (Answered other count ∷ notes) apart = answered_other place asker chunks notes apart
answered_other place asker chunks (Told answer ∷ notes) apart = answered_other place asker chunks notes apart
answered_other place asker chunks (Requested ∷ notes) apart =
    ap (λ (o : Option ℕ). cond (is_some o) (suc (answered_by place (notes ++ Answered asker chunks ∷ []))) (answered_by place (notes ++ Answered asker chunks ∷ [])))
    (first_other place asker chunks notes apart)
    ∙ ap (λ (n : ℕ). cond (is_some (first_answer place notes)) (suc n) n) (answered_other place asker chunks notes apart)

-- no more requests are answered than were made
pub answered_most : (place : ℕ) (notes : List ActNote) (taken : List Taken) → answered_by place notes ≤ length (flush_sums notes taken)
answered_most place [] taken = omega arith
answered_most place (Answered other chunks ∷ notes) taken = answered_most place notes taken
answered_most place (Told answer ∷ notes) taken = answered_most place notes taken
answered_most place (Requested ∷ notes) taken = by_test (is_some (first_answer place notes)) (answered_most place notes taken)
  where
    by_test : (b : Bool) → answered_by place notes ≤ length (flush_sums notes taken)
        → cond b (suc (answered_by place notes)) (answered_by place notes) ≤ suc (length (flush_sums notes taken))
    by_test true most = omega (arith, most)
    by_test false most = omega (arith, most)

-- ---- how large a sum can be

first_small : (writers place : ℕ) (notes : List ActNote) → AreAnswers writers notes → unwrap_or (first_answer place notes) 0 < 2 ^ 32
first_small writers place [] fit = omega arith
first_small writers place (Requested ∷ notes) fit = first_small writers place notes fit
first_small writers place (Told answer ∷ notes) fit = first_small writers place notes fit
first_small writers place (Answered other chunks ∷ notes) fit = by_test (other == place) (first_small writers place notes fit.2)
  where
    by_test : (b : Bool) → unwrap_or (first_answer place notes) 0 < 2 ^ 32 → unwrap_or (cond b (Some chunks) (first_answer place notes)) 0 < 2 ^ 32
    by_test true rest = fit.1
    by_test false rest = rest

sum_small : (writers place count : ℕ) (notes : List ActNote) → AreAnswers writers notes → chunks_answered notes place (nobody count) ≤ count * 2 ^ 32
sum_small writers place zero notes fit = omega arith
sum_small writers place (suc count) notes fit =
    let head = first_small writers place notes fit in
    let rest = sum_small writers (suc place) count notes fit in
    omega (arith, head, rest)

pub sums_small : (writers k : ℕ) (notes : List ActNote) → AreAnswers writers notes → get_or (flush_sums notes (nobody writers)) k 0 ≤ writers * 2 ^ 32
sums_small writers k [] fit = let zero_is : get_or {A = ℕ} [] k 0 ≡ 0 = none_there k in omega (arith, zero_is)
  where
    none_there : (k : ℕ) → get_or {A = ℕ} [] k 0 ≡ 0
    none_there zero = refl
    none_there (suc k) = refl
sums_small writers zero (Requested ∷ notes) fit = sum_small writers 0 writers notes fit
sums_small writers (suc k) (Requested ∷ notes) fit = sums_small writers k notes fit
sums_small writers k (Answered place chunks ∷ notes) fit = sums_small writers k notes fit.2
sums_small writers k (Told answer ∷ notes) fit = sums_small writers k notes fit

-- ---- the loop of an answer

-- a list that was raised in its front part, one place after another
pub raised_is : (from more room flush : ℕ) (sums was is : List ℕ) → was ≡ sums ++ replicate room 0 → length is ≡ length was → flush ≡ length sums
    → ((k : ℕ) → flush ≤ k → get_or is k 0 ≡ get_or was k 0)
    → ((k : ℕ) → k < from → get_or is k 0 ≡ get_or was k 0)
    → ((k : ℕ) → from ≤ k → k < flush → get_or is k 0 ≡ get_or was k 0 + more)
    → is ≡ raised_from from more sums ++ replicate room 0
raised_is from more room flush sums was is was_is long end same below raised =
    ext_get_or 0 is (raised_from from more sums ++ replicate room 0)
    (long ∙ ap (λ (xs : List ℕ). length xs) was_is ∙ length-append sums (replicate room 0)
    ∙ ap (λ (n : ℕ). n + length {A = ℕ} (replicate room 0)) (sym (raised_long from more sums)) ∙ sym (length-append (raised_from from more sums) (replicate room 0)))
    (λ k inside. by_part k (cases_lt k (length sums)))
  where
    wide : length (raised_from from more sums) ≡ length sums
    wide = raised_long from more sums

    by_part : (k : ℕ) → (k < length sums) ⊎ (length sums ≤ k) → get_or is k 0 ≡ get_or (raised_from from more sums ++ replicate room 0) k 0
    by_part k (inr behind) =
        same k (omega (arith, behind, end)) ∙ ap (λ (xs : List ℕ). get_or xs k 0) was_is
        ∙ get_or-append_right sums (replicate room 0) k 0 behind
        ∙ ap (λ (n : ℕ). get_or (replicate room 0) (k - n) 0) (sym wide)
        ∙ sym (get_or-append_right (raised_from from more sums) (replicate room 0) k 0 (omega (arith, behind, wide)))
    by_part k (inl front) =
        by_from k front (cases_lt k from)
      where
        by_from : (k : ℕ) → k < length sums → (k < from) ⊎ (from ≤ k) → get_or is k 0 ≡ get_or (raised_from from more sums ++ replicate room 0) k 0
        by_from k front (inl early) =
            below k early ∙ ap (λ (xs : List ℕ). get_or xs k 0) was_is ∙ get_or_append_left sums (replicate room 0) 0 k front
            ∙ sym (raised_below from more sums k early)
            ∙ sym (get_or_append_left (raised_from from more sums) (replicate room 0) 0 k (omega (arith, front, wide)))
        by_from k front (inr late) =
            raised k late (omega (arith, front, end))
            ∙ ap (λ (n : ℕ). n + more) (ap (λ (xs : List ℕ). get_or xs k 0) was_is ∙ get_or_append_left sums (replicate room 0) 0 k front)
            ∙ sym (raised_above from more sums k late front)
            ∙ sym (get_or_append_left (raised_from from more sums) (replicate room 0) 0 k (omega (arith, front, wide)))
