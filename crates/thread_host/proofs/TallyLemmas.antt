-- What an answer that is read makes of the sums of flush requests.
use Rattle.std.proofs.Common.{◌≡◌, ◌≢◌, ◌∙◌, ℕ, zero, suc, ◌+◌, ◌*◌, ◌^◌, ◌<◌, ◌≤◌, ◌⊎◌, Bool, true, false, List, [], ◌∷◌, ◌++◌, length, get_or, refl, sym, ap, subst, arith, inl, inr, cond, ⊎_elim}
use Rattle.std.specs.Prelude.{◌==◌, ◌&&◌, ◌||◌, nat_lt, slice_index, vec_len}
use Rattle.std.proofs.Math.Bool.{or-true}
use Rattle.std.proofs.lemmas.Bool.{cases_eq, cases_lt, eq-eqb, ne_eqb, lt-ltb, le-ltb}
use Rattle.std.proofs.lemmas.List.{ext_get_or}
use Rattle.chunk_plain.specs.Views.{At, Letter, Asked, Heard, asked_in}
use Rattle.chunk_plain.proofs.Lists.{at_more}
use Rattle.chunk_words.specs.Knows.{later}
use Rattle.run_model.specs.Answered.{chunks_to, sum_to, sums_from, run_sums}
use Rattle.thread_host.specs.Tally.{newest_read, IsTally}
use Rattle.thread_host.specs.declared.tally.Tally.{Tally}

-- ---- the newest request of a writer

newest_test : (b : Bool) (flush first other : ℕ) → other ≡ later flush first → (number : ℕ)
    → cond b (later number other) other ≡ later flush (cond b (later number first) first)
newest_test true flush first other is number = omega (arith, is)
newest_test false flush first other is number = is

pub newest_own : (place other flush chunks : ℕ) (letters : List Letter) → other ≡ place
    → newest_read place (letters ++ Heard other flush chunks ∷ []) ≡ later flush (newest_read place letters)
newest_own place other flush chunks [] is = ap (λ (b : Bool). cond b (later flush 0) 0) (eq-eqb other place is)
newest_own place other flush chunks (Asked events ∷ letters) is = newest_own place other flush chunks letters is
newest_own place other flush chunks (Heard one number many ∷ letters) is =
    newest_test (one == place) flush (newest_read place letters) (newest_read place (letters ++ Heard other flush chunks ∷ []))
    (newest_own place other flush chunks letters is) number

pub newest_other : (place other flush chunks : ℕ) (letters : List Letter) → other ≢ place
    → newest_read place (letters ++ Heard other flush chunks ∷ []) ≡ newest_read place letters
newest_other place other flush chunks [] apart = ap (λ (b : Bool). cond b (later flush 0) 0) (ne_eqb other place apart)
newest_other place other flush chunks (Asked events ∷ letters) apart = newest_other place other flush chunks letters apart
newest_other place other flush chunks (Heard one number many ∷ letters) apart =
    ap (λ (n : ℕ). cond (one == place) (later number n) n) (newest_other place other flush chunks letters apart)

pub newest_asked : (place events : ℕ) (letters : List Letter) → newest_read place (letters ++ Asked events ∷ []) ≡ newest_read place letters
newest_asked place events [] = refl
newest_asked place events (Asked before ∷ letters) = newest_asked place events letters
newest_asked place events (Heard one number many ∷ letters) =
    ap (λ (n : ℕ). cond (one == place) (later number n) n) (newest_asked place events letters)

-- ---- whether a request was answered

abbrev found : (flush place : ℕ) → List Letter → Bool
found flush place [] = false
found flush place (Asked events ∷ letters) = found flush place letters
found flush place (Heard other number chunks ∷ letters) = ((other == place) && nat_lt flush (suc number)) || found flush place letters

found_yes : (flush place : ℕ) (letters : List Letter) → 0 < flush → flush ≤ newest_read place letters → found flush place letters ≡ true
found_yes flush place [] some low = absurd (omega (arith, some, low))
found_yes flush place (Asked events ∷ letters) some low = found_yes flush place letters some low
found_yes flush place (Heard other number chunks ∷ letters) some low = by_test (other == place) (λ most. found_yes flush place letters some most) low
  where
    by_number : (flush < suc number) ⊎ (suc number ≤ flush) → (flush ≤ newest_read place letters → found flush place letters ≡ true)
        → flush ≤ later number (newest_read place letters) → (nat_lt flush (suc number) || found flush place letters) ≡ true
    by_number (inl inside) rest most = ap (λ (b : Bool). b || found flush place letters) (lt-ltb flush (suc number) inside)
    by_number (inr beyond) rest most =
        ap (λ (b : Bool). nat_lt flush (suc number) || b) (rest (omega (arith, beyond, most))) ∙ or-true (nat_lt flush (suc number))

    by_test : (b : Bool) → (flush ≤ newest_read place letters → found flush place letters ≡ true)
        → flush ≤ cond b (later number (newest_read place letters)) (newest_read place letters)
        → ((b && nat_lt flush (suc number)) || found flush place letters) ≡ true
    by_test true rest most = by_number (cases_lt flush (suc number)) rest most
    by_test false rest most = rest most

found_no : (flush place : ℕ) (letters : List Letter) → newest_read place letters < flush → found flush place letters ≡ false
found_no flush place [] low = refl
found_no flush place (Asked events ∷ letters) low = found_no flush place letters low
found_no flush place (Heard other number chunks ∷ letters) low = by_test (other == place) (λ least. found_no flush place letters least) low
  where
    by_test : (b : Bool) → (newest_read place letters < flush → found flush place letters ≡ false) → cond b (later number (newest_read place letters)) (newest_read place letters) < flush
        → ((b && nat_lt flush (suc number)) || found flush place letters) ≡ false
    by_test true rest least =
        ap (λ (b : Bool). b || found flush place letters) (le-ltb flush (suc number) (omega (arith, least))) ∙ rest (omega (arith, least))
    by_test false rest least = rest least

none_found : (flush place : ℕ) (letters : List Letter) → found flush place letters ≡ false → chunks_to flush place letters ≡ 0
none_found flush place [] none = refl
none_found flush place (Asked events ∷ letters) none = none_found flush place letters none
none_found flush place (Heard other number chunks ∷ letters) none =
    by_test ((other == place) && nat_lt flush (suc number)) (λ is. none_found flush place letters is) none
  where
    by_test : (b : Bool) → (found flush place letters ≡ false → chunks_to flush place letters ≡ 0) → (b || found flush place letters) ≡ false → cond b chunks (chunks_to flush place letters) ≡ 0
    by_test true rest is = absurd (let never : true ≡ false = is in cc)
    by_test false rest is = rest is

-- a letter more counts where none before it did
chunks_append : (flush place : ℕ) (letters : List Letter) (one : Letter)
    → chunks_to flush place (letters ++ one ∷ []) ≡ cond (found flush place letters) (chunks_to flush place letters) (chunks_to flush place (one ∷ []))
chunks_append flush place [] one = refl
chunks_append flush place (Asked events ∷ letters) one = chunks_append flush place letters one
chunks_append flush place (Heard other number chunks ∷ letters) one =
    by_test ((other == place) && nat_lt flush (suc number)) (chunks_append flush place letters one)
  where
    by_test : (b : Bool)
        → chunks_to flush place (letters ++ one ∷ []) ≡ cond (found flush place letters) (chunks_to flush place letters) (chunks_to flush place (one ∷ []))
        → cond b chunks (chunks_to flush place (letters ++ one ∷ []))
        ≡ cond (b || found flush place letters) (cond b chunks (chunks_to flush place letters)) (chunks_to flush place (one ∷ []))
    by_test true rest = refl
    by_test false rest = rest

stays_where : (b : Bool) (was : ℕ) → (b ≡ false → was ≡ 0) → cond b was 0 ≡ was
stays_where true was none = refl
stays_where false was none = sym (none refl)

-- one that counts nothing changes nothing
pub chunks_stay : (flush place : ℕ) (letters : List Letter) (one : Letter) → chunks_to flush place (one ∷ []) ≡ 0
    → chunks_to flush place (letters ++ one ∷ []) ≡ chunks_to flush place letters
chunks_stay flush place letters one none =
    chunks_append flush place letters one
    ∙ ap (λ (n : ℕ). cond (found flush place letters) (chunks_to flush place letters) n) none
    ∙ stays_where (found flush place letters) (chunks_to flush place letters) (none_found flush place letters)

-- an answer of another writer, or to an older request
pub chunks_other : (flush place other number chunks : ℕ) (letters : List Letter) → other ≢ place
    → chunks_to flush place (letters ++ Heard other number chunks ∷ []) ≡ chunks_to flush place letters
chunks_other flush place other number chunks letters apart =
    chunks_stay flush place letters (Heard other number chunks)
    (ap (λ (b : Bool). cond (b && nat_lt flush (suc number)) chunks 0) (ne_eqb other place apart))

chunks_older : (flush place number chunks : ℕ) (letters : List Letter) → number < flush
    → chunks_to flush place (letters ++ Heard place number chunks ∷ []) ≡ chunks_to flush place letters
chunks_older flush place number chunks letters older =
    chunks_stay flush place letters (Heard place number chunks)
    (ap (λ (b : Bool). cond (b && nat_lt flush (suc number)) chunks 0) (eq-eqb place place refl)
    ∙ ap (λ (b : Bool). cond b chunks 0) (le-ltb flush (suc number) (omega (arith, older))))

-- one to a request that was answered before
pub chunks_again : (flush place number chunks : ℕ) (letters : List Letter) → 0 < flush → flush ≤ newest_read place letters
    → chunks_to flush place (letters ++ Heard place number chunks ∷ []) ≡ chunks_to flush place letters
chunks_again flush place number chunks letters some low =
    chunks_append flush place letters (Heard place number chunks)
    ∙ ap (λ (b : Bool). cond b (chunks_to flush place letters) (chunks_to flush place (Heard place number chunks ∷ []))) (found_yes flush place letters some low)

-- the first one to it
pub chunks_first : (flush place number chunks : ℕ) (letters : List Letter) → newest_read place letters < flush → flush ≤ number
    → (chunks_to flush place letters ≡ 0) × (chunks_to flush place (letters ++ Heard place number chunks ∷ []) ≡ chunks)
chunks_first flush place number chunks letters new high =
    let none = found_no flush place letters new in (
      none_found flush place letters none,
      chunks_append flush place letters (Heard place number chunks)
          ∙ ap (λ (b : Bool). cond b (chunks_to flush place letters) (chunks_to flush place (Heard place number chunks ∷ []))) none
          ∙ ap (λ (b : Bool). cond (b && nat_lt flush (suc number)) chunks 0) (eq-eqb place place refl)
          ∙ ap (λ (b : Bool). cond b chunks 0) (lt-ltb flush (suc number) (omega (arith, high))),
    )

-- ---- sums

sum_same : (flush writers : ℕ) (old new : List Letter) → ((place : ℕ) → place < writers → chunks_to flush place new ≡ chunks_to flush place old)
    → sum_to flush writers new ≡ sum_to flush writers old
sum_same flush zero old new each = refl
sum_same flush (suc writers) old new each =
    let rest = sum_same flush writers old new (λ place below. each place (omega (arith, below))) in
    let last = each writers (omega arith) in omega (arith, rest, last)

sum_adds : (flush writers place more : ℕ) (old new : List Letter) → place < writers → chunks_to flush place new ≡ chunks_to flush place old + more
    → ((other : ℕ) → other ≢ place → chunks_to flush other new ≡ chunks_to flush other old) → sum_to flush writers new ≡ sum_to flush writers old + more
sum_adds flush zero place more old new below own others = absurd (omega (arith, below))
sum_adds flush (suc writers) place more old new below own others =
    by_place (cases_eq writers place) (λ apart. sum_adds flush writers place more old new (omega (arith, below, apart)) own others)
  where
    by_place : (writers ≡ place) ⊎ (writers ≡ place → ⊥)
        → ((writers ≡ place → ⊥) → sum_to flush writers new ≡ sum_to flush writers old + more)
        → sum_to flush writers new + chunks_to flush writers new ≡ (sum_to flush writers old + chunks_to flush writers old) + more
    by_place (inl same) later =
        let rest = sum_same flush writers old new (λ other low. others other (λ is. omega (arith, low, is, same))) in
        let last : chunks_to flush writers new ≡ chunks_to flush writers old + more =
        subst (λ (p : ℕ). chunks_to flush p new ≡ chunks_to flush p old + more) (sym same) own in
        omega (arith, rest, last)
    by_place (inr apart) later =
        let rest = later apart in
        let last = others writers apart in omega (arith, rest, last)

-- how large a sum can be
abbrev pub AreSmall : List Letter → Type 0
AreSmall letters = (n place flush chunks : ℕ) → At letters n (Heard place flush chunks) → chunks < 2 ^ 32

chunks_small : (flush place : ℕ) (letters : List Letter) → AreSmall letters → chunks_to flush place letters < 2 ^ 32
chunks_small flush place [] small = omega arith
chunks_small flush place (Asked events ∷ letters) small = chunks_small flush place letters (λ n p f c at. small (suc n) p f c at)
chunks_small flush place (Heard other number chunks ∷ letters) small =
    by_test ((other == place) && nat_lt flush (suc number)) (chunks_small flush place letters (λ n p f c at. small (suc n) p f c at))
  where
    by_test : (b : Bool) → chunks_to flush place letters < 2 ^ 32 → cond b chunks (chunks_to flush place letters) < 2 ^ 32
    by_test true rest = small 0 other number chunks refl
    by_test false rest = rest

pub sum_small : (flush writers : ℕ) (letters : List Letter) → AreSmall letters → sum_to flush writers letters ≤ writers * 2 ^ 32
sum_small flush zero letters small = omega arith
sum_small flush (suc writers) letters small =
    let rest = sum_small flush writers letters small in let last = chunks_small flush writers letters small in omega (arith, rest, last)

count_of : Letter → ℕ
count_of (Asked events) = 0
count_of (Heard place flush chunks) = chunks

small_more : (letters : List Letter) (place flush chunks : ℕ) → chunks < 2 ^ 32 → AreSmall letters → AreSmall (letters ++ Heard place flush chunks ∷ [])
unfolding count_of
small_more letters place flush chunks fits small n p f c at =
    ⊎_elim (λ old. small n p f c old) (λ new. subst (λ (m : ℕ). m < 2 ^ 32) (ap count_of new.1) fits)
    (at_more letters (Heard place flush chunks) (Heard p f c) n at)

small_asked : (letters : List Letter) (events : ℕ) → AreSmall letters → AreSmall (letters ++ Asked events ∷ [])
small_asked letters events small n p f c at =
    ⊎_elim (λ old. small n p f c old) (λ new. absurd (let never : Asked events ≡ Heard p f c = new.1 in cc))
    (at_more letters (Asked events) (Heard p f c) n at)

-- nothing was read
pub sum_none : (flush writers : ℕ) → sum_to flush writers [] ≡ 0
sum_none flush zero = refl
sum_none flush (suc writers) = let rest = sum_none flush writers in omega (arith, rest)

-- ---- the tally

-- behind an answer that is no newer it stays
pub tally_again : (requests writers place flush chunks : ℕ) (letters : List Letter) (tally : Tally) → flush ≤ newest_read place letters → chunks < 2 ^ 32
    → IsTally requests writers letters tally → IsTally requests writers (letters ++ Heard place flush chunks ∷ []) tally
tally_again requests writers place flush chunks letters tally low fits was = record {
  few = was.few;
  rows = was.rows;
  many = was.many;
  small = small_more letters place flush chunks fits was.small;
  sums = λ k inside. was.sums k inside ∙ sym (sum_same (suc k) writers letters (letters ++ Heard place flush chunks ∷ []) (λ p below. by_place k p (cases_eq place p)));
  answered = λ p below. was.answered p below ∙ sym (elim (cases_eq place p) [
    | inl is ↦ newest_own p place flush chunks letters is ∙ (let most : flush ≤ newest_read p letters = subst (λ (q : ℕ). flush ≤ newest_read q letters) is low in omega (arith, most))
    | inr apart ↦ newest_other p place flush chunks letters apart
  ]);
}
  where
    by_request : (k p : ℕ) → place ≡ p → (newest_read p letters < suc k) ⊎ (suc k ≤ newest_read p letters)
        → chunks_to (suc k) p (letters ++ Heard p flush chunks ∷ []) ≡ chunks_to (suc k) p letters
    by_request k p is (inl new) =
        let most : flush ≤ newest_read p letters = subst (λ (q : ℕ). flush ≤ newest_read q letters) is low in
        chunks_older (suc k) p flush chunks letters (omega (arith, most, new))
    by_request k p is (inr old) = chunks_again (suc k) p flush chunks letters (omega arith) old

    by_place : (k p : ℕ) → (place ≡ p) ⊎ (place ≡ p → ⊥) → chunks_to (suc k) p (letters ++ Heard place flush chunks ∷ []) ≡ chunks_to (suc k) p letters
    by_place k p (inl is) =
        ap (λ (q : ℕ). chunks_to (suc k) p (letters ++ Heard q flush chunks ∷ [])) is ∙ by_request k p is (cases_lt (newest_read p letters) (suc k))
    by_place k p (inr apart) = chunks_other (suc k) p place flush chunks letters apart

-- Behind a newer one the sums are raised of the requests that the writer hadn't answered.
pub tally_added : (requests writers place flush chunks : ℕ) (letters : List Letter) (old new : Tally) → place < writers → newest_read place letters < flush
    → flush ≤ requests → chunks < 2 ^ 32 → IsTally requests writers letters old → vec_len new.sums ≡ vec_len old.sums → vec_len new.answered ≡ vec_len old.answered
    → ((k : ℕ) → k < newest_read place letters → slice_index new.sums.items k ≡ slice_index old.sums.items k)
    → ((k : ℕ) → newest_read place letters ≤ k → k < flush → slice_index new.sums.items k ≡ slice_index old.sums.items k + chunks)
    → ((k : ℕ) → flush ≤ k → slice_index new.sums.items k ≡ slice_index old.sums.items k)
    → slice_index new.answered.items place ≡ flush
    → ((other : ℕ) → other ≢ place → slice_index new.answered.items other ≡ slice_index old.answered.items other)
    → IsTally requests writers (letters ++ Heard place flush chunks ∷ []) new
tally_added requests writers place flush chunks letters old new inside newer room fits was rows many before raised behind own others = record {
  few = was.few;
  rows = rows ∙ was.rows;
  many = many ∙ was.many;
  small = small_more letters place flush chunks fits was.small;
  sums = λ k below. by_request k below (cases_lt k (newest_read place letters)) (cases_lt k flush);
  answered = λ p below. elim (cases_eq p place) [
    | inl is ↦
        (let grown = newest_own p place flush chunks letters (sym is) in
        let low : newest_read p letters < flush = subst (λ (q : ℕ). newest_read q letters < flush) (sym is) newer in
        ap (λ (q : ℕ). slice_index new.answered.items q) is ∙ own ∙ sym (grown ∙ (omega (arith, low))))
    | inr apart ↦ others p apart ∙ was.answered p below ∙ sym (newest_other p place flush chunks letters (λ is. apart (sym is)))
  ];
}
  where
    elsewhere : (k other : ℕ) → other ≢ place → chunks_to (suc k) other (letters ++ Heard place flush chunks ∷ []) ≡ chunks_to (suc k) other letters
    elsewhere k other apart = chunks_other (suc k) other place flush chunks letters (λ is. apart (sym is))

    unchanged : (k : ℕ) → chunks_to (suc k) place (letters ++ Heard place flush chunks ∷ []) ≡ chunks_to (suc k) place letters → (p : ℕ) → p < writers
        → chunks_to (suc k) p (letters ++ Heard place flush chunks ∷ []) ≡ chunks_to (suc k) p letters
    unchanged k same p below = elim (cases_eq p place) [
      | inl is ↦ subst (λ (q : ℕ). chunks_to (suc k) q (letters ++ Heard place flush chunks ∷ []) ≡ chunks_to (suc k) q letters) (sym is) same
      | inr apart ↦ elsewhere k p apart
    ]

    by_request : (k : ℕ) → k < requests → (k < newest_read place letters) ⊎ (newest_read place letters ≤ k) → (k < flush) ⊎ (flush ≤ k)
        → slice_index new.sums.items k ≡ sum_to (suc k) writers (letters ++ Heard place flush chunks ∷ [])
    by_request k below (inl early) any =
        before k early ∙ was.sums k below
        ∙ sym (sum_same (suc k) writers letters (letters ++ Heard place flush chunks ∷ []) (unchanged k (chunks_again (suc k) place flush chunks letters (omega arith) (omega (arith, early)))))
    by_request k below (inr late) (inl here) =
        let first = chunks_first (suc k) place flush chunks letters (omega (arith, late)) (omega (arith, here)) in
        let adds : chunks_to (suc k) place (letters ++ Heard place flush chunks ∷ []) ≡ chunks_to (suc k) place letters + chunks = (let none = first.0 in let all = first.1 in omega (arith, none, all)) in
        raised k late here ∙ ap (λ (n : ℕ). n + chunks) (was.sums k below)
        ∙ sym (sum_adds (suc k) writers place chunks letters (letters ++ Heard place flush chunks ∷ []) inside adds (λ other apart. elsewhere k other apart))
    by_request k below (inr late) (inr beyond) =
        behind k beyond ∙ was.sums k below
        ∙ sym (sum_same (suc k) writers letters (letters ++ Heard place flush chunks ∷ []) (unchanged k (chunks_older (suc k) place flush chunks letters (omega (arith, beyond)))))

-- a request changes nothing
pub tally_asked : (requests writers events : ℕ) (letters : List Letter) (tally : Tally) → IsTally requests writers letters tally
    → IsTally requests writers (letters ++ Asked events ∷ []) tally
tally_asked requests writers events letters tally was = record {
  few = was.few;
  rows = was.rows;
  many = was.many;
  small = small_asked letters events was.small;
  sums = λ k inside. was.sums k inside
      ∙ sym (sum_same (suc k) writers letters (letters ++ Asked events ∷ []) (λ p below. chunks_stay (suc k) p letters (Asked events) refl));
  answered = λ p below. was.answered p below ∙ sym (newest_asked p events letters);
}

-- ---- what the report says

sums_long : (flush count writers : ℕ) (letters : List Letter) → length (sums_from flush count writers letters) ≡ count
sums_long flush zero writers letters = refl
sums_long flush (suc count) writers letters = ap suc (sums_long (suc flush) count writers letters)

sums_at : (flush count writers : ℕ) (letters : List Letter) (k : ℕ) → k < count → get_or (sums_from flush count writers letters) k 0 ≡ sum_to (flush + k) writers letters
sums_at flush zero writers letters k inside = absurd (omega (arith, inside))
sums_at flush (suc count) writers letters zero inside = let here : flush ≡ flush + 0 = omega arith in ap (λ (n : ℕ). sum_to n writers letters) here
sums_at flush (suc count) writers letters (suc k) inside =
    let here : suc flush + k ≡ flush + suc k = omega arith in
    sums_at (suc flush) count writers letters k (omega (arith, inside)) ∙ ap (λ (n : ℕ). sum_to n writers letters) here

-- where all requests were made the sums are those of the report
pub sums_are : (requests writers : ℕ) (letters : List Letter) (tally : Tally) → IsTally requests writers letters tally → asked_in letters ≡ requests
    → tally.sums.items ≡ run_sums writers letters
sums_are requests writers letters tally is all =
    let long = tally.sums.ok.0 in let rows = is.rows in let other = sums_long 1 (asked_in letters) writers letters in
    ext_get_or 0 tally.sums.items (run_sums writers letters) (omega (arith, long, rows, other, all))
    (λ k inside.
    let below : k < requests = omega (arith, inside, long, rows) in
    let one : suc k ≡ 1 + k = omega arith in
    is.sums k below ∙ ap (λ (n : ℕ). sum_to n writers letters) one ∙ sym (sums_at 1 (asked_in letters) writers letters k (omega (arith, below, all))))
