-- Bits as a circle, and the rising lists that they stand for.
use Rattle.std.proofs.Common.{◌≡◌, ◌≢◌, ℕ, zero, suc, ◌+◌, ◌<◌, ◌≤◌, ◌%◌, ◌==◌, ◌||◌, ◌⊎◌, Bool, true, false, cond, nat_lt, List, [], ◌∷◌, ◌++◌, length, get_or, replicate, refl, sym, ap, ap₂, ◌∙◌, subst, arith, eq-eqb, eqb-true, ne_eqb, ◌^◌, append_assoc, length-append, ⊎_elim, inl, inr}
use Rattle.std.proofs.lemmas.Bool.{cases_eq}
use Rattle.std.proofs.lemmas.List.{get_or-set_other, get_or-set_same, get_or-replicate}
use Rattle.std.proofs.lemmas.List.Folds.{list_any-append}
use Rattle.std.proofs.lemmas.Bool.Decides.{nat_tests}
use Rattle.trace_model.specs.Sequences.{is_among, with_number, first_absent}
use Rattle.trace_model.proofs.SequenceLemmas.{among_with}
use Rattle.trace_buffer.specs.Circle.{bit, with_bit, numbers, marked, arrived_of}

-- Numbers that follow one another

numbers_in : (n at i : ℕ) → at ≤ i → i < at + n → is_among i (numbers n at) ≡ true
numbers_in zero at i low high = absurd (omega arith)
numbers_in (suc n) at i low high =
    ⊎_elim
    (λ (same : at ≡ i). ap (λ b. b || is_among i (numbers n (suc at))) (eq-eqb at i same))
    (λ (other : at ≢ i).
    ap (λ b. b || is_among i (numbers n (suc at))) (ne_eqb at i other) ∙ numbers_in n (suc at) i (omega arith) (omega arith))
    (cases_eq at i)

numbers_out : (n at i : ℕ) → (i < at) ⊎ (at + n ≤ i) → is_among i (numbers n at) ≡ false
numbers_out zero at i out = refl
numbers_out (suc n) at i out =
    ap (λ b. b || is_among i (numbers n (suc at))) (ne_eqb at i (⊎_elim (λ (h : i < at) same. omega arith) (λ (h : at + suc n ≤ i) same. omega arith) out))
    ∙ numbers_out n (suc at) i (⊎_elim (λ (h : i < at). inl (omega arith)) (λ (h : at + suc n ≤ i). inr (omega arith)) out)

numbers_more : (n at : ℕ) → numbers (suc n) at ≡ numbers n at ++ (at + n) ∷ []
numbers_more zero at = ap (λ k. k ∷ []) (omega arith)
numbers_more (suc n) at =
    let last : suc at + n ≡ at + suc n = omega arith in
    ap (λ ks. at ∷ ks) (numbers_more n (suc at) ∙ ap (λ k. numbers n (suc at) ++ k ∷ []) last)

length_numbers : (n at : ℕ) → length (numbers n at) ≡ n
length_numbers zero at = refl
length_numbers (suc n) at = let rest = length_numbers n (suc at) in omega arith

number_behind : (n at i : ℕ) (ys : List ℕ) → at + n ≤ i → with_number i (numbers n at ++ ys) ≡ numbers n at ++ with_number i ys
number_behind zero at i ys behind = refl
number_behind (suc n) at i ys behind =
    ap (λ b. cond b (i ∷ at ∷ (numbers n (suc at) ++ ys)) (cond (i == at) (at ∷ (numbers n (suc at) ++ ys)) (at ∷ with_number i (numbers n (suc at) ++ ys))))
    (not_less i at (omega arith))
    ∙ ap (λ b. cond b (at ∷ (numbers n (suc at) ++ ys)) (at ∷ with_number i (numbers n (suc at) ++ ys))) (ne_eqb i at (λ same. omega arith))
    ∙ ap (λ ks. at ∷ ks) (number_behind n (suc at) i ys (omega arith))
  where
    not_less : (a b : ℕ) → b ≤ a → nat_lt a b ≡ false
    not_less a b h = grind (arith, nat_tests)

-- Bits

apart : (base i j : ℕ) → base ≤ i → i < base + 1024 → base ≤ j → j < base + 1024 → j ≢ i → j % 1024 ≢ i % 1024
apart base i j li hi lj hj other = λ same. omega arith

pub bit_other : (bits : List Bool) (base i j : ℕ) (b : Bool) → base ≤ i → i < base + 1024 → base ≤ j → j < base + 1024 → j ≢ i → bit (with_bit bits i b) j ≡ bit bits j
bit_other bits base i j b li hi lj hj other = get_or-set_other bits (i % 1024) (j % 1024) b false (apart base i j li hi lj hj other)

pub bit_here : (bits : List Bool) (i : ℕ) (b : Bool) → length bits ≡ 1024 → bit (with_bit bits i b) i ≡ b
bit_here bits i b len = get_or-set_same bits (i % 1024) b false (omega arith)

-- What is marked

pub marked_on : (bits : List Bool) (n at : ℕ) → bit bits at ≡ true → marked bits (suc n) at ≡ at ∷ marked bits n (suc at)
unfolding marked
marked_on bits n at on = ap (λ b. cond b (at ∷ marked bits n (suc at)) (marked bits n (suc at))) on

pub marked_off : (bits : List Bool) (n at : ℕ) → bit bits at ≡ false → marked bits (suc n) at ≡ marked bits n (suc at)
unfolding marked
marked_off bits n at off = ap (λ b. cond b (at ∷ marked bits n (suc at)) (marked bits n (suc at))) off

pub marked_none : (bits : List Bool) (at : ℕ) → marked bits 0 at ≡ []
unfolding marked
marked_none bits at = refl

pub marked_same : (bits others : List Bool) (n at : ℕ) → ((j : ℕ) → at ≤ j → j < at + n → bit bits j ≡ bit others j) → marked bits n at ≡ marked others n at
marked_same bits others zero at same = marked_none bits at ∙ sym (marked_none others at)
marked_same bits others (suc n) at same =
    of (bit others at) refl (marked_same bits others n (suc at) (λ j low high. same j (omega arith) (omega arith)))
  where
    of : (b : Bool) → bit others at ≡ b → marked bits n (suc at) ≡ marked others n (suc at) → marked bits (suc n) at ≡ marked others (suc n) at
    of true is rest =
        marked_on bits n at (same at (omega arith) (omega arith) ∙ is) ∙ ap (λ ks. at ∷ ks) rest ∙ sym (marked_on others n at is)
    of false is rest = marked_off bits n at (same at (omega arith) (omega arith) ∙ is) ∙ rest ∙ sym (marked_off others n at is)

pub marked_out : (bits : List Bool) (n at i : ℕ) → (i < at) ⊎ (at + n ≤ i) → is_among i (marked bits n at) ≡ false
marked_out bits zero at i out = ap (is_among i) (marked_none bits at)
marked_out bits (suc n) at i out =
    of (bit bits at) refl
    (marked_out bits n (suc at) i (⊎_elim (λ (h : i < at). inl (omega arith)) (λ (h : at + suc n ≤ i). inr (omega arith)) out))
  where
    of : (b : Bool) → bit bits at ≡ b → is_among i (marked bits n (suc at)) ≡ false → is_among i (marked bits (suc n) at) ≡ false
    of true is rest =
        ap (is_among i) (marked_on bits n at is)
        ∙ ap (λ b. b || is_among i (marked bits n (suc at)))
        (ne_eqb at i (⊎_elim (λ (h : i < at) same. omega arith) (λ (h : at + suc n ≤ i) same. omega arith) out))
        ∙ rest
    of false is rest = ap (is_among i) (marked_off bits n at is) ∙ rest

pub marked_in : (bits : List Bool) (n at i : ℕ) → at ≤ i → i < at + n → is_among i (marked bits n at) ≡ bit bits i
marked_in bits zero at i low high = absurd (omega arith)
marked_in bits (suc n) at i low high =
    ⊎_elim
    (λ (same : at ≡ i). subst (λ k. is_among k (marked bits (suc n) at) ≡ bit bits k) same (here (bit bits at) refl))
    (λ (other : at ≢ i). there other (bit bits at) refl (marked_in bits n (suc at) i (omega arith) (omega arith)))
    (cases_eq at i)
  where
    here : (b : Bool) → bit bits at ≡ b → is_among at (marked bits (suc n) at) ≡ bit bits at
    here true is =
        ap (is_among at) (marked_on bits n at is) ∙ ap (λ b. b || is_among at (marked bits n (suc at))) (eq-eqb at at refl) ∙ sym is
    here false is = ap (is_among at) (marked_off bits n at is) ∙ marked_out bits n (suc at) at (inl (omega arith)) ∙ sym is

    there : at ≢ i → (b : Bool) → bit bits at ≡ b → is_among i (marked bits n (suc at)) ≡ bit bits i → is_among i (marked bits (suc n) at) ≡ bit bits i
    there other true is rest =
        ap (is_among i) (marked_on bits n at is) ∙ ap (λ b. b || is_among i (marked bits n (suc at))) (ne_eqb at i other) ∙ rest
    there other false is rest = ap (is_among i) (marked_off bits n at is) ∙ rest

pub marked_last : (bits : List Bool) (n at : ℕ) → bit bits (at + n) ≡ false → marked bits (suc n) at ≡ marked bits n at
marked_last bits zero at off =
    let here : at + 0 ≡ at = omega arith in
    marked_off bits 0 at (subst (λ k. bit bits k ≡ false) here off) ∙ marked_none bits (suc at) ∙ sym (marked_none bits at)
marked_last bits (suc n) at off =
    let last : at + suc n ≡ suc at + n = omega arith in
    of (bit bits at) refl (marked_last bits n (suc at) (subst (λ k. bit bits k ≡ false) last off))
  where
    of : (b : Bool) → bit bits at ≡ b → marked bits (suc n) (suc at) ≡ marked bits n (suc at) → marked bits (suc (suc n)) at ≡ marked bits (suc n) at
    of true is rest = marked_on bits (suc n) at is ∙ ap (λ ks. at ∷ ks) rest ∙ sym (marked_on bits n at is)
    of false is rest = marked_off bits (suc n) at is ∙ rest ∙ sym (marked_off bits n at is)

-- A bit set

pub less : (a b : ℕ) → a < b → nat_lt a b ≡ true
less a b h = grind (arith, nat_tests)

not_less : (a b : ℕ) → b ≤ a → nat_lt a b ≡ false
not_less a b h = grind (arith, nat_tests)

pub front : (i at : ℕ) (ks : List ℕ) → i < at → with_number i (at ∷ ks) ≡ i ∷ at ∷ ks
front i at ks lower = ap (λ b. cond b (i ∷ at ∷ ks) (cond (i == at) (at ∷ ks) (at ∷ with_number i ks))) (less i at lower)

pub again : (i : ℕ) (ks : List ℕ) → with_number i (i ∷ ks) ≡ i ∷ ks
again i ks =
    ap (λ b. cond b (i ∷ i ∷ ks) (cond (i == i) (i ∷ ks) (i ∷ with_number i ks))) (not_less i i (omega arith))
    ∙ ap (λ b. cond b (i ∷ ks) (i ∷ with_number i ks)) (eq-eqb i i refl)

pub over : (i at : ℕ) (ks : List ℕ) → at < i → with_number i (at ∷ ks) ≡ at ∷ with_number i ks
over i at ks higher =
    ap (λ b. cond b (i ∷ at ∷ ks) (cond (i == at) (at ∷ ks) (at ∷ with_number i ks))) (not_less i at (omega arith))
    ∙ ap (λ b. cond b (at ∷ ks) (at ∷ with_number i ks)) (ne_eqb i at (λ same. omega arith))

front_marked : (bits : List Bool) (n at i : ℕ) → i < at → with_number i (marked bits n at) ≡ i ∷ marked bits n at
front_marked bits zero at i lower = ap (with_number i) (marked_none bits at) ∙ ap (λ ks. i ∷ ks) (sym (marked_none bits at))
front_marked bits (suc n) at i lower = of (bit bits at) refl (front_marked bits n (suc at) i (omega arith))
  where
    of : (b : Bool) → bit bits at ≡ b → with_number i (marked bits n (suc at)) ≡ i ∷ marked bits n (suc at) → with_number i (marked bits (suc n) at) ≡ i ∷ marked bits (suc n) at
    of true is rest =
        ap (with_number i) (marked_on bits n at is) ∙ front i at (marked bits n (suc at)) lower ∙ ap (λ ks. i ∷ ks) (sym (marked_on bits n at is))
    of false is rest = ap (with_number i) (marked_off bits n at is) ∙ rest ∙ ap (λ ks. i ∷ ks) (sym (marked_off bits n at is))

marked_with : (bits : List Bool) (n at i base : ℕ) → length bits ≡ 1024 → base ≤ at → at + n ≤ base + 1024 → at ≤ i → i < at + n → marked (with_bit bits i true) n at ≡ with_number i (marked bits n at)
marked_with bits zero at i base len low most from to = absurd (omega arith)
marked_with bits (suc n) at i base len low most from to =
    ⊎_elim (λ (same : i ≡ at). here same (bit bits at) refl)
    (λ (other : i ≢ at).
    there (omega arith) (bit bits at) refl (marked_with bits n (suc at) i base len (omega arith) (omega arith) (omega arith) (omega arith)))
    (cases_eq i at)
  where
    new : List Bool
    new = with_bit bits i true

    rest_same : i ≡ at → marked new n (suc at) ≡ marked bits n (suc at)
    rest_same same =
        marked_same new bits n (suc at)
        (λ j lower upper. bit_other bits base i j true (omega arith) (omega arith) (omega arith) (omega arith) (λ e. omega arith))

    on : i ≡ at → bit new at ≡ true
    on same = ap (bit new) (sym same) ∙ bit_here bits i true len

    here : i ≡ at → (b : Bool) → bit bits at ≡ b → marked new (suc n) at ≡ with_number i (marked bits (suc n) at)
    here same true is =
        marked_on new n at (on same) ∙ ap (λ ks. at ∷ ks) (rest_same same) ∙ sym (again at (marked bits n (suc at)))
        ∙ ap (λ k. with_number k (at ∷ marked bits n (suc at))) (sym same)
        ∙ ap (with_number i) (sym (marked_on bits n at is))
    here same false is =
        marked_on new n at (on same) ∙ ap (λ ks. at ∷ ks) (rest_same same)
        ∙ sym (front_marked bits n (suc at) at (omega arith))
        ∙ ap (λ k. with_number k (marked bits n (suc at))) (sym same)
        ∙ ap (with_number i) (sym (marked_off bits n at is))

    there : at < i → (b : Bool) → bit bits at ≡ b → marked new n (suc at) ≡ with_number i (marked bits n (suc at)) → marked new (suc n) at ≡ with_number i (marked bits (suc n) at)
    there lower true is rest =
        marked_on new n at (bit_other bits base i at true (omega arith) (omega arith) low (omega arith) (λ e. omega arith) ∙ is)
        ∙ ap (λ ks. at ∷ ks) rest
        ∙ sym (over i at (marked bits n (suc at)) lower)
        ∙ ap (with_number i) (sym (marked_on bits n at is))
    there lower false is rest =
        marked_off new n at (bit_other bits base i at true (omega arith) (omega arith) low (omega arith) (λ e. omega arith) ∙ is)
        ∙ rest
        ∙ ap (with_number i) (sym (marked_off bits n at is))

pub marked_more : (bits : List Bool) (base i : ℕ) → length bits ≡ 1024 → base ≤ i → i < base + 1024 → marked (with_bit bits i true) 1024 base ≡ with_number i (marked bits 1024 base)
marked_more bits base i len from to = marked_with bits 1024 base i base len (omega arith) (omega arith) from to

pub arrived_more : (bits : List Bool) (base i : ℕ) → length bits ≡ 1024 → base ≤ i → i < base + 1024 → arrived_of base (with_bit bits i true) ≡ with_number i (arrived_of base bits)
arrived_more bits base i len from to =
    ap (λ ks. numbers base 0 ++ ks) (marked_more bits base i len from to)
    ∙ sym (number_behind base 0 i (marked bits 1024 base) (omega arith))

-- The base rises

rest_of : (bits : List Bool) (base n : ℕ) → length bits ≡ 1024 → n ≡ 1023 → marked (with_bit bits base false) (suc n) (suc base) ≡ marked bits n (suc base)
rest_of bits base n len is =
    let same : (suc base + n) % 1024 ≡ base % 1024 = omega arith in
    marked_last (with_bit bits base false) n (suc base)
    (ap (λ k. get_or (with_bit bits base false) k false) same ∙ bit_here bits base false len)
    ∙ marked_same (with_bit bits base false) bits n (suc base)
    (λ j low high. bit_other bits base base j false (omega arith) (omega arith) (omega arith) (omega arith) (λ e. omega arith))

pub arrived_step : (bits : List Bool) (base : ℕ) → length bits ≡ 1024 → bit bits base ≡ true → arrived_of (suc base) (with_bit bits base false) ≡ arrived_of base bits
arrived_step bits base len on =
    let first : 0 + base ≡ base = omega arith in
    ap₂ (λ ks ms. ks ++ ms) (numbers_more base 0 ∙ ap (λ k. numbers base 0 ++ k ∷ []) first) (rest_of bits base 1023 len refl)
    ∙ append_assoc (numbers base 0) (base ∷ []) (marked bits 1023 (suc base))
    ∙ ap (λ ks. numbers base 0 ++ ks) (sym (marked_on bits 1023 base on))

-- What has arrived

pub arrived_below : (bits : List Bool) (base i : ℕ) → i < base → is_among i (arrived_of base bits) ≡ true
arrived_below bits base i low =
    list_any-append (λ (m : ℕ). m == i) (numbers base 0) (marked bits 1024 base)
    ∙ ap (λ b. b || is_among i (marked bits 1024 base)) (numbers_in base 0 i (omega arith) (omega arith))

pub arrived_ahead : (bits : List Bool) (base i : ℕ) → base ≤ i → i < base + 1024 → is_among i (arrived_of base bits) ≡ bit bits i
arrived_ahead bits base i low high =
    list_any-append (λ (m : ℕ). m == i) (numbers base 0) (marked bits 1024 base)
    ∙ ap (λ b. b || is_among i (marked bits 1024 base)) (numbers_out base 0 i (inr (omega arith)))
    ∙ marked_in bits 1024 base i low high

pub arrived_beyond : (bits : List Bool) (base i : ℕ) → base + 1024 ≤ i → is_among i (arrived_of base bits) ≡ false
arrived_beyond bits base i high =
    list_any-append (λ (m : ℕ). m == i) (numbers base 0) (marked bits 1024 base)
    ∙ ap (λ b. b || is_among i (marked bits 1024 base)) (numbers_out base 0 i (inr (omega arith)))
    ∙ marked_out bits 1024 base i (inr high)

pub arrived_least : (bits : List Bool) (base : ℕ) → base ≤ length (arrived_of base bits)
arrived_least bits base =
    let front_is = length_numbers base 0 in
    omega (arith, length-append (numbers base 0) (marked bits 1024 base))

first_is : (tries n k : ℕ) (ks : List ℕ) → ((j : ℕ) → n ≤ j → j < k → is_among j ks ≡ true) → is_among k ks ≡ false → n ≤ k → k ≤ n + tries → first_absent tries n ks ≡ k
first_is zero n k ks all none low high = omega arith
first_is (suc tries) n k ks all none low high =
    ⊎_elim
    (λ (same : n ≡ k). ap (λ b. cond b (first_absent tries (suc n) ks) n) (ap (λ m. is_among m ks) same ∙ none) ∙ same)
    (λ (other : n ≢ k).
    ap (λ b. cond b (first_absent tries (suc n) ks) n) (all n (omega arith) (omega arith))
    ∙ first_is tries (suc n) k ks (λ j from to. all j (omega arith) to) none (omega arith) (omega arith))
    (cases_eq n k)

pub base_is : (bits : List Bool) (base : ℕ) → bit bits base ≡ false → first_absent (length (arrived_of base bits)) 0 (arrived_of base bits) ≡ base
base_is bits base off =
    first_is (length (arrived_of base bits)) 0 base (arrived_of base bits) (λ j from to. arrived_below bits base j to)
    (arrived_ahead bits base base (omega arith) (omega arith) ∙ off) (omega arith) (let least = arrived_least bits base in omega arith)

pub final_below : (bits : List Bool) (base i : ℕ) → i < base → is_among i (marked bits 1024 base) ≡ false
final_below bits base i low = marked_out bits 1024 base i (inl low)

pub final_beyond : (bits : List Bool) (base i : ℕ) → base + 1024 ≤ i → is_among i (marked bits 1024 base) ≡ false
final_beyond bits base i high = marked_out bits 1024 base i (inr high)

pub marked_empty : (bits : List Bool) (n at : ℕ) → ((j : ℕ) → bit bits j ≡ false) → marked bits n at ≡ []
marked_empty bits zero at off = marked_none bits at
marked_empty bits (suc n) at off = marked_off bits n at (off at) ∙ marked_empty bits n (suc at) off

pub clear_bit : (bits : List Bool) (id : ℕ) → bits ≡ replicate 1024 false → bit bits id ≡ false
clear_bit bits id is = ap (λ b. get_or b (id % 1024) false) is ∙ get_or-replicate 1024 (id % 1024) false false (omega arith)

pub cleared : (bits : List Bool) (n at : ℕ) → bits ≡ replicate 1024 false → marked bits n at ≡ []
cleared bits n at is = marked_empty bits n at (λ j. clear_bit bits j is)

pub small_more : (n i : ℕ) (ks : List ℕ) → n < 2 ^ 32 → ((j : ℕ) → is_among j ks ≡ true → j < 2 ^ 32) → is_among i (with_number n ks) ≡ true → i < 2 ^ 32
small_more n i ks low all among = of (n == i) refl (sym (among_with n i ks) ∙ among)
  where
    of : (b : Bool) → (n == i) ≡ b → (b || is_among i ks) ≡ true → i < 2 ^ 32
    of true is h = let same = eqb-true n i is in omega arith
    of false is h = all i h
