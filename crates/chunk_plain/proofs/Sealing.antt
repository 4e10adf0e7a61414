-- Bytes that read as fragments: what they depend on, and how their ends grow.
use Rattle.std.proofs.Common.{◌≡◌, ℕ, zero, suc, ◌+◌, ◌-◌, ◌*◌, ◌/◌, ◌%◌, ◌<◌, ◌≤◌, List, [], ◌∷◌, ◌++◌, length, set, get_or, subst, sym, refl, ap, ◌∙◌, arith, length-append}
use Rattle.std.proofs.lemmas.List.{get_or-set_same, get_or-set_other, get_or_append_left}
use Rattle.std.proofs.Math.Seq.{get_or-append_seam}
use Rattle.std.proofs.lemmas.Bool.Decides.{nat_tests}
use native.Mathlib.Decide.{dec_le, ℕ_discrete}
use mathlib.Core.Logic.{dite}
use Rattle.chunk_plain.specs.Payload.{byte_of, byte_at, byte_in, first_bytes, size_at, size_bytes, IsFragment, start_of, sealed_to, HasFragments, end_after, ends_from}

-- a size depends on its own bytes alone
size_at_same : (b c : ℕ → ℕ) (at n : ℕ) → ((j : ℕ) → j < at + n → b j ≡ c j) → size_at b at n ≡ size_at c at n
size_at_same b c at zero same = refl
size_at_same b c at (suc n) same =
    ap (λ x. x % 128 + 128 * size_at b (at + 1) n) (same at (omega arith))
    ∙ ap (λ s. c at % 128 + 128 * s) (size_at_same b c (at + 1) n (λ j below. same j (omega arith)))

-- how long a size is, by its bytes
pub one_byte : (b : ℕ → ℕ) (at : ℕ) → b at < 128 → size_bytes b at ≡ 1
one_byte b at first = grind (arith, nat_tests)

pub two_bytes : (b : ℕ → ℕ) (at : ℕ) → 128 ≤ b at → b (at + 1) < 128 → size_bytes b at ≡ 2
two_bytes b at first second = grind (arith, nat_tests)

pub three_bytes : (b : ℕ → ℕ) (at : ℕ) → 128 ≤ b at → 128 ≤ b (at + 1) → b (at + 2) < 128 → size_bytes b at ≡ 3
three_bytes b at first second third = grind (arith, nat_tests)

pub four_bytes : (b : ℕ → ℕ) (at : ℕ) → 128 ≤ b at → 128 ≤ b (at + 1) → 128 ≤ b (at + 2) → size_bytes b at ≡ 4
four_bytes b at first second third = grind (arith, nat_tests)

size_bytes_same : (b c : ℕ → ℕ) (at : ℕ) → ((j : ℕ) → j < at + size_bytes b at → b j ≡ c j) → (1 ≤ size_bytes b at) × (size_bytes b at ≡ size_bytes c at)
size_bytes_same b c at same =
    dite (dec_le (b at + 1) 128)
    (λ low. let n = one_byte b at (omega arith) in let first = same at (omega arith) in (omega arith, n ∙ sym (one_byte c at (omega arith))))
    (λ high. dite (dec_le (b (at + 1) + 1) 128)
    (λ low. let n = two_bytes b at (omega arith) (omega arith) in let first = same at (omega arith) in let second = same (at + 1) (omega arith) in
    (omega arith, n ∙ sym (two_bytes c at (omega arith) (omega arith))))
    (λ higher. dite (dec_le (b (at + 2) + 1) 128)
    (λ low. let n = three_bytes b at (omega arith) (omega arith) (omega arith) in
    let first = same at (omega arith) in let second = same (at + 1) (omega arith) in let third = same (at + 2) (omega arith) in
    (omega arith, n ∙ sym (three_bytes c at (omega arith) (omega arith) (omega arith))))
    (λ highest. let n = four_bytes b at (omega arith) (omega arith) (omega arith) in
    let first = same at (omega arith) in let second = same (at + 1) (omega arith) in let third = same (at + 2) (omega arith) in
    (omega arith, n ∙ sym (four_bytes c at (omega arith) (omega arith) (omega arith))))))

fragment_same : (b c : ℕ → ℕ) (from to : ℕ) → ((j : ℕ) → j < to → b j ≡ c j) → IsFragment b from to → IsFragment c from to
fragment_same b c from to same f =
    let end = f.end in
    let sizes = size_bytes_same b c from (λ j below. same j (omega arith)) in
    let n = size_bytes b from in
    let some : 1 ≤ n = sizes.0 in
    record {
      low = subst (λ m. c (from + m - 1) < 128) sizes.1 (subst (λ x. x < 128) (same (from + n - 1) (omega arith)) f.low);
      end = end ∙ (ap (λ s. from + n + s) (size_at_same b c from n (λ j below. same j (omega arith))) ∙ ap (λ m. from + m + size_at c from m) sizes.1);
    }

-- fragments depend on the bytes before the last end alone
pub reads_same : (b c : ℕ → ℕ) (ends : List ℕ) → ((j : ℕ) → j < sealed_to ends → b j ≡ c j) → HasFragments b ends → HasFragments c ends
reads_same b c ends same reads = λ k below.
    let f = reads k below in
    (fragment_same b c (start_of ends k) (get_or ends k 0) (λ j less. same j (let most = f.1 in omega arith)) f.0, f.1)

-- at one place begins one fragment
fragment_one : (b : ℕ → ℕ) (from to other : ℕ) → IsFragment b from to → IsFragment b from other → to ≡ other
fragment_one b from to other f g = f.end ∙ sym g.end

same_end : (b : ℕ → ℕ) (old new : List ℕ) (k : ℕ) → HasFragments b old → HasFragments b new → k < length old → k < length new → get_or old k 0 ≡ get_or new k 0
same_end b old new zero before after inside_old inside_new = fragment_one b 0 (get_or old 0 0) (get_or new 0 0) (before 0 inside_old).0 (after 0 inside_new).0
same_end b old new (suc k) before after inside_old inside_new =
    let start : get_or old k 0 ≡ get_or new k 0 = same_end b old new k before after (omega arith) (omega arith) in
    fragment_one b (get_or old k 0) (get_or old (suc k) 0) (get_or new (suc k) 0) (before (suc k) inside_old).0
    (subst (λ s. IsFragment b s (get_or new (suc k) 0)) (sym start) (after (suc k) inside_new).0)

-- the same bytes read as more fragments: the last end doesn't fall
pub ends_grow : (b : ℕ → ℕ) (old new : List ℕ) → HasFragments b old → HasFragments b new → length old ≤ length new → sealed_to old ≤ sealed_to new
ends_grow b [] new before after more = omega arith
ends_grow b (first ∷ ends) new before after more =
    let last : length (first ∷ ends) - 1 < length (first ∷ ends) = omega arith in
    let same = same_end b (first ∷ ends) new (length (first ∷ ends) - 1) before after last (omega arith) in
    let most = (after (length (first ∷ ends) - 1) (omega arith)).1 in
    omega (arith, same, most)

pub length-ends_from : (b : ℕ → ℕ) (at n : ℕ) → length (ends_from b at n) ≡ n
length-ends_from b at zero = refl
length-ends_from b at (suc n) = ap suc (length-ends_from b (end_after b at) n)

pub length-first_bytes : (b : ℕ → ℕ) (n : ℕ) → length (first_bytes b n) ≡ n
length-first_bytes b zero = refl
length-first_bytes b (suc n) = length-append (first_bytes b n) (b n ∷ []) ∙ (let tail = length-first_bytes b n in omega arith)

pub first_byte : (b : ℕ → ℕ) (n j : ℕ) → j < n → byte_in (first_bytes b n) j ≡ b j
first_byte b zero j below = absurd (omega arith)
first_byte b (suc n) j below =
    let many = length-first_bytes b n in
    dite (ℕ_discrete j n)
    (λ same. ap (λ i. byte_in (first_bytes b n ++ b n ∷ []) i) (same ∙ sym many) ∙ (get_or-append_seam (first_bytes b n) (b n) [] 0 ∙ ap b (sym same)))
    (λ differs. get_or_append_left (first_bytes b n) (b n ∷ []) 0 j (omega arith) ∙ first_byte b n j (omega arith))

-- a byte of words of which one is stored
pub byte_stored : (words : List ℕ) (index word j : ℕ) → index < length words → j / 8 ≡ index → byte_at (set words index word) j ≡ byte_of word (j % 8)
byte_stored words index word j inside is =
    ap (λ i. byte_of (get_or (set words index word) i 0) (j % 8)) is ∙ ap (λ w. byte_of w (j % 8)) (get_or-set_same words index word 0 inside)

pub byte_left : (words : List ℕ) (index word j : ℕ) → (j / 8 ≡ index → ⊥) → byte_at (set words index word) j ≡ byte_at words j
byte_left words index word j differs = ap (λ w. byte_of w (j % 8)) (get_or-set_other words index (j / 8) word 0 differs)

-- where the stored word keeps each byte below a limit, all bytes below it stay
pub word_bytes : (words : List ℕ) (index word limit : ℕ) → ((m : ℕ) → m < 8 → 8 * index + m < limit → byte_of word m ≡ byte_of (get_or words index 0) m) → index < length words
    → (j : ℕ) → j < limit → byte_at (set words index word) j ≡ byte_at words j
word_bytes words index word limit keep inside j below =
    dite (ℕ_discrete (j / 8) index)
    (λ same. byte_stored words index word j inside same
    ∙ (keep (j % 8) (omega arith) (omega arith) ∙ ap (λ i. byte_of (get_or words i 0) (j % 8)) (sym same)))
    (λ differs. byte_left words index word j differs)
