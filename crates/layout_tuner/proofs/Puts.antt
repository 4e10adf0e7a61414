-- Functions that differ at one place, sums over the first numbers, and the numbers of chunks.
use Rattle.std.proofs.Common.{◌≡◌, ◌≢◌, ℕ, zero, suc, ◌+◌, ◌<◌, ◌≤◌, subst, sym, refl, ap, arith, eq-eqb, ne_eqb}
use Rattle.std.specs.Prelude.{if◌then◌else◌}
use native.Mathlib.Decide.{ℕ_discrete}
use mathlib.Core.Logic.{dite}
use Rattle.layout_tuner.specs.PageWords.{chunks_of}
use Rattle.layout_tuner.specs.World.{put, total}

pub put_here : {A : Type 0} (f : ℕ → A) (place : ℕ) (value : A) (other : ℕ) → other ≡ place → put f place value other ≡ value
put_here f place value other same = ap (λ b. if b then value else f other) (eq-eqb other place same)

pub put_else : {A : Type 0} (f : ℕ → A) (place : ℕ) (value : A) (other : ℕ) → other ≢ place → put f place value other ≡ f other
put_else f place value other differs = ap (λ b. if b then value else f other) (ne_eqb other place differs)

-- what holds of the new value at its place, and of each other one at its own
pub put_at : {A : Type 0} (P : ℕ → A → Type 0) (f : ℕ → A) (place : ℕ) (value : A) (other : ℕ) → P place value → (other ≢ place → P other (f other)) → P other (put f place value other)
put_at P f place value other here else_ = dite (ℕ_discrete other place)
    (λ same. subst (P other) (sym (put_here f place value other same)) (subst (λ o. P o value) (sym same) here))
    (λ differs. subst (P other) (sym (put_else f place value other differs)) (else_ differs))

-- ---- sums

pub total-same : (n : ℕ) (f g : ℕ → ℕ) → ((k : ℕ) → k < n → f k ≡ g k) → total n f ≡ total n g
total-same zero f g same = refl
total-same (suc n) f g same = let tail = total-same n f g (λ k below. same k (omega (arith, below))) in let last = same n (omega arith) in omega (arith, tail, last)

pub total-le : (n : ℕ) (f g : ℕ → ℕ) → ((k : ℕ) → k < n → f k ≤ g k) → total n f ≤ total n g
total-le zero f g most = omega arith
total-le (suc n) f g most = let tail = total-le n f g (λ k below. most k (omega (arith, below))) in let last = most n (omega arith) in omega (arith, tail, last)

-- one summand changes
pub total-change : (n : ℕ) (f g : ℕ → ℕ) (one : ℕ) → one < n → ((k : ℕ) → k ≢ one → g k ≡ f k) → total n g + f one ≡ total n f + g one
total-change zero f g one inside others = absurd (omega (arith, inside))
total-change (suc n) f g one inside others = dite (ℕ_discrete one n)
    (λ same. let rest = total-same n g f (λ k below. others k (λ e. absurd (omega (arith, below, e, same)))) in
    subst (λ m. total n g + g n + f m ≡ total n f + f n + g m) (sym same) (omega (arith, rest)))
    (λ differs. let tail = total-change n f g one (omega (arith, inside, differs)) others in let last = others n (λ e. differs (sym e)) in omega (arith, tail, last))

-- ---- numbers of chunks

-- what holds of each layout
pub each_layout : (P : ℕ → Type 0) (layout : ℕ) → 1 ≤ layout → layout ≤ 5 → P 1 → P 2 → P 3 → P 4 → P 5 → P layout
each_layout P zero least most one two three four five = absurd (omega (arith, least))
each_layout P (suc zero) least most one two three four five = one
each_layout P (suc (suc zero)) least most one two three four five = two
each_layout P (suc (suc (suc zero))) least most one two three four five = three
each_layout P (suc (suc (suc (suc zero)))) least most one two three four five = four
each_layout P (suc (suc (suc (suc (suc zero))))) least most one two three four five = five
each_layout P (suc (suc (suc (suc (suc (suc layout)))))) least most one two three four five = absurd (omega (arith, most))

pub some_chunks : (layout : ℕ) → 1 ≤ layout → layout ≤ 5 → 1 ≤ chunks_of layout
some_chunks layout least most = each_layout (λ l. 1 ≤ chunks_of l) layout least most (omega arith) (omega arith) (omega arith) (omega arith) (omega arith)

pub few_chunks : (layout : ℕ) → 1 ≤ layout → layout ≤ 5 → chunks_of layout ≤ 14
few_chunks layout least most = each_layout (λ l. chunks_of l ≤ 14) layout least most (omega arith) (omega arith) (omega arith) (omega arith) (omega arith)
