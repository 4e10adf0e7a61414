-- Where each writer answers with what was taken of it, the sums are those of first answers and, without one, of what was taken.
use Rattle.std.proofs.Common.{◌≡◌, ◌∙◌, ℕ, zero, suc, ◌+◌, ◌<◌, ◌≤◌, ◌⊎◌, inl, inr, true, Option, Some, None, List, [], ◌∷◌, ◌++◌, length, replicate, refl, sym, ap, subst, arith, append_assoc, append-nil, length-append}
use Rattle.std.specs.Prelude.{unwrap_or, slice_get, vec_len}
use Rattle.std.proofs.lemmas.Bool.{cases_eq, eq-eqb}
use Rattle.std.proofs.lemmas.List.{length-replicate}
use Rattle.std.proofs.lemmas.Option.{slice_get_within, get_or_from_slice_get}
use Rattle.chunk_plain.specs.Views.{Taken, none_taken, ServiceView, taken_of}
use Rattle.replay_model.specs.ActNotes.{ActNote, Requested, Answered, Told}
use Rattle.replay_model.specs.Flushes.{first_answer, chunks_answered, flush_sums}
use Rattle.replay_host.specs.declared.flushes.Flushes.{Flushes}
use Rattle.replay_host.specs.Counting.{answers_to}
use Rattle.replay_host.specs.Tally.{nobody, IsTally}
use Rattle.replay_host.proofs.TallyLemmas.{answer_behind, first_behind, first_other}

-- ---- the first answer of each

-- a writer that hasn't answered yet has its first answer among the notes
first_still : (view : ServiceView) (place : ℕ) (notes : List ActNote) (n : ℕ) → n ≤ place
    → first_answer place (notes ++ answers_to view n) ≡ first_answer place notes
first_still view place notes zero before = ap (λ (all : List ActNote). first_answer place all) (append-nil notes)
first_still view place notes (suc n) before =
    ap (λ (all : List ActNote). first_answer place all)
    (sym (append_assoc notes (answers_to view n) (Answered n (taken_of view n).count ∷ [])))
    ∙ first_other place n (taken_of view n).count (notes ++ answers_to view n) (λ same. omega (arith, before, same))
    ∙ first_still view place notes n (omega (arith, before))

-- an answer behind others counts where there is none before it
answer_counts : (first : Option ℕ) (chunks : ℕ) → answer_behind first true chunks ≡ Some (unwrap_or first chunks)
answer_counts None chunks = refl
answer_counts (Some one) chunks = refl

-- each that has answered has its first answer, or else what was taken of it
pub first_is : (view : ServiceView) (place : ℕ) (notes : List ActNote) (n : ℕ) → place < n
    → first_answer place (notes ++ answers_to view n) ≡ Some (unwrap_or (first_answer place notes) (taken_of view place).count)
first_is view place notes zero below = absurd (omega (arith, below))
first_is view place notes (suc n) below =
    ap (λ (all : List ActNote). first_answer place all)
    (sym (append_assoc notes (answers_to view n) (Answered n (taken_of view n).count ∷ [])))
    ∙ by_place (cases_eq n place) (λ apart. first_is view place notes n (omega (arith, below, apart)))
  where
    by_place : (n ≡ place) ⊎ (n ≡ place → ⊥)
        → ((n ≡ place → ⊥) → first_answer place (notes ++ answers_to view n)
        ≡ Some (unwrap_or (first_answer place notes) (taken_of view place).count))
        → first_answer place ((notes ++ answers_to view n) ++ Answered n (taken_of view n).count ∷ [])
        ≡ Some (unwrap_or (first_answer place notes) (taken_of view place).count)
    by_place (inl same) rest =
        first_behind place n (taken_of view n).count (notes ++ answers_to view n)
        ∙ ap (λ b. answer_behind (first_answer place (notes ++ answers_to view n)) b (taken_of view n).count) (eq-eqb n place same)
        ∙ ap (λ (o : Option ℕ). answer_behind o true (taken_of view n).count) (first_still view place notes n (omega (arith, same)))
        ∙ answer_counts (first_answer place notes) (taken_of view n).count
        ∙ ap (λ (p : ℕ). Some (unwrap_or (first_answer place notes) (taken_of view p).count)) same
    by_place (inr apart) rest = first_other place n (taken_of view n).count (notes ++ answers_to view n) apart ∙ rest apart

-- ---- the sums

-- the sum over the writers from this place on
sum_rest : (view : ServiceView) (notes : List ActNote) (n place : ℕ) (taken : List Taken)
    → ((k : ℕ) (one : Taken) → slice_get taken k ≡ Some one → (place + k < n) × (taken_of view (place + k) ≡ one))
    → chunks_answered (notes ++ answers_to view n) place (nobody (length taken)) ≡ chunks_answered notes place taken
sum_rest view notes n place [] each = refl
sum_rest view notes n place (one ∷ taken) each =
    let here : place + 0 ≡ place = omega arith in
    let at = each 0 one refl in
    let low = at.0 in
    let head : unwrap_or (first_answer place (notes ++ answers_to view n)) 0 ≡ unwrap_or (first_answer place notes) one.count =
    ap (λ (o : Option ℕ). unwrap_or o 0) (first_is view place notes n (omega (arith, low)))
    ∙ ap (λ (t : Taken). unwrap_or (first_answer place notes) t.count) (ap (λ (p : ℕ). taken_of view p) (sym here) ∙ at.1) in
    let rest = sum_rest view notes n (suc place) taken
    (λ k other there.
    let next = each (suc k) other there in
    let same : place + suc k ≡ suc place + k = omega arith in
    (subst (λ (p : ℕ). p < n) same next.0, ap (λ (p : ℕ). taken_of view p) (sym same) ∙ next.1)) in
    omega (arith, head, rest)

-- answers make no request
no_request : (taken : List Taken) (notes : List ActNote) (place chunks : ℕ) → flush_sums notes taken ≡ []
    → flush_sums (notes ++ Answered place chunks ∷ []) taken ≡ []
no_request taken [] place chunks none = refl
no_request taken (Requested ∷ notes) place chunks none = absurd (let never = none in cc)
no_request taken (Answered other count ∷ notes) place chunks none = no_request taken notes place chunks none
no_request taken (Told answer ∷ notes) place chunks none = no_request taken notes place chunks none

none_made : (view : ServiceView) (taken : List Taken) (n : ℕ) → flush_sums (answers_to view n) taken ≡ []
none_made view taken zero = refl
none_made view taken (suc n) = no_request taken (answers_to view n) n (taken_of view n).count (none_made view taken n)

-- what was taken of each, by its place
taken_each : (view : ServiceView) (n : ℕ) → n ≡ length view.taken → (k : ℕ) (one : Taken) → slice_get view.taken k ≡ Some one
    → (0 + k < n) × (taken_of view (0 + k) ≡ one)
taken_each view n long k one at =
    let inside = slice_get_within view.taken k one at in
    let here : 0 + k ≡ k = omega arith in
    (omega (arith, inside, long), ap (λ (p : ℕ). taken_of view p) here ∙ get_or_from_slice_get view.taken k one none_taken at)

-- the sums behind the answers of all are those with what was taken
pub sums_rest : (view : ServiceView) (n : ℕ) → n ≡ length view.taken → (notes : List ActNote)
    → flush_sums (notes ++ answers_to view n) (nobody n) ≡ flush_sums notes view.taken
sums_rest view n long [] = none_made view (nobody n) n
sums_rest view n long (Answered place chunks ∷ notes) = sums_rest view n long notes
sums_rest view n long (Told answer ∷ notes) = sums_rest view n long notes
sums_rest view n long (Requested ∷ notes) =
    ap (λ (m : ℕ). chunks_answered (notes ++ answers_to view n) 0 (nobody m) ∷ flush_sums (notes ++ answers_to view n) (nobody n)) long
    ∙ ap (λ (sum : ℕ). sum ∷ flush_sums (notes ++ answers_to view n) (nobody n))
    (sum_rest view notes n 0 view.taken (taken_each view n long))
    ∙ ap (λ (sums : List ℕ). chunks_answered notes 0 view.taken ∷ sums) (sums_rest view n long notes)

-- ---- what is kept of them

-- where all for which there was room were made, what is kept are the sums
pub none_over : (notes : List ActNote) (writers : ℕ) (flushes : Flushes) → IsTally notes writers flushes
    → flushes.made ≡ vec_len flushes.chunks
    → vec_len flushes.chunks ≡ length flushes.chunks.items → flushes.chunks.items ≡ flush_sums notes (nobody writers)
none_over notes writers flushes tally made joined =
    let sums : List ℕ = flush_sums notes (nobody writers) in
    let long : length flushes.chunks.items ≡ length sums + tally.room =
    ap (λ (xs : List ℕ). length xs) tally.chunks ∙ length-append sums (replicate tally.room 0)
    ∙ ap (λ (n : ℕ). length sums + n) (length-replicate tally.room 0) in
    let said = tally.made in
    let none : tally.room ≡ 0 = omega (arith, long, said, made, joined) in
    tally.chunks ∙ ap (λ (n : ℕ). sums ++ replicate n 0) none ∙ append-nil sums
