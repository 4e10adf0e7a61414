-- The form of a line by its first words and what stands behind them.
use Rattle.std.proofs.Common.{◌≡◌, ℕ, Some, None, List, ◌∷◌, refl, sym, subst}
use Rattle.scenario_text.specs.Pieces.{pieces, pieces_behind}
use Rattle.scenario_text.specs.Forms.{form_of_words, long_form, more_words, one_word, two_words, three_words, four_words, six_words, late_words}
use Rattle.scenario_text.specs.RawForms.{patch_form, raw_words}
use Rattle.scenario_text.proofs.PieceLemmas.{has_piece}

pub first_word : (word : List ℕ) → form_of_words (word ∷ pieces_behind 32 None) ≡ one_word word
unfolding form_of_words pieces_behind
first_word word = refl

pub second_word : (word second : List ℕ) → form_of_words (word ∷ second ∷ pieces_behind 32 None) ≡ two_words word second
unfolding form_of_words pieces_behind
second_word word second = refl

pub several_words : (word second behind : List ℕ)
    → form_of_words (word ∷ second ∷ pieces_behind 32 (Some behind)) ≡ long_form word second (pieces 32 behind)
unfolding form_of_words pieces_behind
several_words word second behind =
    let has = has_piece 32 behind in
    subst (λ (words : List (List ℕ)). form_of_words (word ∷ second ∷ words) ≡ long_form word second words) (sym has.are) refl

pub third_word : (word second third : List ℕ) → more_words word second (third ∷ pieces_behind 32 None) ≡ three_words word second third
unfolding more_words pieces_behind
third_word word second third = refl

pub fourth_word : (word second third fourth : List ℕ)
    → more_words word second (third ∷ fourth ∷ pieces_behind 32 None) ≡ four_words word second third fourth
unfolding more_words pieces_behind
fourth_word word second third fourth = refl

pub fifth_word : (word second third fourth behind : List ℕ)
    → more_words word second (third ∷ fourth ∷ pieces_behind 32 (Some behind)) ≡ late_words word second third fourth (pieces 32 behind)
unfolding more_words pieces_behind
fifth_word word second third fourth behind =
    let has = has_piece 32 behind in
    subst (λ (words : List (List ℕ)). more_words word second (third ∷ fourth ∷ words) ≡ late_words word second third fourth words) (sym has.are) refl

pub no_sixth_word : (word second third fourth fifth : List ℕ) → late_words word second third fourth (fifth ∷ pieces_behind 32 None) ≡ None
unfolding late_words pieces_behind
no_sixth_word word second third fourth fifth = refl

pub sixth_word : (word second third fourth fifth sixth : List ℕ)
    → late_words word second third fourth (fifth ∷ sixth ∷ pieces_behind 32 None) ≡ six_words word second third fourth fifth sixth
unfolding late_words pieces_behind
sixth_word word second third fourth fifth sixth = refl

pub seventh_word : (word second third fourth fifth sixth behind : List ℕ)
    → late_words word second third fourth (fifth ∷ sixth ∷ pieces_behind 32 (Some behind)) ≡ None
unfolding late_words pieces_behind
seventh_word word second third fourth fifth sixth behind =
    let has = has_piece 32 behind in
    subst (λ (words : List (List ℕ)). late_words word second third fourth (fifth ∷ sixth ∷ words) ≡ None) (sym has.are) refl

-- ---- the words of a line `raw`: too few, or more than a patch has

pub patch_of_one : (first : List ℕ) → patch_form (first ∷ pieces_behind 32 None) ≡ None
unfolding patch_form pieces_behind
patch_of_one first = refl

pub patch_of_two : (first second : List ℕ) → patch_form (first ∷ second ∷ pieces_behind 32 None) ≡ None
unfolding patch_form pieces_behind
patch_of_two first second = refl

pub patch_of_three : (first second third : List ℕ) → patch_form (first ∷ second ∷ third ∷ pieces_behind 32 None) ≡ None
unfolding patch_form pieces_behind
patch_of_three first second third = refl

pub patch_of_more : (first second third fourth behind : List ℕ)
    → patch_form (first ∷ second ∷ third ∷ fourth ∷ pieces_behind 32 (Some behind)) ≡ None
unfolding patch_form pieces_behind
patch_of_more first second third fourth behind =
    let has = has_piece 32 behind in
    subst (λ (words : List (List ℕ)). patch_form (first ∷ second ∷ third ∷ fourth ∷ words) ≡ None) (sym has.are) refl

pub raw_of_one : (writer first : List ℕ) → raw_words writer (first ∷ pieces_behind 32 None) ≡ None
unfolding raw_words pieces_behind
raw_of_one writer first = refl

pub raw_of_two : (writer first second : List ℕ) → raw_words writer (first ∷ second ∷ pieces_behind 32 None) ≡ None
unfolding raw_words pieces_behind
raw_of_two writer first second = refl

pub raw_of_three : (writer first second third : List ℕ) → raw_words writer (first ∷ second ∷ third ∷ pieces_behind 32 None) ≡ None
unfolding raw_words pieces_behind
raw_of_three writer first second third = refl

pub raw_of_four : (writer first second third fourth : List ℕ)
    → raw_words writer (first ∷ second ∷ third ∷ fourth ∷ pieces_behind 32 None) ≡ None
unfolding raw_words pieces_behind
raw_of_four writer first second third fourth = refl
