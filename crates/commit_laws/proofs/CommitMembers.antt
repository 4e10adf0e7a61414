-- Commits that are those of a writer's pages in whatever order: what holds of each of the one holds of each of the other.
use Rattle.std.proofs.Common.{◌≡◌, ◌∙◌, ℕ, suc, ◌+◌, ◌<◌, ◌≤◌, Bool, true, false, ◌||◌, All, List, [], ◌∷◌, ◌++◌, length, Some, refl, sym, ap, subst, arith}
use Rattle.std.specs.Prelude.{cond, ◌==◌, IsPermutation, slice_get, sum_by}
use Rattle.std.specs.List.{list_any}
use Rattle.std.proofs.lemmas.Bool.{eqb-false, eqb-true, ne_eqb}
use Rattle.std.proofs.lemmas.List.Elements.{All-cons, All-head, All-nil, All-tail}
use Rattle.std.proofs.lemmas.List.Folds.{list_any-append}
use Rattle.std.proofs.lemmas.List.Sorted.{All-permutation, IsPermutation-sym, list_any-IsPermutation, sum_by-IsPermutation}
use Rattle.std.proofs.lemmas.List.Sums.{sum_by-cons}
use Rattle.trace_model.specs.Images.{Patch}
use Rattle.trace_model.specs.Pages.{Page, image_of, patches_of}
use Rattle.trace_model.proofs.CursorLemmas.{Each, each-append}
use Rattle.commit_laws.specs.Commits.{Commit, page_commits, patches_brought}

each_all : {X : Type 0} (P : X → Type 0) (xs : List X) → Each P xs → All P xs
each_all P [] h = All-nil P
each_all P (x ∷ xs) h = All-cons P x xs h.0 (each_all P xs h.1)

all_each : {X : Type 0} (P : X → Type 0) (xs : List X) → All P xs → Each P xs
all_each P [] h = tt
all_each P (x ∷ xs) h = (All-head P x xs h, all_each P xs (All-tail P x xs h))

pub each_behind : {X : Type 0} (P : X → Type 0) (xs ys : List X) → Each P (xs ++ ys) → Each P ys
each_behind P [] ys h = h
each_behind P (x ∷ xs) ys h = each_behind P xs ys h.1

pub each_before : {X : Type 0} (P : X → Type 0) (xs ys : List X) → Each P (xs ++ ys) → Each P xs
each_before P [] ys h = tt
each_before P (x ∷ xs) ys h = (h.0, each_before P xs ys h.1)

pub each_permuted : {X : Type 0} (P : X → Type 0) (xs ys : List X) → IsPermutation xs ys → Each P ys → Each P xs
each_permuted P xs ys permuted h = all_each P xs (All-permutation P ys xs (IsPermutation-sym xs ys permuted) (each_all P ys h))

-- the commit is that of the page with its id
pub record IsOfPage (q : ℕ) (pages : List Page) (commit : Commit) : Type 0 where
  pub page : Page
  pub get : slice_get pages commit.image.chunk_id ≡ Some page
  pub image : commit.image ≡ image_of q commit.image.chunk_id page
  pub patches : commit.patches ≡ page.patches

-- how many of the commits bring the image with this id
abbrev pub times : ℕ → List Commit → ℕ
times i commits = sum_by (λ (commit : Commit). cond (commit.image.chunk_id == i) 1 0) commits

pub times-cons : (i : ℕ) (commit : Commit) (commits : List Commit) → times i (commit ∷ commits) ≡ cond {A = ℕ} (commit.image.chunk_id == i) 1 0 + times i commits
times-cons i commit commits = sum_by-cons (λ (c : Commit). cond {A = ℕ} (c.image.chunk_id == i) 1 0) commit commits

-- The commits of pages in their order

of_pages : (q : ℕ) (all : List Page) (pages : List Page) (first : ℕ) → ((i : ℕ) (page : Page) → slice_get pages i ≡ Some page → slice_get all (first + i) ≡ Some page)
    → Each (IsOfPage q all) (page_commits q first pages)
of_pages q all [] first there = tt
of_pages q all (page ∷ pages) first there =
    let at : first + 0 ≡ first = omega arith in (
      record { page = page; get = subst (λ (n : ℕ). slice_get all n ≡ Some page) at (there 0 page refl); image = refl; patches = refl },
      of_pages q all pages (suc first) (λ i other get.
          let behind : first + suc i ≡ suc first + i = omega arith in
          subst (λ (n : ℕ). slice_get all n ≡ Some other) behind (there (suc i) other get)),
    )

times_before : (q : ℕ) (pages : List Page) (first i : ℕ) → i < first → times i (page_commits q first pages) ≡ 0
times_before q [] first i low = refl
times_before q (page ∷ pages) first i low =
    let rest = times_before q pages (suc first) i (omega (arith, low)) in
    let one = times-cons i (record { image = image_of q first page; patches = page.patches }) (page_commits q (suc first) pages) in
    let none = ap (λ (b : Bool). cond {A = ℕ} b 1 0) (ne_eqb first i (λ e. omega (arith, e, low))) in
    omega (arith, rest, one, none)

times_most : (q : ℕ) (pages : List Page) (first i : ℕ) → times i (page_commits q first pages) ≤ 1
times_most q [] first i = omega arith
times_most q (page ∷ pages) first i =
    by_first (first == i) refl (times_most q pages (suc first) i) (times-cons i (record { image = image_of q first page; patches = page.patches }) (page_commits q (suc first) pages))
  where
    by_first : (b : Bool) → (first == i) ≡ b → times i (page_commits q (suc first) pages) ≤ 1
        → times i (page_commits q first (page ∷ pages)) ≡ cond {A = ℕ} (first == i) 1 0 + times i (page_commits q (suc first) pages)
        → times i (page_commits q first (page ∷ pages)) ≤ 1
    by_first true e rest one =
        let same : first ≡ i = eqb-true first i e in
        let none = times_before q pages (suc first) i (omega (arith, same)) in
        let here = ap (λ (b : Bool). cond {A = ℕ} b 1 0) e in
        omega (arith, one, none, here)
    by_first false e rest one = let here = ap (λ (b : Bool). cond {A = ℕ} b 1 0) e in omega (arith, one, rest, here)

times_some : (q : ℕ) (pages : List Page) (first i : ℕ) → first ≤ i → i < first + length pages → 1 ≤ times i (page_commits q first pages)
times_some q [] first i low high = absurd (omega (arith, low, high))
times_some q (page ∷ pages) first i low high =
    by_first (first == i) refl (λ l. times_some q pages (suc first) i l (omega (arith, high))) (times-cons i (record { image = image_of q first page; patches = page.patches }) (page_commits q (suc first) pages))
  where
    by_first : (b : Bool) → (first == i) ≡ b → (suc first ≤ i → 1 ≤ times i (page_commits q (suc first) pages))
        → times i (page_commits q first (page ∷ pages)) ≡ cond {A = ℕ} (first == i) 1 0 + times i (page_commits q (suc first) pages)
        → 1 ≤ times i (page_commits q first (page ∷ pages))
    by_first true e rest one = let here = ap (λ (b : Bool). cond {A = ℕ} b 1 0) e in omega (arith, one, here)
    by_first false e rest one =
        let other : first ≡ i → ⊥ = eqb-false first i e in
        let more = rest (grind (arith, low, other)) in
        omega (arith, one, more)

-- The patches that commits bring

pub each_brought : (P : Patch → Type 0) (commits : List Commit) → Each (λ (commit : Commit). Each P commit.patches) commits → Each P (patches_brought commits)
each_brought P [] h = tt
each_brought P (commit ∷ commits) h = each-append P commit.patches (patches_brought commits) h.0 (each_brought P commits h.1)

pages_brought : (P : Patch → Type 0) (q : ℕ) (pages : List Page) (first : ℕ) → Each P (patches_of pages) → Each (λ (commit : Commit). Each P commit.patches) (page_commits q first pages)
pages_brought P q [] first h = tt
pages_brought P q (page ∷ pages) first h = (each_before P page.patches (patches_of pages) h, pages_brought P q pages (suc first) (each_behind P page.patches (patches_of pages) h))

any_brought : (test : Patch → Bool) (commits : List Commit) → list_any test (patches_brought commits) ≡ list_any (λ (commit : Commit). list_any test commit.patches) commits
any_brought test [] = refl
any_brought test (commit ∷ commits) =
    list_any-append test commit.patches (patches_brought commits)
    ∙ ap (λ (b : Bool). list_any test commit.patches || b) (any_brought test commits)

brought_of : (q : ℕ) (pages : List Page) (first : ℕ) → patches_brought (page_commits q first pages) ≡ patches_of pages
brought_of q [] first = refl
brought_of q (page ∷ pages) first = ap (λ (ps : List Patch). page.patches ++ ps) (brought_of q pages (suc first))

module _ (q : ℕ) (pages : List Page) (commits : List Commit) (permuted : IsPermutation commits (page_commits q 0 pages)) where
  pub all_of_pages : Each (IsOfPage q pages) commits
  all_of_pages =
      each_permuted (IsOfPage q pages) commits (page_commits q 0 pages) permuted
      (of_pages q pages pages 0 (λ i page get. let at : 0 + i ≡ i = omega arith in subst (λ (n : ℕ). slice_get pages n ≡ Some page) (sym at) get))

  pub each_once : (i : ℕ) → times i commits ≤ 1
  each_once i =
      let same = sum_by-IsPermutation (λ (c : Commit). cond {A = ℕ} (c.image.chunk_id == i) 1 0) commits (page_commits q 0 pages) permuted in
      let most = times_most q pages 0 i in
      omega (arith, same, most)

  pub all_there : (i : ℕ) → i < length pages → 1 ≤ times i commits
  all_there i low =
      let same = sum_by-IsPermutation (λ (c : Commit). cond {A = ℕ} (c.image.chunk_id == i) 1 0) commits (page_commits q 0 pages) permuted in
      let some = times_some q pages 0 i (omega arith) (omega (arith, low)) in
      omega (arith, same, some)

  pub each_patch : (P : Patch → Type 0) → Each P (patches_of pages) → Each P (patches_brought commits)
  each_patch P h =
      each_brought P commits (each_permuted (λ (commit : Commit). Each P commit.patches) commits (page_commits q 0 pages) permuted (pages_brought P q pages 0 h))

  pub any_patch : (test : Patch → Bool) → list_any test (patches_brought commits) ≡ list_any test (patches_of pages)
  any_patch test =
      any_brought test commits
      ∙ list_any-IsPermutation (λ (commit : Commit). list_any test commit.patches) commits (page_commits q 0 pages) permuted
      ∙ sym (any_brought test (page_commits q 0 pages))
      ∙ ap (list_any test) (brought_of q pages 0)
