-- The commits of a stream that are left behind those that came.
use Rattle.std.proofs.Common.{◌≡◌, ◌∙◌, ℕ, suc, ◌+◌, ◌<◌, ◌≤◌, ◌⊎◌, Bool, true, false, ◌||◌, List, [], ◌∷◌, ◌++◌, length, refl, sym, ap, subst, arith, inl, inr, append_assoc}
use Rattle.std.specs.Prelude.{cond, ◌==◌}
use Rattle.std.specs.List.{list_all}
use Rattle.std.proofs.lemmas.Bool.{and_parts, eq-eqb, eqb-true}
use Rattle.trace_model.specs.Images.{Patch}
use Rattle.trace_model.specs.Pages.{Page}
use Rattle.trace_model.specs.Sent.{is_placed}
use Rattle.trace_model.specs.Sequences.{is_among, with_number}
use Rattle.trace_model.proofs.CursorLemmas.{Each, each-append, each-then}
use Rattle.trace_model.proofs.SequenceLemmas.{among_more, among_new, among_with}
use Rattle.commit_laws.specs.Commits.{Commit, LastsComeLast, PatchesComeBehind, patches_brought}
use Rattle.commit_laws.proofs.CommitMembers.{IsOfPage, each_behind, times, times-cons}

module _ (q : ℕ) (pages : List Page) (whole : List Patch) where
  -- What is known of the commits that are left: these ids came, once each, with these patches.
  pub record IsLeft (came others : List ℕ) (done : List Patch) (commits : List Commit) : Type 0 where
    pub all : whole ≡ done ++ patches_brought commits
    pub done_came : Each (λ (patch : Patch). is_among patch.chunk_id came ≡ true) done
    pub same : (n : ℕ) → is_among n others ≡ true → is_among n came ≡ true
    pub once : (i : ℕ) → is_among i came ≡ true → times i commits ≡ 0
    pub most : (i : ℕ) → times i commits ≤ 1
    pub left : (i : ℕ) → i < length pages → (is_among i came ≡ true) ⊎ (1 ≤ times i commits)
    pub are : Each (IsOfPage q pages) commits
    pub placed : Each (λ (patch : Patch). is_placed pages patch ≡ true) (patches_brought commits)
    pub behind : PatchesComeBehind others commits
    pub lasts : LastsComeLast (patches_brought commits)

  -- The first of these commits: its id is new, and so much is left behind it.
  pub record IsFirst (came others : List ℕ) (done : List Patch) (commit : Commit) (commits : List Commit) : Type 0 where
    pub absent : is_among commit.image.chunk_id came ≡ false
    pub rest : IsLeft (with_number commit.image.chunk_id came) (commit.image.chunk_id ∷ others) (done ++ commit.patches) commits

  pub first_left : (came others : List ℕ) (done : List Patch) (commit : Commit) (commits : List Commit) → IsLeft came others done (commit ∷ commits) → IsFirst came others done commit commits
  first_left came others done commit commits is = record {
    absent = absent;
    rest = record {
      all = is.all ∙ sym (append_assoc done commit.patches (patches_brought commits));
      done_came = each-append (λ (patch : Patch). is_among patch.chunk_id (with_number id came) ≡ true) done commit.patches
          (each-then (λ (patch : Patch). is_among patch.chunk_id came ≡ true) (λ (patch : Patch). is_among patch.chunk_id (with_number id came) ≡ true)
          (λ patch h. among_more patch.chunk_id id came h) done is.done_came)
          (own_came commit.patches is.behind.0);
      same = same_more;
      once = λ i h. none_left i (id == i) refl (sym (among_with id i came) ∙ h);
      most = λ i. let one = is.most i in let more = times-cons i commit commits in omega (arith, one, more);
      left = λ i low. by_left i (is.left i low);
      are = is.are.1;
      placed = each_behind (λ (patch : Patch). is_placed pages patch ≡ true) commit.patches (patches_brought commits) is.placed;
      behind = is.behind.1;
      lasts = lasts_behind commit.patches (patches_brought commits) is.lasts;
    };
  }
    where
      id : ℕ
      id = commit.image.chunk_id

      here : times id (commit ∷ commits) ≡ suc (times id commits)
      here =
          let more = times-cons id commit commits in
          let one = ap (λ (b : Bool). cond {A = ℕ} b 1 0) (eq-eqb id id refl) in
          omega (arith, more, one)

      absent : is_among id came ≡ false
      absent = by_came (is_among id came) refl
        where
          by_came : (b : Bool) → is_among id came ≡ b → is_among id came ≡ false
          by_came true e = let none = is.once id e in let h = here in absurd (omega (arith, none, h))
          by_came false e = e

      same_more : (n : ℕ) → is_among n (id ∷ others) ≡ true → is_among n (with_number id came) ≡ true
      same_more n h = by_first (id == n) refl h
        where
          by_first : (b : Bool) → (id == n) ≡ b → (b || is_among n others) ≡ true → is_among n (with_number id came) ≡ true
          by_first true e h = subst (λ (m : ℕ). is_among m (with_number id came) ≡ true) (eqb-true id n e) (among_new id came)
          by_first false e h = among_more n id came (is.same n h)

      own_came : (patches : List Patch) → list_all (λ (patch : Patch). is_among patch.chunk_id (id ∷ others)) patches ≡ true
          → Each (λ (patch : Patch). is_among patch.chunk_id (with_number id came) ≡ true) patches
      own_came [] h = tt
      own_came (patch ∷ more) h =
          let parts = and_parts (is_among patch.chunk_id (id ∷ others)) (list_all (λ (p : Patch). is_among p.chunk_id (id ∷ others)) more) h in
          (same_more patch.chunk_id parts.0, own_came more parts.1)

      none_left : (i : ℕ) (b : Bool) → (id == i) ≡ b → (b || is_among i came) ≡ true → times i commits ≡ 0
      none_left i true e h =
          let same : id ≡ i = eqb-true id i e in
          let one = is.most id in
          let more = here in
          let none : times id commits ≡ 0 = omega (arith, one, more) in
          subst (λ (n : ℕ). times n commits ≡ 0) same none
      none_left i false e h =
          let none = is.once i h in
          let more = times-cons i commit commits in
          omega (arith, none, more)

      by_left : (i : ℕ) → (is_among i came ≡ true) ⊎ (1 ≤ times i (commit ∷ commits)) → (is_among i (with_number id came) ≡ true) ⊎ (1 ≤ times i commits)
      by_left i (inl h) = inl (among_more i id came h)
      by_left i (inr h) = by_id (id == i) refl (times-cons i commit commits)
        where
          by_id : (b : Bool) → (id == i) ≡ b → times i (commit ∷ commits) ≡ cond {A = ℕ} (id == i) 1 0 + times i commits
              → (is_among i (with_number id came) ≡ true) ⊎ (1 ≤ times i commits)
          by_id true e more = inl (subst (λ (m : ℕ). is_among m (with_number id came) ≡ true) (eqb-true id i e) (among_new id came))
          by_id false e more = inr (let none = ap (λ (b : Bool). cond {A = ℕ} b 1 0) e in omega (arith, h, more, none))

      lasts_behind : (xs ys : List Patch) → LastsComeLast (xs ++ ys) → LastsComeLast ys
      lasts_behind [] ys h = h
      lasts_behind (x ∷ xs) ys h = lasts_behind xs ys h.1
