-- Live records, one step at a time and all at once.
use Rattle.std.proofs.Common.{◌≡◌, ◌∙◌, ℕ, ◌+◌, Bool, true, false, not, ◌&&◌, ◌||◌, List, [], ◌∷◌, ◌++◌, map, refl, sym, ap, append_assoc}
use Rattle.std.specs.Prelude.{filter, cond}
use Rattle.std.specs.List.{list_any}
use Rattle.std.proofs.lemmas.List.{append-nil}
use Rattle.std.proofs.lemmas.List.Elements.{filter-append, filter_agree}
use Rattle.trace_model.specs.Places.{Placement, placement_after, placements_from, displaces, live_of, live_after, place_after}

pub filter-filter : {X : Type 0} (p q : X → Bool) (xs : List X) → filter q (filter p xs) ≡ filter (λ x. p x && q x) xs
filter-filter p q [] = refl
filter-filter {X = X} p q (x ∷ xs) = step (p x) (filter-filter p q xs)
  where
    step : (b : Bool) → filter q (filter p xs) ≡ filter (λ y. p y && q y) xs
        → filter q (cond b (x ∷ filter p xs) (filter p xs)) ≡ cond (b && q x) (x ∷ filter (λ y. p y && q y) xs) (filter (λ y. p y && q y) xs)
    step true h = ap (λ (ys : List X). cond (q x) (x ∷ ys) ys) h
    step false h = h

pub filter-all : {X : Type 0} (xs : List X) → filter (λ x. true) xs ≡ xs
filter-all [] = refl
filter-all {X = X} (x ∷ xs) = ap (λ (ys : List X). x ∷ ys) (filter-all xs)

-- a test of what a function shows of the elements
pub map-filter : {X Y : Type 0} (f : X → Y) (p : Y → Bool) (xs : List X) → map f (filter (λ x. p (f x)) xs) ≡ filter p (map f xs)
map-filter f p [] = refl
map-filter {X = X} {Y = Y} f p (x ∷ xs) = step (p (f x)) (map-filter f p xs)
  where
    step : (b : Bool) → map f (filter (λ y. p (f y)) xs) ≡ filter p (map f xs)
        → map f (cond b (x ∷ filter (λ y. p (f y)) xs) (filter (λ y. p (f y)) xs)) ≡ cond b (f x ∷ filter p (map f xs)) (filter p (map f xs))
    step true h = ap (λ (ys : List Y). f x ∷ ys) h
    step false h = h

de_morgan : (a b : Bool) → (not a && not b) ≡ not (a || b)
de_morgan true b = refl
de_morgan false b = refl

kept_first : (a : Bool) (p : Placement) (ps : List Placement) → cond (not a) (p ∷ []) [] ++ ps ≡ cond a ps (p ∷ ps)
kept_first true p ps = refl
kept_first false p ps = refl

pub live_after-all : (live ps : List Placement)
    → live_after live ps ≡ filter (λ e. not (list_any (λ p. displaces p e) ps)) live ++ live_of ps
live_after-all live [] = sym (append-nil (filter (λ (e : Placement). true) live) ∙ filter-all live)
live_after-all live (p ∷ ps) =
    let now : Placement → Bool = λ e. not (displaces p e) in
    let later : Placement → Bool = λ e. not (list_any (λ q. displaces q e) ps) in
    live_after-all (filter now live ++ p ∷ []) ps
    ∙ ap (λ (xs : List Placement). xs ++ live_of ps) (filter-append later (filter now live) (p ∷ []))
    ∙ append_assoc (filter later (filter now live)) (filter later (p ∷ [])) (live_of ps)
    ∙ ap (λ (xs : List Placement). xs ++ (filter later (p ∷ []) ++ live_of ps))
    (filter-filter now later live
    ∙ filter_agree (λ (e : Placement). now e && later e) (λ (e : Placement). not (list_any (λ q. displaces q e) (p ∷ ps)))
    (λ e. de_morgan (displaces p e) (list_any (λ q. displaces q e) ps)) live)
    ∙ ap (λ (xs : List Placement). filter (λ (e : Placement). not (list_any (λ q. displaces q e) (p ∷ ps))) live ++ xs)
    (kept_first (list_any (λ q. displaces q p) ps) p (live_of ps))

pub live_after-append : (live ps qs : List Placement) → live_after live (ps ++ qs) ≡ live_after (live_after live ps) qs
live_after-append live [] qs = refl
live_after-append live (p ∷ ps) qs = live_after-append (filter (λ e. not (displaces p e)) live ++ p ∷ []) ps qs

-- the write place behind records of these sizes
abbrev pub next_after : ℕ → ℕ → List ℕ → ℕ
next_after room next [] = next
next_after room next (size ∷ sizes) = next_after room (place_after room next size + size) sizes

pub placements_from-append : (room next : ℕ) (xs ys : List ℕ)
    → placements_from room next (xs ++ ys) ≡ placements_from room next xs ++ placements_from room (next_after room next xs) ys
placements_from-append room next [] ys = refl
placements_from-append room next (size ∷ sizes) ys =
    ap (λ (ps : List Placement). placement_after room next size ∷ ps)
    (placements_from-append room (place_after room next size + size) sizes ys)
