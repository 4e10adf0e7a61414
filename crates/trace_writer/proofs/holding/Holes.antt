-- Holes: how many of them aren't in the held chunk, and whether a chunk has one, whichever way round they stand.
use Rattle.std.proofs.Common.{◌≡◌, ◌≢◌, ◌∙◌, ℕ, ◌+◌, ◌≤◌, not, cond, ◌==◌, ◌||◌, Bool, true, false, List, [], ◌∷◌, ◌++◌, length, reverse, refl, ap, arith}
use Rattle.std.proofs.lemmas.List.{map-append, reverse-append}
use Rattle.std.proofs.lemmas.List.Sums.{sum_by-append, count_by-le-length}
use Rattle.std.proofs.lemmas.List.Folds.{list_any-append}
use Rattle.std.proofs.lemmas.Bool.{eq-eqb, ne_eqb}
use Rattle.trace_model.specs.Images as model
use Rattle.trace_model.specs.Sequences.{is_among}
use Rattle.trace_model.specs.Sent.{chunks_of}
use Rattle.commit_body.specs.declared.hole.Hole.{Hole}
use Rattle.commit_body.specs.Patches.{hole_chunks, holes_outside, with_lasts}

-- How many

outside_one : (held : ℕ) (holes : List Hole) (hole : Hole)
    → holes_outside held (holes ++ hole ∷ []) ≡ holes_outside held holes + holes_outside held (hole ∷ [])
outside_one held holes hole = sum_by-append (λ (h : Hole). cond (not (h.chunk_id == held)) 1 0) holes (hole ∷ [])

pub outside_here : (held : ℕ) (holes : List Hole) (hole : Hole) → hole.chunk_id ≡ held → holes_outside held (holes ++ hole ∷ []) ≡ holes_outside held holes
outside_here held holes hole same =
    let none : holes_outside held (hole ∷ []) ≡ 0 = ap (λ (b : Bool). 0 + cond (not b) 1 0) (eq-eqb hole.chunk_id held same) in
    omega (arith, outside_one held holes hole, none)

pub outside_later : (held : ℕ) (holes : List Hole) (hole : Hole) → hole.chunk_id ≢ held → holes_outside held (holes ++ hole ∷ []) ≡ holes_outside held holes + 1
outside_later held holes hole apart =
    let one : holes_outside held (hole ∷ []) ≡ 1 = ap (λ (b : Bool). 0 + cond (not b) 1 0) (ne_eqb hole.chunk_id held apart) in
    omega (arith, outside_one held holes hole, one)

pub outside_most : (held : ℕ) (holes : List Hole) → holes_outside held holes ≤ length holes
outside_most held holes = count_by-le-length (λ (h : Hole). not (h.chunk_id == held)) holes

-- Which chunks

either : (a b : Bool) → (a || b) ≡ (b || a)
either true true = refl
either true false = refl
either false true = refl
either false false = refl

pub among_reverse : (n : ℕ) (holes : List Hole) → is_among n (hole_chunks (reverse holes)) ≡ is_among n (hole_chunks holes)
among_reverse n [] = refl
among_reverse n (hole ∷ holes) =
    ap (λ (hs : List Hole). is_among n (hole_chunks hs)) (reverse-append (hole ∷ []) holes)
    ∙ ap (is_among n) (map-append (λ (h : Hole). h.chunk_id) (reverse holes) (hole ∷ []))
    ∙ list_any-append (λ (m : ℕ). m == n) (hole_chunks (reverse holes)) (hole.chunk_id ∷ [])
    ∙ either (is_among n (hole_chunks (reverse holes))) (is_among n (hole.chunk_id ∷ []))
    ∙ ap (λ (b : Bool). ((hole.chunk_id == n) || false) || b) (among_reverse n holes)
    ∙ ap (λ (b : Bool). b || is_among n (hole_chunks holes)) (either (hole.chunk_id == n) false)

pub lasts_alike : (a b : List ℕ) (patches : List model.Patch) → ((n : ℕ) → is_among n a ≡ is_among n b) → with_lasts a patches ≡ with_lasts b patches
lasts_alike a b [] alike = refl
lasts_alike a b (patch ∷ later) alike =
    ap (λ (found : Bool). record patch { last = not (is_among patch.chunk_id (chunks_of later) || found) } ∷ with_lasts a later) (alike patch.chunk_id)
    ∙ ap (λ (marked : List model.Patch). record patch { last = not (is_among patch.chunk_id (chunks_of later) || is_among patch.chunk_id b) } ∷ marked) (lasts_alike a b later alike)

pub lasts_reverse : (holes : List Hole) (patches : List model.Patch) → with_lasts (hole_chunks (reverse holes)) patches ≡ with_lasts (hole_chunks holes) patches
lasts_reverse holes patches = lasts_alike (hole_chunks (reverse holes)) (hole_chunks holes) patches (λ n. among_reverse n holes)
