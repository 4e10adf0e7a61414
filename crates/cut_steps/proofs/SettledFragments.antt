-- The patches of a page are for its last fragment: put into that one, they are put into each that their bytes lie in.
use Rattle.std.proofs.Common.{◌≡◌, ◌∙◌, ℕ, ◌+◌, ◌-◌, ◌≤◌, ◌==◌, Bool, true, false, ◌&&◌, List, [], ◌∷◌, map, length, nat_le, map-id, cond, refl, sym, ap, arith, ⊎_elim}
use Rattle.std.specs.Prelude.{⊤}
use Rattle.std.proofs.lemmas.Bool.{eq-eqb, ne_eqb, leb-true, lt-leb, and_parts, and_from, cases_eq, and_left, and_right}
use Rattle.std.proofs.lemmas.Simd.{map-map}
use Rattle.trace_model.specs.Images.{Fragment, Patch, holds_patch, patched_fragment, last_holds, patched_last}
use Rattle.trace_model.specs.Pages.{fragments_from}
use Rattle.trace_model.specs.Row.{Piece}
use Rattle.trace_model.specs.Written.{settled_fragments}
use Rattle.cut_steps.specs.RawChains.{patched_piece, settled_piece}
use Rattle.cut_steps.proofs.Places.{length_with_bytes}

-- One fragment

-- the fragment of this chunk, once the patch is put in where it lies inside
abbrev pub patched_in_chunk : ℕ → Patch → Fragment → Fragment
patched_in_chunk chunk_id patch fragment = cond ((chunk_id == patch.chunk_id) && holds_patch fragment patch) (patched_fragment patch fragment) fragment

abbrev pub settled_in_chunk : List Patch → ℕ → Fragment → Fragment
settled_in_chunk [] chunk_id fragment = fragment
settled_in_chunk (patch ∷ patches) chunk_id fragment = settled_in_chunk patches chunk_id (patched_in_chunk chunk_id patch fragment)

patched-piece : (patch : Patch) (piece : Piece) → patched_piece patch piece ≡ record piece { fragment = patched_in_chunk piece.at.chunk_id patch piece.fragment }
patched-piece patch piece = step ((piece.at.chunk_id == patch.chunk_id) && holds_patch piece.fragment patch)
  where
    step : (b : Bool) → cond b (record piece { fragment = patched_fragment patch piece.fragment }) piece
        ≡ record piece { fragment = cond b (patched_fragment patch piece.fragment) piece.fragment }
    step true = refl
    step false = refl

pub settled-piece : (patches : List Patch) (piece : Piece) → settled_piece patches piece ≡ record piece { fragment = settled_in_chunk patches piece.at.chunk_id piece.fragment }
settled-piece [] piece = refl
settled-piece (patch ∷ patches) piece =
    ap (settled_piece patches) (patched-piece patch piece)
    ∙ settled-piece patches (record piece { fragment = patched_in_chunk piece.at.chunk_id patch piece.fragment })

-- patches give other bytes and change nothing else
patched-bytes : (patch : Patch) (chunk_id : ℕ) (fragment : Fragment)
    → patched_in_chunk chunk_id patch fragment ≡ record fragment { bytes = (patched_in_chunk chunk_id patch fragment).bytes }
patched-bytes patch chunk_id fragment = step ((chunk_id == patch.chunk_id) && holds_patch fragment patch)
  where
    step : (b : Bool) → cond b (patched_fragment patch fragment) fragment ≡ record fragment { bytes = (cond b (patched_fragment patch fragment) fragment).bytes }
    step true = refl
    step false = refl

pub settled-bytes : (patches : List Patch) (chunk_id : ℕ) (fragment : Fragment)
    → settled_in_chunk patches chunk_id fragment ≡ record fragment { bytes = (settled_in_chunk patches chunk_id fragment).bytes }
settled-bytes [] chunk_id fragment = refl
settled-bytes (patch ∷ patches) chunk_id fragment =
    settled-bytes patches chunk_id (patched_in_chunk chunk_id patch fragment)
    ∙ ap (λ (f : Fragment). record f { bytes = (settled_in_chunk patches chunk_id (patched_in_chunk chunk_id patch fragment)).bytes }) (patched-bytes patch chunk_id fragment)

-- Four bytes for four

-- the same place and length, and a drop mark in both or none
record SameShape (fragment other : Fragment) : Type 0 where
  offset : fragment.offset ≡ other.offset
  long : length fragment.bytes ≡ length other.bytes
  dropped : fragment.dropped ≡ other.dropped

patched-shape : (patch : Patch) (chunk_id : ℕ) (fragment : Fragment) → length patch.bytes ≡ 4 → SameShape (patched_in_chunk chunk_id patch fragment) fragment
patched-shape patch chunk_id fragment four = step ((chunk_id == patch.chunk_id) && holds_patch fragment patch) refl
  where
    inside : holds_patch fragment patch ≡ true → patch.offset - fragment.offset + length patch.bytes ≤ length fragment.bytes
    inside h =
        let parts = and_parts (nat_le fragment.offset patch.offset) (nat_le (patch.offset + 4) (fragment.offset + length fragment.bytes)) h in
        omega (arith, four, leb-true fragment.offset patch.offset parts.0, leb-true (patch.offset + 4) (fragment.offset + length fragment.bytes) parts.1)

    step : (b : Bool) → ((chunk_id == patch.chunk_id) && holds_patch fragment patch) ≡ b → SameShape (cond b (patched_fragment patch fragment) fragment) fragment
    step true e = record {
      offset = refl;
      long = length_with_bytes fragment.bytes patch.bytes (patch.offset - fragment.offset)
          (inside ((and_parts (chunk_id == patch.chunk_id) (holds_patch fragment patch) e).1));
      dropped = refl;
    }
    step false e = record { offset = refl; long = refl; dropped = refl }

-- The fragments of a page

-- each fragment ends before the next one begins
abbrev Ordered : List Fragment → Type 0
Ordered [] = ⊤
Ordered (fragment ∷ []) = ⊤
Ordered (fragment ∷ next ∷ others) = (fragment.offset + length fragment.bytes ≤ next.offset) × Ordered (next ∷ others)

held_offset : (others : List Fragment) (fragment : Fragment) (patch : Patch) → Ordered (fragment ∷ others) → last_holds (fragment ∷ others) patch ≡ true
    → fragment.offset ≤ patch.offset
held_offset [] fragment patch h e =
    leb-true fragment.offset patch.offset
    ((and_parts (nat_le fragment.offset patch.offset) (nat_le (patch.offset + 4) (fragment.offset + length fragment.bytes)) e).0)
held_offset (next ∷ others) fragment patch h e = omega (arith, h.0, held_offset others next patch h.1 e)

same-here : (patch : Patch) (chunk_id : ℕ) (fragment : Fragment) → ((chunk_id == patch.chunk_id) && holds_patch fragment patch) ≡ false → patched_in_chunk chunk_id patch fragment ≡ fragment
same-here patch chunk_id fragment e = ap (λ (b : Bool). cond b (patched_fragment patch fragment) fragment) e

patched-last : (others : List Fragment) (fragment : Fragment) (patch : Patch) (chunk_id : ℕ) → patch.chunk_id ≡ chunk_id → Ordered (fragment ∷ others)
    → last_holds (fragment ∷ others) patch ≡ true
    → patched_last patch (fragment ∷ others) ≡ map (patched_in_chunk chunk_id patch) (fragment ∷ others)
patched-last [] fragment patch chunk_id c h e =
    sym (ap (λ (b : Bool). cond b (patched_fragment patch fragment) fragment ∷ [])
    (and_from (chunk_id == patch.chunk_id) (holds_patch fragment patch) (eq-eqb chunk_id patch.chunk_id (sym c)) e))
patched-last (next ∷ others) fragment patch chunk_id c h e =
    let outside : nat_le (patch.offset + 4) (fragment.offset + length fragment.bytes) ≡ false =
    lt-leb (patch.offset + 4) (fragment.offset + length fragment.bytes) (omega (arith, h.0, held_offset others next patch h.1 e)) in
    ap (λ (fs : List Fragment). fragment ∷ fs) (patched-last others next patch chunk_id c h.1 e)
    ∙ ap (λ (f : Fragment). f ∷ map (patched_in_chunk chunk_id patch) (next ∷ others))
    (sym (same-here patch chunk_id fragment (and_right (chunk_id == patch.chunk_id) (holds_patch fragment patch)
    (and_right (nat_le fragment.offset patch.offset) (nat_le (patch.offset + 4) (fragment.offset + length fragment.bytes)) outside))))

same-all : (fragments : List Fragment) (patch : Patch) (chunk_id : ℕ) → (chunk_id == patch.chunk_id) ≡ false → map (patched_in_chunk chunk_id patch) fragments ≡ fragments
same-all [] patch chunk_id e = refl
same-all (fragment ∷ others) patch chunk_id e =
    ap (λ (fs : List Fragment). patched_in_chunk chunk_id patch fragment ∷ fs) (same-all others patch chunk_id e)
    ∙ ap (λ (f : Fragment). f ∷ others) (same-here patch chunk_id fragment (and_left (chunk_id == patch.chunk_id) (holds_patch fragment patch) e))

one-step : (fragments : List Fragment) (patch : Patch) (chunk_id : ℕ) → Ordered fragments → (patch.chunk_id ≡ chunk_id → last_holds fragments patch ≡ true)
    → cond (patch.chunk_id == chunk_id) (patched_last patch fragments) fragments ≡ map (patched_in_chunk chunk_id patch) fragments
one-step [] patch chunk_id h e = nothing (patch.chunk_id == chunk_id)
  where
    nothing : (b : Bool) → cond {A = List Fragment} b [] [] ≡ []
    nothing true = refl
    nothing false = refl
one-step (fragment ∷ others) patch chunk_id h e = ⊎_elim here elsewhere (cases_eq patch.chunk_id chunk_id)
  where
    here : patch.chunk_id ≡ chunk_id
        → cond (patch.chunk_id == chunk_id) (patched_last patch (fragment ∷ others)) (fragment ∷ others) ≡ map (patched_in_chunk chunk_id patch) (fragment ∷ others)
    here c =
        ap (λ (b : Bool). cond b (patched_last patch (fragment ∷ others)) (fragment ∷ others)) (eq-eqb patch.chunk_id chunk_id c)
        ∙ patched-last others fragment patch chunk_id c h (e c)

    elsewhere : (patch.chunk_id ≡ chunk_id → ⊥)
        → cond (patch.chunk_id == chunk_id) (patched_last patch (fragment ∷ others)) (fragment ∷ others) ≡ map (patched_in_chunk chunk_id patch) (fragment ∷ others)
    elsewhere c =
        ap (λ (b : Bool). cond b (patched_last patch (fragment ∷ others)) (fragment ∷ others)) (ne_eqb patch.chunk_id chunk_id c)
        ∙ sym (same-all (fragment ∷ others) patch chunk_id (ne_eqb chunk_id patch.chunk_id (λ d. c (sym d))))

abbrev SameShapes : List Fragment → List Fragment → Type 0
SameShapes [] [] = ⊤
SameShapes [] (other ∷ others) = ⊥
SameShapes (fragment ∷ fragments) [] = ⊥
SameShapes (fragment ∷ fragments) (other ∷ others) = SameShape fragment other × SameShapes fragments others

patched-shapes : (fragments : List Fragment) (patch : Patch) (chunk_id : ℕ) → length patch.bytes ≡ 4 → SameShapes (map (patched_in_chunk chunk_id patch) fragments) fragments
patched-shapes [] patch chunk_id four = tt
patched-shapes (fragment ∷ others) patch chunk_id four = (patched-shape patch chunk_id fragment four, patched-shapes others patch chunk_id four)

ordered-same : (fragments others : List Fragment) → SameShapes fragments others → Ordered others → Ordered fragments
ordered-same [] [] s h = tt
ordered-same [] (other ∷ others) s h = absurd s
ordered-same (fragment ∷ fragments) [] s h = absurd s
ordered-same (fragment ∷ []) (other ∷ []) s h = tt
ordered-same (fragment ∷ []) (other ∷ following ∷ others) s h = absurd s.1
ordered-same (fragment ∷ next ∷ fragments) (other ∷ []) s h = absurd s.1
ordered-same (fragment ∷ next ∷ fragments) (other ∷ following ∷ others) s h =
    (omega (arith, h.0, s.0.offset, s.0.long, s.1.0.offset), ordered-same (next ∷ fragments) (following ∷ others) s.1 h.1)

held-same : (fragments others : List Fragment) (patch : Patch) → SameShapes fragments others → last_holds fragments patch ≡ last_holds others patch
held-same [] [] patch s = refl
held-same [] (other ∷ others) patch s = absurd s
held-same (fragment ∷ fragments) [] patch s = absurd s
held-same (fragment ∷ []) (other ∷ []) patch s =
    ap (λ (n : ℕ). nat_le n patch.offset && nat_le (patch.offset + 4) (n + length fragment.bytes)) s.0.offset
    ∙ ap (λ (n : ℕ). nat_le other.offset patch.offset && nat_le (patch.offset + 4) (other.offset + n)) s.0.long
held-same (fragment ∷ []) (other ∷ following ∷ others) patch s = absurd s.1
held-same (fragment ∷ next ∷ fragments) (other ∷ []) patch s = absurd s.1
held-same (fragment ∷ next ∷ fragments) (other ∷ following ∷ others) patch s = held-same (next ∷ fragments) (following ∷ others) patch s.1

-- the patches for this chunk lie in the last of these fragments
abbrev pub HeldBy : List Patch → ℕ → List Fragment → Type 0
HeldBy [] chunk_id fragments = ⊤
HeldBy (patch ∷ patches) chunk_id fragments =
    ((patch.chunk_id ≡ chunk_id → last_holds fragments patch ≡ true) × (length patch.bytes ≡ 4)) × HeldBy patches chunk_id fragments

held_by-same : (patches : List Patch) (chunk_id : ℕ) (fragments others : List Fragment) → SameShapes fragments others
    → HeldBy patches chunk_id others → HeldBy patches chunk_id fragments
held_by-same [] chunk_id fragments others s h = tt
held_by-same (patch ∷ patches) chunk_id fragments others s h =
    ((λ c. held-same fragments others patch s ∙ h.0.0 c, h.0.1), held_by-same patches chunk_id fragments others s h.1)

settled-all : (patches : List Patch) (chunk_id : ℕ) (fragments : List Fragment) → Ordered fragments → HeldBy patches chunk_id fragments
    → settled_fragments patches chunk_id fragments ≡ map (settled_in_chunk patches chunk_id) fragments
settled-all [] chunk_id fragments h held = sym (map-id fragments)
settled-all (patch ∷ patches) chunk_id fragments h held =
    let once : List Fragment = map (patched_in_chunk chunk_id patch) fragments in
    let same : SameShapes once fragments = patched-shapes fragments patch chunk_id held.0.1 in
    ap (settled_fragments patches chunk_id) (one-step fragments patch chunk_id h held.0.0)
    ∙ settled-all patches chunk_id once (ordered-same once fragments same h) (held_by-same patches chunk_id once fragments same held.1)
    ∙ map-map (settled_in_chunk patches chunk_id) (patched_in_chunk chunk_id patch) fragments

ordered-from : (others : List (List ℕ)) (bytes : List ℕ) (at : ℕ) (dropped : Bool) → Ordered (fragments_from at dropped (bytes ∷ others))
ordered-from [] bytes at dropped = tt
ordered-from (next ∷ []) bytes at dropped = (omega arith, tt)
ordered-from (next ∷ third ∷ others) bytes at dropped = (omega arith, ordered-from (third ∷ others) next (at + length bytes + 4) dropped)

pub settled-page : (patches : List Patch) (chunk_id at : ℕ) (dropped : Bool) (fragments : List (List ℕ))
    → HeldBy patches chunk_id (fragments_from at dropped fragments)
    → settled_fragments patches chunk_id (fragments_from at dropped fragments) ≡ map (settled_in_chunk patches chunk_id) (fragments_from at dropped fragments)
settled-page patches chunk_id at dropped [] held = settled-all patches chunk_id [] tt held
settled-page patches chunk_id at dropped (bytes ∷ others) held =
    settled-all patches chunk_id (fragments_from at dropped (bytes ∷ others)) (ordered-from others bytes at dropped) held
