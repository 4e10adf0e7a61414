-- A row whose fragments get other bytes is the row with those bytes: bytes join nothing.
use Rattle.std.proofs.Common.{◌≡◌, ◌∙◌, ℕ, suc, ◌==◌, Bool, true, false, not, ◌&&◌, ◌||◌, List, [], ◌∷◌, ◌++◌, map, reverse, cond, refl, sym, ap}
use Rattle.std.proofs.lemmas.List.{map-append, reverse-append}
use Rattle.trace_model.specs.Images.{Fragment}
use Rattle.trace_model.specs.Sequences.{Cursor}
use Rattle.trace_model.specs.Row.{Piece, Chain, Whole, Marked, CutOff, Link, Joined, Gap, Stop, place, is_last, chunk_links, joined_to, with_piece, place_behind}
use Rattle.trace_model.specs.Written.{chains_in}
use Rattle.cut_steps.proofs.RowSteps.{chunk_with}

-- the piece with other bytes, which depend on its chunk and its fragment
abbrev pub with_other : (ℕ → Fragment → List ℕ) → Piece → Piece
with_other bytes piece = record piece { fragment = record piece.fragment { bytes = bytes piece.at.chunk_id piece.fragment } }

abbrev pub fragment_with_other : (ℕ → Fragment → List ℕ) → ℕ → Fragment → Fragment
fragment_with_other bytes chunk_id fragment = record fragment { bytes = bytes chunk_id fragment }

abbrev pub chain_with_other : (ℕ → Fragment → List ℕ) → Chain → Chain
chain_with_other bytes chain = record chain { pieces = map (with_other bytes) chain.pieces }

abbrev pub link_with_other : (ℕ → Fragment → List ℕ) → Link → Link
link_with_other bytes (Joined chain) = Joined (chain_with_other bytes chain)
link_with_other bytes (Gap at next lost) = Gap at next lost
link_with_other bytes (Stop at why may) = Stop at why may

abbrev pub links_with_other : (ℕ → Fragment → List ℕ) → List Link → List Link
links_with_other bytes links = map (link_with_other bytes) links

joined-other : (bytes : ℕ → Fragment → List ℕ) (chain : Chain) (links : List Link)
    → joined_to (chain_with_other bytes chain) (links_with_other bytes links) ≡ links_with_other bytes (joined_to chain links)
joined-other bytes chain [] = refl
joined-other bytes chain (Joined other ∷ links) = step other.headless
  where
    step : (b : Bool) → cond b
        (Joined (record (chain_with_other bytes chain) {
          next = other.next;
          pieces = map (with_other bytes) chain.pieces ++ map (with_other bytes) other.pieces;
          awaits = chain.awaits || other.awaits;
          fate = other.fate;
        }) ∷ links_with_other bytes links)
        (Joined (record (chain_with_other bytes chain) { fate = CutOff }) ∷ Joined (chain_with_other bytes other) ∷ links_with_other bytes links)
        ≡ links_with_other bytes (cond b
        (Joined (record chain { next = other.next; pieces = chain.pieces ++ other.pieces; awaits = chain.awaits || other.awaits; fate = other.fate }) ∷ links)
        (Joined (record chain { fate = CutOff }) ∷ Joined other ∷ links))
    step true = ap (λ (pieces : List Piece). Joined (record chain {
      next = other.next;
      pieces = pieces;
      awaits = chain.awaits || other.awaits;
      fate = other.fate;
    }) ∷ links_with_other bytes links) (sym (map-append (with_other bytes) chain.pieces other.pieces))
    step false = refl
joined-other bytes chain (Gap at next lost ∷ links) = refl
joined-other bytes chain (Stop at why may ∷ links) = refl

piece-other : (bytes : ℕ → Fragment → List ℕ) (piece : Piece) (next : Cursor) (headless awaits : Bool) (links : List Link)
    → with_piece (with_other bytes piece) next headless awaits (links_with_other bytes links) ≡ links_with_other bytes (with_piece piece next headless awaits links)
piece-other bytes piece next headless awaits links = step (piece.runs_on && not piece.fragment.dropped)
  where
    alone : Chain
    alone = record {
      at = piece.at;
      next = next;
      headless = headless;
      pieces = piece ∷ [];
      awaits = awaits;
      fate = cond piece.fragment.dropped Marked Whole;
    }

    step : (b : Bool) → cond b (joined_to (chain_with_other bytes alone) (links_with_other bytes links)) (Joined (chain_with_other bytes alone) ∷ links_with_other bytes links)
        ≡ links_with_other bytes (cond b (joined_to alone links) (Joined alone ∷ links))
    step true = joined-other bytes alone links
    step false = refl

is_last-map : (change : Fragment → Fragment) (fragments : List Fragment) → is_last (map change fragments) ≡ is_last fragments
is_last-map change [] = refl
is_last-map change (fragment ∷ others) = refl

pub chunk-other : (fragments : List Fragment) (bytes : ℕ → Fragment → List ℕ) (chunk_id passed : ℕ) (continues runs_on : Bool) (all changed : List Fragment) (links : List Link)
    → chunk_links false chunk_id (chunk_with continues runs_on changed) passed (map (fragment_with_other bytes chunk_id) fragments) (links_with_other bytes links)
    ≡ links_with_other bytes (chunk_links false chunk_id (chunk_with continues runs_on all) passed fragments links)
chunk-other [] bytes chunk_id passed continues runs_on all changed links = refl
chunk-other (fragment ∷ others) bytes chunk_id passed continues runs_on all changed links =
    let rest : List Link = chunk_links false chunk_id (chunk_with continues runs_on all) (suc passed) others links in
    let put : Bool → List Link → List Link = λ last links.
    with_piece (record { at = place chunk_id passed; fragment = fragment_with_other bytes chunk_id fragment; runs_on = runs_on && last })
    (place_behind false chunk_id passed last) (continues && (passed == 0)) false links in
    ap (put (is_last (map (fragment_with_other bytes chunk_id) others))) (chunk-other others bytes chunk_id (suc passed) continues runs_on all changed links)
    ∙ ap (λ (b : Bool). put b (links_with_other bytes rest)) (is_last-map (fragment_with_other bytes chunk_id) others)
    ∙ piece-other bytes (record { at = place chunk_id passed; fragment = fragment; runs_on = runs_on && is_last others })
    (place_behind false chunk_id passed (is_last others)) (continues && (passed == 0)) false rest

pub chains-other : (links : List Link) (bytes : ℕ → Fragment → List ℕ) → chains_in (links_with_other bytes links) ≡ map (chain_with_other bytes) (chains_in links)
chains-other [] bytes = refl
chains-other (Joined chain ∷ links) bytes = ap (λ (cs : List Chain). chain_with_other bytes chain ∷ cs) (chains-other links bytes)
chains-other (Gap at next lost ∷ links) bytes = chains-other links bytes
chains-other (Stop at why may ∷ links) bytes = chains-other links bytes

pub reverse-map : {X Y : Type 0} (f : X → Y) (xs : List X) → reverse (map f xs) ≡ map f (reverse xs)
reverse-map f [] = refl
reverse-map {Y = Y} f (x ∷ xs) =
    reverse-append (f x ∷ []) (map f xs)
    ∙ ap (λ (ys : List Y). ys ++ f x ∷ []) (reverse-map f xs)
    ∙ sym (map-append f (reverse xs) (x ∷ []))
    ∙ ap (map f) (sym (reverse-append (x ∷ []) xs))
