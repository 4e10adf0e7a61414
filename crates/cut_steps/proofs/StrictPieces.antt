-- Each fragment of a packet but the first has a byte, and the four bytes of an open length stand in one chunk.
use Rattle.std.proofs.Common.{◌≡◌, ◌∙◌, ℕ, ◌+◌, ◌-◌, ◌<◌, ◌≤◌, Bool, true, false, List, [], ◌∷◌, ◌++◌, length, refl, sym, ap, subst, arith, length-append, inl, inr}
use Rattle.std.specs.Prelude.{◌==◌, ◌&&◌, nat_le, IsTrue, cond}
use Rattle.std.specs.List.{list_all}
use Rattle.std.proofs.lemmas.List.Folds.{list_all-append}
use Rattle.std.proofs.lemmas.Bool.{cases_lt, cases_Bool, leb-true, and_from, eq-eqb, lt-ltb}
use Rattle.trace_model.specs.Packets.{Text}
use Rattle.trace_model.specs.Pages.{Page, laid}
use Rattle.trace_model.specs.Row.{Piece}
use Rattle.trace_model.specs.Sent.{chunk_at, open_in, is_in_one}
use Rattle.trace_model.specs.Cut.{IsWellFormedPage, left_behind, has_byte, all_go_on}
use Rattle.cut_steps.specs.RawChains.{earlier_pieces, offset_behind, current_piece}
use Rattle.cut_steps.specs.Pieces.{StandInOnePiece, AllStandIn, IsLarge, ContinuesWithByte}
use Rattle.cut_steps.proofs.Places.{chunk_at-here, chunk_at-behind, stands-here, stands-behind}
use Rattle.cut_steps.proofs.GrowingPlaces.{SamePlacesBelow}
use Rattle.cut_steps.proofs.ZeroPatches.{inside}

-- Bytes of each piece

-- one piece more, with a byte if it isn't the first
pub goes_on-one : (earlier : List Piece) (piece : Piece) → IsTrue (all_go_on earlier) → 0 < length piece.fragment.bytes → IsTrue (all_go_on (earlier ++ piece ∷ []))
goes_on-one [] piece before some = refl
goes_on-one (first ∷ others) piece before some =
    list_all-append has_byte others (piece ∷ [])
    ∙ and_from (list_all has_byte others) (has_byte piece && true) before (and_from (has_byte piece) true (lt-ltb 0 (length piece.fragment.bytes) some) refl)

-- the pieces of a packet with its newest one
pub goes_on-here : (pages : List Page) (continues : Bool) (done : List (List ℕ)) (piece : Piece) → ContinuesWithByte continues done piece.fragment.bytes
    → IsTrue (all_go_on (earlier_pieces pages continues done)) → IsTrue (all_go_on (earlier_pieces pages continues done ++ piece ∷ []))
goes_on-here pages true [] piece some before = goes_on-one (earlier_pieces pages true []) piece before (some refl refl)
goes_on-here pages true (first ∷ others) piece some before = refl
goes_on-here pages false done piece some before = refl

-- where less than four bytes are left the fragment has a byte
pub filled_byte : (size : ℕ) (pages : List Page) (continues : Bool) (done : List (List ℕ)) (now : List ℕ) → IsLarge size
    → left_behind size (current_piece pages done now) < 4 → ContinuesWithByte continues done now
filled_byte size pages continues done now large left goes first = omega (arith, large, left, ap (offset_behind 4) first)

-- and so has the last one of a full page with the drop mark
pub marked_byte : (size : ℕ) (page : Page) (done : List (List ℕ)) (bytes : List ℕ) → IsLarge size → IsWellFormedPage size page → page.fragments ≡ done ++ bytes ∷ []
    → page.dropped ≡ true → ContinuesWithByte page.continues done bytes
marked_byte size page done bytes large full holds dropped goes first =
    let fragments : page.fragments ≡ bytes ∷ [] = holds ∙ ap (λ (before : List (List ℕ)). before ++ bytes ∷ []) first in
    let whole : length (laid true (bytes ∷ []) []) ≡ size =
    ap (λ (b : Bool). length (laid b (bytes ∷ []) [])) (sym dropped)
    ∙ ap (λ (all : List (List ℕ)). length (laid page.dropped all [])) (sym fragments)
    ∙ ap (λ (rest : List ℕ). length (laid page.dropped page.fragments rest)) (sym (full.dropped dropped).1)
    ∙ full.whole in
    omega (arith, large, whole, length-append bytes [])

-- Lengths in one chunk

pub stands_in_one : (pieces : List Piece) (at : ℕ) → StandInOnePiece pieces at → chunk_at pieces at ≡ chunk_at pieces (at + 3)
stands_in_one [] at stands = absurd stands
stands_in_one (piece ∷ pieces) at stands = elim (cases_lt at (length piece.fragment.bytes)) [
  | inl lt ↦
      chunk_at-here piece pieces at lt
      ∙ sym (chunk_at-here piece pieces (at + 3) (omega (arith, stands-here piece pieces at lt stands)))
  | inr ge ↦
      let later : at + 3 - length piece.fragment.bytes ≡ at - length piece.fragment.bytes + 3 = omega (arith, ge) in
      chunk_at-behind piece pieces at ge
      ∙ stands_in_one pieces (at - length piece.fragment.bytes) (stands-behind piece pieces at ge stands)
      ∙ sym (chunk_at-behind piece pieces (at + 3) (omega (arith, ge)) ∙ ap (chunk_at pieces) later)
]

all_in_one : (places : List ℕ) (pieces : List Piece) → AllStandIn pieces places → IsTrue (list_all (is_in_one pieces) places)
all_in_one [] pieces stand = refl
all_in_one (at ∷ places) pieces stand =
    and_from (is_in_one pieces at) (list_all (is_in_one pieces) places)
    (eq-eqb (chunk_at pieces at) (chunk_at pieces (at + 3)) (stands_in_one pieces at stand.0)) (all_in_one places pieces stand.1)

-- all open lengths of a text that stand in the pieces
pub lengths_in_one : (pieces : List Piece) (text : Text) (places : List ℕ) → open_in pieces text ≡ places → AllStandIn pieces places
    → IsTrue (list_all (is_in_one pieces) (open_in pieces text))
lengths_in_one pieces text places are stand = subst (λ (ats : List ℕ). IsTrue (list_all (is_in_one pieces) ats)) (sym are) (all_in_one places pieces stand)

-- pieces that keep the first so many bytes in their places
pub in_one-same : (places : List ℕ) (count : ℕ) (a b : List Piece) → SamePlacesBelow count a b
    → list_all (is_in_one a) (inside count places) ≡ list_all (is_in_one b) (inside count places)
in_one-same [] count a b same = refl
in_one-same (at ∷ places) count a b same = elim (cases_Bool (nat_le (at + 4) count)) [
  | inl met ↦
      let within : at + 4 ≤ count = leb-true (at + 4) count met in
      let one : is_in_one a at ≡ is_in_one b at =
      ap (λ (n : ℕ). n == chunk_at a (at + 3)) (same.chunks at (omega (arith, within)))
      ∙ ap (λ (n : ℕ). chunk_at b at == n) (same.chunks (at + 3) (omega (arith, within))) in
      subst (λ (x : Bool). list_all (is_in_one a) (cond x (at ∷ inside count places) (inside count places)) ≡ list_all (is_in_one b) (cond x (at ∷ inside count places) (inside count places))) (sym met)
      (ap (λ (x : Bool). x && list_all (is_in_one a) (inside count places)) one
      ∙ ap (λ (x : Bool). is_in_one b at && x) (in_one-same places count a b same))
  | inr missed ↦
      subst (λ (x : Bool). list_all (is_in_one a) (cond x (at ∷ inside count places) (inside count places)) ≡ list_all (is_in_one b) (cond x (at ∷ inside count places) (inside count places))) (sym missed)
      (in_one-same places count a b same)
]
