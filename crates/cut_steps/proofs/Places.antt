-- Bytes put into joined lists and into the pieces of a chain, and the bytes of open messages as they are written.
use Rattle.std.proofs.Common.{◌≡◌, ◌∙◌, ℕ, suc, ◌+◌, ◌-◌, ◌<◌, ◌≤◌, ◌&&◌, cond, List, [], ◌∷◌, ◌++◌, length, map, take, drop, refl, sym, ap, subst, arith, append_assoc, length-append, inl, inr}
use Rattle.std.specs.Prelude.{nat_le, MatchBool}
use Rattle.std.proofs.lemmas.List.{append-nil, take-append-le, drop-append-le, take_at, drop_at, length-take, length-drop}
use Rattle.std.proofs.lemmas.Bool.{cases_lt, lt-ltb, le-ltb, le-leb, eq-eqb, ne_eqb, MatchBool-at_true, MatchBool-at_false}
use Rattle.trace_model.specs.Images.{Patch, with_bytes, holds_patch, patched_fragment}
use Rattle.trace_model.specs.Packets.{flat, open_length, open_places}
use Rattle.trace_model.specs.Row.{Piece, bytes_of}
use Rattle.trace_model.specs.Sent.{chunk_at, offset_at}
use Rattle.trace_model.proofs.PacketLemmas.{flat_written}
use Rattle.cut_steps.specs.RawChains.{patched_piece}
use Rattle.cut_steps.specs.Pieces.{Follows, StandInOnePiece}

-- Bytes put into joined lists

pub with_bytes_left : (a b bytes : List ℕ) (at : ℕ) → at + length bytes ≤ length a → with_bytes (a ++ b) at bytes ≡ with_bytes a at bytes ++ b
with_bytes_left a b bytes at h =
    ap (λ (xs : List ℕ). (xs ++ bytes) ++ drop (at + length bytes) (a ++ b)) (take-append-le at a b (omega (arith, h)))
    ∙ ap (λ (xs : List ℕ). (take at a ++ bytes) ++ xs) (drop-append-le (at + length bytes) a b h)
    ∙ sym (append_assoc (take at a ++ bytes) (drop (at + length bytes) a) b)

pub with_bytes_right : (a b bytes : List ℕ) (at : ℕ) → with_bytes (a ++ b) (length a + at) bytes ≡ a ++ with_bytes b at bytes
with_bytes_right [] b bytes at = ap (λ (n : ℕ). with_bytes b n bytes) (omega arith)
with_bytes_right (x ∷ a) b bytes at =
    let start : length (x ∷ a) + at ≡ suc (length a + at) = omega arith in
    let end : suc (length a + at) + length bytes ≡ suc (length a + at + length bytes) = omega arith in
    ap (λ (n : ℕ). with_bytes (x ∷ (a ++ b)) n bytes) start
    ∙ ap (λ (n : ℕ). (take (suc (length a + at)) (x ∷ (a ++ b)) ++ bytes) ++ drop n (x ∷ (a ++ b))) end
    ∙ ap (λ (xs : List ℕ). x ∷ xs) (with_bytes_right a b bytes at)

pub with_bytes_mid : (a old b new : List ℕ) → length old ≡ length new → with_bytes (a ++ old ++ b) (length a) new ≡ a ++ new ++ b
with_bytes_mid a old b new h =
    ap (λ (xs : List ℕ). (take (length a) xs ++ new) ++ drop (length a + length new) (a ++ old ++ b)) (append_assoc a old b)
    ∙ ap (λ (xs : List ℕ). (xs ++ new) ++ drop (length a + length new) (a ++ old ++ b)) (take_at a (old ++ b) (length a) refl)
    ∙ ap (λ (xs : List ℕ). (a ++ new) ++ xs) (drop_at (a ++ old) b (length a + length new) (omega (arith, length-append a old)))

pub length_with_bytes : (old bytes : List ℕ) (at : ℕ) → at + length bytes ≤ length old → length (with_bytes old at bytes) ≡ length old
length_with_bytes old bytes at h =
    omega (arith, length-append (take at old ++ bytes) (drop (at + length bytes) old), length-append (take at old) bytes, length-take at old, length-drop (at + length bytes) old)

-- The bytes of open messages

pub flat_begun : (four level : List ℕ) (others : List (List ℕ)) → flat four ([] ∷ level ∷ others) ≡ flat four (level ∷ others) ++ four
flat_begun four level others = append-nil (flat four (level ∷ others) ++ four)

-- the innermost message ends
pub flat_ended : (four v level outer : List ℕ) (others : List (List ℕ))
    → flat four ((outer ++ v ++ level) ∷ others) ≡ flat four (outer ∷ others) ++ v ++ level
flat_ended four v level outer others =
    flat_written four level (outer ++ v) others ∙ ap (λ (xs : List ℕ). xs ++ level) (flat_written four v outer others)

-- four bytes are put in for its length
pub flat_closed : (v level outer : List ℕ) (others : List (List ℕ)) → length v ≡ 4
    → flat open_length ((outer ++ v ++ level) ∷ others)
    ≡ with_bytes (flat open_length (level ∷ outer ∷ others)) (length (flat open_length (outer ∷ others))) v
flat_closed v level outer others h =
    flat_ended open_length v level outer others
    ∙ sym (with_bytes_mid (flat open_length (outer ∷ others)) open_length level v (sym h))

pub length_flat_closed : (v level outer : List ℕ) (others : List (List ℕ)) → length v ≡ 4
    → length (flat open_length ((outer ++ v ++ level) ∷ others)) ≡ length (flat open_length (level ∷ outer ∷ others))
length_flat_closed v level outer others h =
    ap length (flat_closed v level outer others h)
    ∙ length_with_bytes (flat open_length (level ∷ outer ∷ others)) v (length (flat open_length (outer ∷ others)))
    (omega (arith, h, length-append (flat open_length (outer ∷ others) ++ open_length) level, length-append (flat open_length (outer ∷ others)) open_length))

-- the places of open lengths don't depend on what is in the innermost message
pub open_places-innermost : (a b : List ℕ) (others : List (List ℕ)) → open_places (a ∷ others) ≡ open_places (b ∷ others)
open_places-innermost a b [] = refl
open_places-innermost a b (next ∷ others) = refl

-- Places in the pieces of a chain

pub chunk_at-here : (piece : Piece) (pieces : List Piece) (at : ℕ) → at < length piece.fragment.bytes
    → chunk_at (piece ∷ pieces) at ≡ piece.at.chunk_id
chunk_at-here piece pieces at h =
    ap (λ b. cond b piece.at.chunk_id (chunk_at pieces (at - length piece.fragment.bytes))) (lt-ltb at (length piece.fragment.bytes) h)

pub chunk_at-behind : (piece : Piece) (pieces : List Piece) (at : ℕ) → length piece.fragment.bytes ≤ at
    → chunk_at (piece ∷ pieces) at ≡ chunk_at pieces (at - length piece.fragment.bytes)
chunk_at-behind piece pieces at h =
    ap (λ b. cond b piece.at.chunk_id (chunk_at pieces (at - length piece.fragment.bytes))) (le-ltb at (length piece.fragment.bytes) h)

pub offset_at-here : (piece : Piece) (pieces : List Piece) (at : ℕ) → at < length piece.fragment.bytes
    → offset_at (piece ∷ pieces) at ≡ piece.fragment.offset + at
offset_at-here piece pieces at h =
    ap (λ b. cond b (piece.fragment.offset + at) (offset_at pieces (at - length piece.fragment.bytes))) (lt-ltb at (length piece.fragment.bytes) h)

pub offset_at-behind : (piece : Piece) (pieces : List Piece) (at : ℕ) → length piece.fragment.bytes ≤ at
    → offset_at (piece ∷ pieces) at ≡ offset_at pieces (at - length piece.fragment.bytes)
offset_at-behind piece pieces at h =
    ap (λ b. cond b (piece.fragment.offset + at) (offset_at pieces (at - length piece.fragment.bytes))) (le-ltb at (length piece.fragment.bytes) h)

pub stands-here : (piece : Piece) (pieces : List Piece) (at : ℕ) → at < length piece.fragment.bytes
    → StandInOnePiece (piece ∷ pieces) at → at + 4 ≤ length piece.fragment.bytes
stands-here piece pieces at h stands =
    MatchBool-at_true (at + 4 ≤ length piece.fragment.bytes) (StandInOnePiece pieces (at - length piece.fragment.bytes)) (lt-ltb at (length piece.fragment.bytes) h) stands

pub stands-behind : (piece : Piece) (pieces : List Piece) (at : ℕ) → length piece.fragment.bytes ≤ at
    → StandInOnePiece (piece ∷ pieces) at → StandInOnePiece pieces (at - length piece.fragment.bytes)
stands-behind piece pieces at h stands =
    MatchBool-at_false (at + 4 ≤ length piece.fragment.bytes) (StandInOnePiece pieces (at - length piece.fragment.bytes)) (le-ltb at (length piece.fragment.bytes) h) stands

pub stands_from-here : (piece : Piece) (pieces : List Piece) (at : ℕ) → at < length piece.fragment.bytes
    → at + 4 ≤ length piece.fragment.bytes → StandInOnePiece (piece ∷ pieces) at
stands_from-here piece pieces at h within =
    subst (λ b. MatchBool b (at + 4 ≤ length piece.fragment.bytes) (StandInOnePiece pieces (at - length piece.fragment.bytes)))
    (sym (lt-ltb at (length piece.fragment.bytes) h)) within

pub stands_from-behind : (piece : Piece) (pieces : List Piece) (at : ℕ) → length piece.fragment.bytes ≤ at
    → StandInOnePiece pieces (at - length piece.fragment.bytes) → StandInOnePiece (piece ∷ pieces) at
stands_from-behind piece pieces at h stands =
    subst (λ b. MatchBool b (at + 4 ≤ length piece.fragment.bytes) (StandInOnePiece pieces (at - length piece.fragment.bytes)))
    (sym (le-ltb at (length piece.fragment.bytes) h)) stands

-- what stands in pieces stands in them with more behind
pub stands_before : (pieces more : List Piece) (at : ℕ) → StandInOnePiece pieces at → StandInOnePiece (pieces ++ more) at
stands_before [] more at stands = absurd stands
stands_before (piece ∷ pieces) more at stands = elim (cases_lt at (length piece.fragment.bytes)) [
  | inl lt ↦ stands_from-here piece (pieces ++ more) at lt (stands-here piece pieces at lt stands)
  | inr ge ↦
      stands_from-behind piece (pieces ++ more) at ge
      (stands_before pieces more (at - length piece.fragment.bytes) (stands-behind piece pieces at ge stands))
]

-- four bytes that stand in pieces are among their bytes
pub stands_within : (pieces : List Piece) (at : ℕ) → StandInOnePiece pieces at → at + 4 ≤ length (bytes_of pieces)
stands_within [] at stands = absurd stands
stands_within (piece ∷ pieces) at stands = elim (cases_lt at (length piece.fragment.bytes)) [
  | inl lt ↦ omega (arith, stands-here piece pieces at lt stands, length-append piece.fragment.bytes (bytes_of pieces))
  | inr ge ↦
      omega (
        arith,
        ge,
        stands_within pieces (at - length piece.fragment.bytes) (stands-behind piece pieces at ge stands),
        length-append piece.fragment.bytes (bytes_of pieces),
      )
]

-- they stand in the chunks that follow this one
pub chunk_at-from : (pieces : List Piece) (first at : ℕ) → Follows first pieces → at < length (bytes_of pieces) → first ≤ chunk_at pieces at
chunk_at-from [] first at follows h = absurd (omega (arith, h))
chunk_at-from (piece ∷ pieces) first at follows h = elim (cases_lt at (length piece.fragment.bytes)) [
  | inl lt ↦ omega (arith, chunk_at-here piece pieces at lt, follows.0)
  | inr ge ↦
      omega (
        arith,
        chunk_at-behind piece pieces at ge,
        chunk_at-from pieces (suc first) (at - length piece.fragment.bytes) follows.1 (omega (arith, ge, h, length-append piece.fragment.bytes (bytes_of pieces))),
      )
]

-- and before the chunk behind them
pub chunk_at-below : (pieces : List Piece) (first at : ℕ) → Follows first pieces → at < length (bytes_of pieces) → chunk_at pieces at < first + length pieces
chunk_at-below [] first at follows h = absurd (omega (arith, h))
chunk_at-below (piece ∷ pieces) first at follows h = elim (cases_lt at (length piece.fragment.bytes)) [
  | inl lt ↦ omega (arith, chunk_at-here piece pieces at lt, follows.0)
  | inr ge ↦
      omega (
        arith,
        chunk_at-behind piece pieces at ge,
        chunk_at-below pieces (suc first) (at - length piece.fragment.bytes) follows.1 (omega (arith, ge, h, length-append piece.fragment.bytes (bytes_of pieces))),
      )
]

-- A patch put into pieces

pub patched_elsewhere : (patch : Patch) (piece : Piece) → (piece.at.chunk_id ≡ patch.chunk_id → ⊥) → patched_piece patch piece ≡ piece
patched_elsewhere patch piece other =
    ap (λ b. cond (b && holds_patch piece.fragment patch) (record piece { fragment = patched_fragment patch piece.fragment }) piece)
    (ne_eqb piece.at.chunk_id patch.chunk_id other)

-- a patch of a chunk before changes none of these
pub patched_before : (pieces : List Piece) (patch : Patch) (first : ℕ) → Follows first pieces → patch.chunk_id < first
    → map (patched_piece patch) pieces ≡ pieces
patched_before [] patch first follows h = refl
patched_before (piece ∷ pieces) patch first follows h =
    ap (λ (one : Piece). one ∷ map (patched_piece patch) pieces) (patched_elsewhere patch piece (λ e. omega (arith, e, follows.0, h)))
    ∙ ap (λ (ps : List Piece). piece ∷ ps) (patched_before pieces patch (suc first) follows.1 (omega (arith, h)))

-- the piece in which it stands
pub patched_here : (patch : Patch) (piece : Piece) (at : ℕ) → piece.at.chunk_id ≡ patch.chunk_id → patch.offset ≡ piece.fragment.offset + at
    → at + 4 ≤ length piece.fragment.bytes → (patched_piece patch piece).fragment.bytes ≡ with_bytes piece.fragment.bytes at patch.bytes
patched_here patch piece at same place within =
    ap (λ b. (cond (b && holds_patch piece.fragment patch) (record piece { fragment = patched_fragment patch piece.fragment }) piece).fragment.bytes)
    (eq-eqb piece.at.chunk_id patch.chunk_id same)
    ∙ ap (λ b. (cond (b && nat_le (patch.offset + 4) (piece.fragment.offset + length piece.fragment.bytes)) (record piece { fragment = patched_fragment patch piece.fragment }) piece).fragment.bytes)
    (le-leb piece.fragment.offset patch.offset (omega (arith, place)))
    ∙ ap (λ b. (cond b (record piece { fragment = patched_fragment patch piece.fragment }) piece).fragment.bytes)
    (le-leb (patch.offset + 4) (piece.fragment.offset + length piece.fragment.bytes) (omega (arith, place, within)))
    ∙ ap (λ (n : ℕ). with_bytes piece.fragment.bytes n patch.bytes) (omega (arith, place))

-- the patch of a length changes just its four bytes
pub bytes_of-patched : (pieces : List Piece) (patch : Patch) (first at : ℕ) → length patch.bytes ≡ 4 → Follows first pieces → StandInOnePiece pieces at
    → patch.chunk_id ≡ chunk_at pieces at → patch.offset ≡ offset_at pieces at
    → bytes_of (map (patched_piece patch) pieces) ≡ with_bytes (bytes_of pieces) at patch.bytes
bytes_of-patched [] patch first at four follows stands chunk place = absurd stands
bytes_of-patched (piece ∷ pieces) patch first at four follows stands chunk place = elim (cases_lt at (length piece.fragment.bytes)) [
  | inl lt ↦
      let within : at + 4 ≤ length piece.fragment.bytes = stands-here piece pieces at lt stands in
      let same : patch.chunk_id ≡ piece.at.chunk_id = chunk ∙ chunk_at-here piece pieces at lt in
      ap (λ (ps : List Piece). (patched_piece patch piece).fragment.bytes ++ bytes_of ps)
      (patched_before pieces patch (suc first) follows.1 (omega (arith, same, follows.0)))
      ∙ ap (λ (xs : List ℕ). xs ++ bytes_of pieces)
      (patched_here patch piece at (sym same) (place ∙ offset_at-here piece pieces at lt) within)
      ∙ sym (with_bytes_left piece.fragment.bytes (bytes_of pieces) patch.bytes at (omega (arith, four, within)))
  | inr ge ↦
      let behind : ℕ = at - length piece.fragment.bytes in
      let stands_there : StandInOnePiece pieces behind = stands-behind piece pieces at ge stands in
      let later : patch.chunk_id ≡ chunk_at pieces behind = chunk ∙ chunk_at-behind piece pieces at ge in
      let least : suc first ≤ chunk_at pieces behind =
      chunk_at-from pieces (suc first) behind follows.1 (omega (arith, stands_within pieces behind stands_there)) in
      ap (λ (one : Piece). one.fragment.bytes ++ bytes_of (map (patched_piece patch) pieces))
      (patched_elsewhere patch piece (λ e. omega (arith, e, later, least, follows.0)))
      ∙ ap (λ (xs : List ℕ). piece.fragment.bytes ++ xs)
      (bytes_of-patched pieces patch (suc first) behind four follows.1 stands_there later (place ∙ offset_at-behind piece pieces at ge))
      ∙ sym (with_bytes_right piece.fragment.bytes (bytes_of pieces) patch.bytes behind)
      ∙ ap (λ (n : ℕ). with_bytes (piece.fragment.bytes ++ bytes_of pieces) n patch.bytes) (omega (arith, ge))
]
