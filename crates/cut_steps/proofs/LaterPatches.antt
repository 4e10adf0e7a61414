-- One patch more: what it does to pieces and chains.
use Rattle.std.proofs.Common.{◌≡◌, ◌∙◌, ℕ, suc, ◌+◌, ◌-◌, ◌<◌, ◌≤◌, ◌⊎◌, false, ◌&&◌, cond, List, [], ◌∷◌, ◌++◌, length, map, refl, sym, ap, subst, arith, inl, inr}
use Rattle.std.specs.Prelude.{◌==◌, nat_lt, nat_le, MatchBool}
use Rattle.std.specs.List.{AllZip}
use Rattle.std.proofs.lemmas.List.{append-nil}
use Rattle.std.proofs.lemmas.Bool.{cases_lt, cases_Bool, and_parts, leb-true, lt-leb, and_right}
use Rattle.trace_model.specs.Images.{Patch, holds_patch, patched_fragment}
use Rattle.trace_model.specs.Packets.{Packet}
use Rattle.trace_model.specs.Pages.{Page, patches_of}
use Rattle.trace_model.specs.Row.{Piece, Chain, bytes_of}
use Rattle.trace_model.specs.Sent.{chunk_at, offset_at, AllChunksBelow}
use Rattle.trace_model.specs.Cut.{AreBytesOf}
use Rattle.commit_body.specs.declared.hole.Hole.{Hole}
use Rattle.commit_body.specs.Patches.{hole_chunks, with_lasts}
use Rattle.cut_steps.specs.RawChains.{patched_piece, settled_piece}
use Rattle.cut_steps.specs.RawCut.{IsRawChainOf}
use Rattle.cut_steps.specs.Pieces.{Follows, StandInOnePiece, EndsBefore, AllEndBefore, ChainsEndBefore, BeginsAt}
use Rattle.cut_steps.specs.Growth.{settled_bytes}
use Rattle.cut_steps.specs.Pending.{patches_so_far, AllHaveFour}
use Rattle.cut_steps.proofs.SamePlaces.{SameShape, SamePlaces}
use Rattle.cut_steps.proofs.Places.{length_with_bytes, patched_elsewhere, chunk_at-here, chunk_at-behind, offset_at-here, chunk_at-from, stands-behind, stands_within}

-- patches that act alike
abbrev pub SettleAlike : List Patch → List Patch → Type 0
SettleAlike a b = (piece : Piece) → settled_piece a piece ≡ settled_piece b piece

-- the second ones are the first and then this patch
abbrev pub SettleLater : List Patch → Patch → List Patch → Type 0
SettleLater a patch b = (piece : Piece) → settled_piece b piece ≡ patched_piece patch (settled_piece a piece)

settled-append : (a b : List Patch) (piece : Piece) → settled_piece (a ++ b) piece ≡ settled_piece b (settled_piece a piece)
settled-append [] b piece = refl
settled-append (patch ∷ a) b piece = settled-append a b (patched_piece patch piece)

settled-with_lasts : (open_ones : List ℕ) (patches : List Patch) (piece : Piece) → settled_piece (with_lasts open_ones patches) piece ≡ settled_piece patches piece
settled-with_lasts open_ones [] piece = refl
settled-with_lasts open_ones (patch ∷ patches) piece = settled-with_lasts open_ones patches (patched_piece patch piece)

settled_so_far : (pages : List Page) (holes : List Hole) (unsent : List Patch) (piece : Piece)
    → settled_piece (patches_so_far pages holes unsent) piece ≡ settled_piece unsent (settled_piece (patches_of pages) piece)
settled_so_far pages holes unsent piece =
    settled-append (patches_of pages) (with_lasts (hole_chunks holes) unsent) piece
    ∙ settled-with_lasts (hole_chunks holes) unsent (settled_piece (patches_of pages) piece)

-- which holes are open doesn't matter
pub so_far_alike : (pages : List Page) (a b : List Hole) (unsent : List Patch) → SettleAlike (patches_so_far pages a unsent) (patches_so_far pages b unsent)
so_far_alike pages a b unsent piece = settled_so_far pages a unsent piece ∙ sym (settled_so_far pages b unsent piece)

pub so_far_later : (pages : List Page) (a b : List Hole) (unsent : List Patch) (patch : Patch)
    → SettleLater (patches_so_far pages a unsent) patch (patches_so_far pages b (unsent ++ patch ∷ []))
so_far_later pages a b unsent patch piece =
    settled_so_far pages b (unsent ++ patch ∷ []) piece
    ∙ settled-append unsent (patch ∷ []) (settled_piece (patches_of pages) piece)
    ∙ sym (ap (patched_piece patch) (settled_so_far pages a unsent piece))

have_four-append : (a b : List Patch) → AllHaveFour a → AllHaveFour b → AllHaveFour (a ++ b)
have_four-append [] b here there = there
have_four-append (patch ∷ a) b here there = (here.0, have_four-append a b here.1 there)

have_four-front : (a b : List Patch) → AllHaveFour (a ++ b) → AllHaveFour a
have_four-front [] b both = tt
have_four-front (patch ∷ a) b both = (both.0, have_four-front a b both.1)

have_four-back : (a b : List Patch) → AllHaveFour (a ++ b) → AllHaveFour b
have_four-back [] b both = both
have_four-back (patch ∷ a) b both = have_four-back a b both.1

have_four-marked : (open_ones : List ℕ) (patches : List Patch) → AllHaveFour patches → AllHaveFour (with_lasts open_ones patches)
have_four-marked open_ones [] four = tt
have_four-marked open_ones (patch ∷ patches) four = (four.0, have_four-marked open_ones patches four.1)

have_four-unmarked : (open_ones : List ℕ) (patches : List Patch) → AllHaveFour (with_lasts open_ones patches) → AllHaveFour patches
have_four-unmarked open_ones [] four = tt
have_four-unmarked open_ones (patch ∷ patches) four = (four.0, have_four-unmarked open_ones patches four.1)

pub so_far_four : (pages : List Page) (a b : List Hole) (unsent more : List Patch) → AllHaveFour more
    → AllHaveFour (patches_so_far pages a unsent) → AllHaveFour (patches_so_far pages b (unsent ++ more))
so_far_four pages a b unsent more new four =
    have_four-append (patches_of pages) (with_lasts (hole_chunks b) (unsent ++ more))
    (have_four-front (patches_of pages) (with_lasts (hole_chunks a) unsent) four)
    (have_four-marked (hole_chunks b) (unsent ++ more)
    (have_four-append unsent more (have_four-unmarked (hole_chunks a) unsent (have_four-back (patches_of pages) (with_lasts (hole_chunks a) unsent) four)) new))

pub so_far_marked : (pages : List Page) (a b : List Hole) (unsent : List Patch) → AllHaveFour (patches_so_far pages a unsent) → AllHaveFour (patches_so_far pages b unsent)
so_far_marked pages a b unsent four =
    subst (λ (patches : List Patch). AllHaveFour (patches_so_far pages b patches)) (append-nil unsent) (so_far_four pages a b unsent [] tt four)

-- Shapes

patched_shape : (patch : Patch) (piece : Piece) → length patch.bytes ≡ 4 → SameShape (patched_piece patch piece) piece
patched_shape patch piece four = elim (cases_Bool ((piece.at.chunk_id == patch.chunk_id) && holds_patch piece.fragment patch)) [
  | inl met ↦
      let new : Piece = record piece { fragment = patched_fragment patch piece.fragment } in
      let is : patched_piece patch piece ≡ new = ap (λ b. cond b new piece) met in
      let held = (and_parts (piece.at.chunk_id == patch.chunk_id) (holds_patch piece.fragment patch) met).1 in
      let bounds = and_parts (nat_le piece.fragment.offset patch.offset) (nat_le (patch.offset + 4) (piece.fragment.offset + length piece.fragment.bytes)) held in
      let low : piece.fragment.offset ≤ patch.offset = leb-true piece.fragment.offset patch.offset bounds.0 in
      let high : patch.offset + 4 ≤ piece.fragment.offset + length piece.fragment.bytes = leb-true (patch.offset + 4) (piece.fragment.offset + length piece.fragment.bytes) bounds.1 in
      subst (λ (one : Piece). SameShape one piece) (sym is)
      (record { at = refl; offset = refl; long = length_with_bytes piece.fragment.bytes patch.bytes (patch.offset - piece.fragment.offset) (omega (arith, low, high, four)) })
  | inr missed ↦
      let is : patched_piece patch piece ≡ piece = ap (λ b. cond b (record piece { fragment = patched_fragment patch piece.fragment }) piece) missed in
      subst (λ (one : Piece). SameShape one piece) (sym is) (record { at = refl; offset = refl; long = refl })
]

pub settled_shape : (patches : List Patch) (piece : Piece) → AllHaveFour patches → SameShape (settled_piece patches piece) piece
settled_shape [] piece four = record { at = refl; offset = refl; long = refl }
settled_shape (patch ∷ patches) piece four =
    let one : SameShape (patched_piece patch piece) piece = patched_shape patch piece four.0 in
    let rest : SameShape (settled_piece patches (patched_piece patch piece)) (patched_piece patch piece) = settled_shape patches (patched_piece patch piece) four.1 in
    record { at = rest.at ∙ one.at; offset = rest.offset ∙ one.offset; long = rest.long ∙ one.long }

pub follows_settled : (pieces : List Piece) (patches : List Patch) (first : ℕ) → AllHaveFour patches → Follows first pieces → Follows first (map (settled_piece patches) pieces)
follows_settled [] patches first four follows = tt
follows_settled (piece ∷ pieces) patches first four follows = (
  ap (λ place. place.chunk_id) (settled_shape patches piece four).at ∙ follows.0,
  follows_settled pieces patches (suc first) four follows.1,
)

pub settled-places : (patches : List Patch) (pieces : List Piece) → AllHaveFour patches → SamePlaces (map (settled_piece patches) pieces) pieces
settled-places patches [] four = tt
settled-places patches (piece ∷ pieces) four = (settled_shape patches piece four, settled-places patches pieces four)

pub stands-settled : (pieces : List Piece) (patches : List Patch) (at : ℕ) → AllHaveFour patches → StandInOnePiece pieces at → StandInOnePiece (map (settled_piece patches) pieces) at
stands-settled [] patches at four stands = stands
stands-settled (piece ∷ pieces) patches at four stands = subst
    (λ (n : ℕ). MatchBool (nat_lt at n) (at + 4 ≤ n) (StandInOnePiece (map (settled_piece patches) pieces) (at - n)))
    (sym (settled_shape patches piece four).long)
    (elim (cases_Bool (nat_lt at (length piece.fragment.bytes))) [
      | inl met ↦
          subst (λ b. MatchBool b (at + 4 ≤ length piece.fragment.bytes) (StandInOnePiece (map (settled_piece patches) pieces) (at - length piece.fragment.bytes))) (sym met)
          (subst (λ b. MatchBool b (at + 4 ≤ length piece.fragment.bytes) (StandInOnePiece pieces (at - length piece.fragment.bytes))) met stands)
      | inr missed ↦
          subst (λ b. MatchBool b (at + 4 ≤ length piece.fragment.bytes) (StandInOnePiece (map (settled_piece patches) pieces) (at - length piece.fragment.bytes))) (sym missed)
          (stands-settled pieces patches (at - length piece.fragment.bytes) four
          (subst (λ b. MatchBool b (at + 4 ≤ length piece.fragment.bytes) (StandInOnePiece pieces (at - length piece.fragment.bytes))) missed stands))
    ])

-- Bytes

pub bytes-alike : (pieces : List Piece) (a b : List Patch) → SettleAlike a b → settled_bytes a pieces ≡ settled_bytes b pieces
bytes-alike [] a b alike = refl
bytes-alike (piece ∷ pieces) a b alike =
    ap (λ (one : Piece). one.fragment.bytes ++ settled_bytes a pieces) (alike piece)
    ∙ ap (λ (xs : List ℕ). (settled_piece b piece).fragment.bytes ++ xs) (bytes-alike pieces a b alike)

pub bytes-later : (pieces : List Piece) (a : List Patch) (patch : Patch) (b : List Patch) → SettleLater a patch b
    → settled_bytes b pieces ≡ bytes_of (map (patched_piece patch) (map (settled_piece a) pieces))
bytes-later [] a patch b later = refl
bytes-later (piece ∷ pieces) a patch b later =
    ap (λ (one : Piece). one.fragment.bytes ++ settled_bytes b pieces) (later piece)
    ∙ ap (λ (xs : List ℕ). (patched_piece patch (settled_piece a piece)).fragment.bytes ++ xs) (bytes-later pieces a patch b later)

-- patches of chunks before it change no piece
pub settled-newer : (patches : List Patch) (piece : Piece) → AllChunksBelow piece.at.chunk_id patches → settled_piece patches piece ≡ piece
settled-newer [] piece below = refl
settled-newer (patch ∷ patches) piece below =
    ap (settled_piece patches) (patched_elsewhere patch piece (λ e. omega (arith, e, below.0)))
    ∙ settled-newer patches piece below.1

-- Chains before

-- the patch stands at the place or behind it
abbrev pub StandsBehind : ℕ → ℕ → Patch → Type 0
StandsBehind chunk_id offset patch = (chunk_id < patch.chunk_id) ⊎ ((chunk_id ≡ patch.chunk_id) × (offset ≤ patch.offset))

patched_behind : (patch : Patch) (piece : Piece) (chunk_id offset : ℕ) → StandsBehind chunk_id offset patch → EndsBefore chunk_id offset piece → patched_piece patch piece ≡ piece
patched_behind patch piece chunk_id offset behind before = elim before [
  | inl earlier ↦ patched_elsewhere patch piece (λ e. elim behind [
    | inl later ↦ omega (arith, e, earlier, later)
    | inr same ↦ omega (arith, e, earlier, same.0)
  ])
  | inr here ↦ elim behind [
    | inl later ↦ patched_elsewhere patch piece (λ e. omega (arith, e, here.0, later))
    | inr same ↦
        ap (λ b. cond ((piece.at.chunk_id == patch.chunk_id) && b) (record piece { fragment = patched_fragment patch piece.fragment }) piece)
        (and_right (nat_le piece.fragment.offset patch.offset) (nat_le (patch.offset + 4) (piece.fragment.offset + length piece.fragment.bytes))
        (lt-leb (patch.offset + 4) (piece.fragment.offset + length piece.fragment.bytes) (omega (arith, here.1, same.1))))
        ∙ ap (λ b. cond b (record piece { fragment = patched_fragment patch piece.fragment }) piece)
        (and_right (piece.at.chunk_id == patch.chunk_id) false refl)
  ]
]

ends_before-shaped : (a b : Piece) (chunk_id offset : ℕ) → SameShape a b → EndsBefore chunk_id offset b → EndsBefore chunk_id offset a
ends_before-shaped a b chunk_id offset shape before =
    let chunk : a.at.chunk_id ≡ b.at.chunk_id = ap (λ place. place.chunk_id) shape.at in
    let offset_is : a.fragment.offset ≡ b.fragment.offset = shape.offset in
    let long : length a.fragment.bytes ≡ length b.fragment.bytes = shape.long in
    elim before [
      | inl earlier ↦ inl (omega (arith, earlier, chunk))
      | inr here ↦ inr (chunk ∙ here.0, omega (arith, here.1, offset_is, long))
    ]

unchanged : (pieces : List Piece) (a : List Patch) (patch : Patch) (b : List Patch) (chunk_id offset : ℕ) → SettleLater a patch b → AllHaveFour a
    → StandsBehind chunk_id offset patch → AllEndBefore chunk_id offset pieces → settled_bytes b pieces ≡ settled_bytes a pieces
unchanged [] a patch b chunk_id offset later four behind before = refl
unchanged (piece ∷ pieces) a patch b chunk_id offset later four behind before =
    ap (λ (one : Piece). one.fragment.bytes ++ settled_bytes b pieces)
    (later piece
    ∙ patched_behind patch (settled_piece a piece) chunk_id offset behind (ends_before-shaped (settled_piece a piece) piece chunk_id offset (settled_shape a piece four) before.0))
    ∙ ap (λ (xs : List ℕ). (settled_piece a piece).fragment.bytes ++ xs) (unchanged pieces a patch b chunk_id offset later four behind before.1)

raw_chain-same : (size : ℕ) (a b : List Patch) (packet : Packet) (chain : Chain) → settled_bytes b chain.pieces ≡ settled_bytes a chain.pieces
    → IsRawChainOf size a packet chain → IsRawChainOf size b packet chain
raw_chain-same size a b packet chain same is =
    record { marked = is.marked; bytes = subst (AreBytesOf packet) (sym same) is.bytes; ends = is.ends; goes_on = is.goes_on; lengths = is.lengths }

-- patches that act alike leave chains alike
pub chains-alike : (packets : List Packet) (chains : List Chain) (size : ℕ) (a b : List Patch) → SettleAlike a b
    → AllZip (IsRawChainOf size a) packets chains → AllZip (IsRawChainOf size b) packets chains
chains-alike [] [] size a b alike are = are
chains-alike [] (chain ∷ chains) size a b alike are = are
chains-alike (packet ∷ packets) [] size a b alike are = are
chains-alike (packet ∷ packets) (chain ∷ chains) size a b alike are = (
  raw_chain-same size a b packet chain (sym (bytes-alike chain.pieces a b alike)) are.0,
  chains-alike packets chains size a b alike are.1,
)

-- a later patch changes no chain before
pub chains-later : (packets : List Packet) (chains : List Chain) (size : ℕ) (a : List Patch) (patch : Patch) (b : List Patch) (chunk_id offset : ℕ)
    → SettleLater a patch b → AllHaveFour a → StandsBehind chunk_id offset patch → ChainsEndBefore chunk_id offset chains
    → AllZip (IsRawChainOf size a) packets chains → AllZip (IsRawChainOf size b) packets chains
chains-later [] [] size a patch b chunk_id offset later four behind before are = are
chains-later [] (chain ∷ chains) size a patch b chunk_id offset later four behind before are = are
chains-later (packet ∷ packets) [] size a patch b chunk_id offset later four behind before are = are
chains-later (packet ∷ packets) (chain ∷ chains) size a patch b chunk_id offset later four behind before are = (
  raw_chain-same size a b packet chain (unchanged chain.pieces a patch b chunk_id offset later four behind before.0) are.0,
  chains-later packets chains size a patch b chunk_id offset later four behind before.1 are.1,
)

-- what stands in a chain stands behind its begin
pub stands_behind-begin : (pieces : List Piece) (first offset at : ℕ) (patch : Patch) → BeginsAt first offset pieces → Follows first pieces → StandInOnePiece pieces at
    → patch.chunk_id ≡ chunk_at pieces at → patch.offset ≡ offset_at pieces at → StandsBehind first offset patch
stands_behind-begin [] first offset at patch begins follows stands chunk place = absurd begins
stands_behind-begin (piece ∷ pieces) first offset at patch begins follows stands chunk place = elim (cases_lt at (length piece.fragment.bytes)) [
  | inl lt ↦
      inr (sym (chunk ∙ chunk_at-here piece pieces at lt ∙ begins.0), omega (arith, place, offset_at-here piece pieces at lt, begins.1))
  | inr ge ↦
      inl (omega (
        arith,
        chunk,
        chunk_at-behind piece pieces at ge,
        chunk_at-from pieces (suc first) (at - length piece.fragment.bytes) follows.1 (omega (arith, stands_within pieces (at - length piece.fragment.bytes) (stands-behind piece pieces at ge stands))),
      ))
]
