-- The pieces of a chain: their chunks follow one another, four bytes of a nested length stand in one of them, and all but
-- the last are the last fragments of their pages.
use Rattle.std.specs.Prelude.{◌≡◌, ℕ, suc, ◌+◌, ◌-◌, ◌<◌, ◌≤◌, ◌⊎◌, Bool, true, List, [], ◌∷◌, length, nat_lt, MatchBool, Some, slice_get, ⊤}
use Rattle.trace_model.specs.Images.{Fragment}
use Rattle.trace_model.specs.Pages.{Page, chunk_of}
use Rattle.trace_model.specs.Row.{Piece, Chain}

-- the chunks of the pieces follow one another, from this one on
abbrev pub Follows : ℕ → List Piece → Type 0
Follows chunk_id [] = ⊤
Follows chunk_id (piece ∷ pieces) = (piece.at.chunk_id ≡ chunk_id) × Follows (suc chunk_id) pieces

-- the four bytes at a place of a chain stand in one piece
abbrev pub StandInOnePiece : List Piece → ℕ → Type 0
StandInOnePiece [] at = ⊥
StandInOnePiece (piece ∷ pieces) at =
    MatchBool (nat_lt at (length piece.fragment.bytes))
    (at + 4 ≤ length piece.fragment.bytes)
    (StandInOnePiece pieces (at - length piece.fragment.bytes))

-- the four bytes at each of these places of a packet stand in one of its pieces
abbrev pub AllStandIn : List Piece → List ℕ → Type 0
AllStandIn pieces [] = ⊤
AllStandIn pieces (at ∷ others) = StandInOnePiece pieces at × AllStandIn pieces others

-- a payload has room for a fragment's size, for the less than four bytes that may be left, and for a byte more
abbrev pub IsLarge : ℕ → Type 0
IsLarge size = 7 < size

-- the fragment behind these has a byte, where it continues a packet of the page before
abbrev pub ContinuesWithByte : Bool → List (List ℕ) → List ℕ → Type 0
ContinuesWithByte continues done now = continues ≡ true → done ≡ [] → 0 < length now

-- the last of some fragments is this one
abbrev pub EndsWith : List Fragment → Fragment → Type 0
EndsWith [] last = ⊥
EndsWith (fragment ∷ []) last = fragment ≡ last
EndsWith (fragment ∷ next ∷ others) last = EndsWith (next ∷ others) last

-- the piece is the last fragment of a page that runs on
pub record RunsOnFrom (pages : List Page) (piece : Piece) : Type 0 where
  pub page : Page
  pub stands : slice_get pages piece.at.chunk_id ≡ Some page
  pub runs_on : page.runs_on ≡ true
  pub last : EndsWith (chunk_of page).fragments piece.fragment

-- each piece runs on where its page says so
abbrev pub AllRunOn : List Page → List Piece → Type 0
AllRunOn pages [] = ⊤
AllRunOn pages (piece ∷ pieces) = RunsOnFrom pages piece × AllRunOn pages pieces

-- Pieces of older packets

-- the piece ends before a place: in an earlier chunk, or before it in the same one
abbrev pub EndsBefore : ℕ → ℕ → Piece → Type 0
EndsBefore chunk_id offset piece =
    (piece.at.chunk_id < chunk_id)
    ⊎ ((piece.at.chunk_id ≡ chunk_id) × (piece.fragment.offset + length piece.fragment.bytes ≤ offset))

-- each piece of a chain ends before this place
abbrev pub AllEndBefore : ℕ → ℕ → List Piece → Type 0
AllEndBefore chunk_id offset [] = ⊤
AllEndBefore chunk_id offset (piece ∷ pieces) = EndsBefore chunk_id offset piece × AllEndBefore chunk_id offset pieces

-- each piece of each chain ends before this place
abbrev pub ChainsEndBefore : ℕ → ℕ → List Chain → Type 0
ChainsEndBefore chunk_id offset [] = ⊤
ChainsEndBefore chunk_id offset (chain ∷ chains) =
    AllEndBefore chunk_id offset chain.pieces × ChainsEndBefore chunk_id offset chains

-- the first piece begins there
abbrev pub BeginsAt : ℕ → ℕ → List Piece → Type 0
BeginsAt chunk_id offset [] = ⊥
BeginsAt chunk_id offset (piece ∷ pieces) = (piece.at.chunk_id ≡ chunk_id) × (piece.fragment.offset ≡ offset)
