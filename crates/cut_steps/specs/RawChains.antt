-- The chains of a writer's pages before any patch is put in, and how the newest one grows: the fragment that is written
-- now, the fragments of its packet in earlier pages, and the chains before.
use Rattle.std.specs.Prelude.{ℕ, ◌+◌, Bool, true, false, List, [], ◌∷◌, ◌++◌, length, map, reverse, if◌then◌else◌, ◌&&◌, ◌==◌}
use Rattle.trace_model.specs.Images.{Patch, holds_patch, patched_fragment}
use Rattle.trace_model.specs.Sequences.{Cursor}
use Rattle.trace_model.specs.Row.{Piece, Chain, Fate, Whole, Marked, Open, row_of, place}
use Rattle.trace_model.specs.Pages.{Page}
use Rattle.trace_model.specs.Cut.{older_chains}
use Rattle.trace_model.specs.Written.{written_slots, chains_in}

-- the chains of the pages once these patches are put in, the newest first
abbrev pub chains_with : List Patch → List Page → List Chain
chains_with patches pages = reverse (chains_in (row_of false 0 0 (written_slots patches 0 pages)))

-- the chain without the place behind it, which changes as a further fragment is put behind its last one, and which nothing
-- here depends on
abbrev pub placeless : Chain → Chain
placeless chain = record chain { next = chain.at }

-- the chains before any patch
abbrev pub raw_chains : List Page → List Chain
raw_chains pages = map placeless (chains_with [] pages)

-- Patches put into pieces

-- the patch changes the piece that its four bytes stand in
abbrev pub patched_piece : Patch → Piece → Piece
patched_piece patch piece =
    if (piece.at.chunk_id == patch.chunk_id) && holds_patch piece.fragment patch
    then record piece { fragment = patched_fragment patch piece.fragment }
    else piece

-- the piece once all are put in, in their order
abbrev pub settled_piece : List Patch → Piece → Piece
settled_piece [] piece = piece
settled_piece (patch ∷ patches) piece = settled_piece patches (patched_piece patch piece)

-- the chain with the patches put in
abbrev pub settled_chain : List Patch → Chain → Chain
settled_chain patches chain = record chain { pieces = map (settled_piece patches) chain.pieces }

-- The newest fragment

-- a page that holds these fragments and nothing else is known of
abbrev pub page_with : Bool → List (List ℕ) → Page
page_with continues fragments = record {
  continues = continues;
  runs_on = false;
  awaits = false;
  fragments = fragments;
  dropped = false;
  rest = [];
  patches = [];
}

-- the pieces of the newest chain
abbrev pub newest_pieces : List Chain → List Piece
newest_pieces [] = []
newest_pieces (chain ∷ older) = chain.pieces

-- Behind these pages, in a page that continues the one before or not, behind these fragments: the pieces of the
-- packet of the next fragment in earlier pages
abbrev pub earlier_pieces : List Page → Bool → List (List ℕ) → List Piece
earlier_pieces pages true [] = newest_pieces (raw_chains pages)
earlier_pieces pages true (first ∷ others) = []
earlier_pieces pages false done = []

-- and the chains before that packet's
abbrev pub chains_before : List Page → Bool → List (List ℕ) → List Chain
chains_before pages true [] = older_chains (raw_chains pages)
chains_before pages false [] = raw_chains pages
chains_before pages continues (first ∷ others) = raw_chains (pages ++ page_with continues (first ∷ others) ∷ [])

-- the place of the first byte of the fragment behind these, where the first of them has its size at the place `at - 4`
abbrev pub offset_behind : ℕ → List (List ℕ) → ℕ
offset_behind at [] = at
offset_behind at (bytes ∷ others) = offset_behind (at + length bytes + 4) others

-- the fragment with these bytes, behind those
abbrev pub piece_behind : List Page → List (List ℕ) → List ℕ → Bool → Bool → Piece
piece_behind pages done now runs_on dropped = record {
  at = place (length pages) (length done);
  fragment = record { bytes = now; dropped = dropped; offset = offset_behind 4 done };
  runs_on = runs_on;
}

-- the fragment while it is written
abbrev pub current_piece : List Page → List (List ℕ) → List ℕ → Piece
current_piece pages done now = piece_behind pages done now false false

-- the pieces of the packet that is being written
abbrev pub current_pieces : List Page → Bool → List (List ℕ) → List ℕ → List Piece
current_pieces pages continues done now = earlier_pieces pages continues done ++ current_piece pages done now ∷ []

-- what becomes of a chain that ends with this piece
abbrev pub fate_of : Piece → Fate
fate_of piece = if piece.fragment.dropped then Marked else (if piece.runs_on then Open else Whole)

-- where a chain of these pieces begins
abbrev pub start_of : List Piece → Piece → Cursor
start_of [] piece = piece.at
start_of (first ∷ others) piece = first.at

-- the chain whose last fragment, the last of its page, is this piece
abbrev pub chain_to : List Page → Bool → List (List ℕ) → Piece → Chain
chain_to pages continues done piece = record {
  at = start_of (earlier_pieces pages continues done) piece;
  next = start_of (earlier_pieces pages continues done) piece;
  headless = false;
  pieces = earlier_pieces pages continues done ++ piece ∷ [];
  awaits = false;
  fate = fate_of piece;
}

-- the chain of the packet that is being written
abbrev pub current_chain : List Page → Bool → List (List ℕ) → List ℕ → Chain
current_chain pages continues done now = chain_to pages continues done (current_piece pages done now)
