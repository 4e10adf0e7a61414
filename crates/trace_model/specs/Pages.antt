-- The images of a writer, taken apart: which fragments it wrote, and how they stand in the payload.
use Rattle.std.specs.Prelude.{ℕ, suc, ◌+◌, Bool, true, false, List, [], ◌∷◌, ◌++◌, length, if◌then◌else◌}
use Rattle.std.specs.List.{flat_map}
use Rattle.wire_varint.specs.Varint.{redundant}
use Rattle.trace_model.specs.Images.{Fragment, Image, Chunk, Patch}
use Rattle.trace_model.specs.Fragments.{drop_mark}

-- A chunk as its writer filled it: the bytes of its fragments, whether the last one has the drop mark, the unused bytes
-- behind them, and the patches that stand in its commit body.
pub record Page : Type 0 where
  pub continues : Bool
  pub runs_on : Bool
  pub awaits : Bool
  pub fragments : List (List ℕ)
  pub dropped : Bool
  pub rest : List ℕ
  pub patches : List Patch

-- a writer's fragment has its size in four bytes
abbrev pub framed : List ℕ → List ℕ
framed bytes = redundant (length bytes) ++ bytes

-- the fragments as they stand in the payload, and what is behind them
abbrev pub laid : Bool → List (List ℕ) → List ℕ → List ℕ
laid dropped [] rest = rest
laid true (bytes ∷ []) rest = drop_mark ++ bytes ++ rest
laid false (bytes ∷ []) rest = framed bytes ++ rest
laid dropped (bytes ∷ next ∷ others) rest = framed bytes ++ laid dropped (next ∷ others) rest

-- the flag, where it is set
abbrev pub flag_where : Bool → ℕ → ℕ
flag_where set flag = if set then flag else 0

-- the flags of the page's chunk header (the ABI)
abbrev pub flags_of : Page → ℕ
flags_of page = flag_where page.continues 1 + flag_where page.runs_on 2 + flag_where page.awaits 4

-- the page as an image of this sequence, at this position
abbrev pub image_of : ℕ → ℕ → Page → Image
image_of sequence chunk_id page = record {
  sequence = sequence;
  chunk_id = chunk_id;
  count = length page.fragments;
  flags = flags_of page;
  payload = laid page.dropped page.fragments page.rest;
}

-- the images of a writer's pages, which have the positions from this one on
abbrev pub images_from : ℕ → ℕ → List Page → List Image
images_from sequence chunk_id [] = []
images_from sequence chunk_id (page ∷ pages) =
    image_of sequence chunk_id page ∷ images_from sequence (suc chunk_id) pages

-- the fragments, the first of which has its bytes from this place on
abbrev pub fragments_from : ℕ → Bool → List (List ℕ) → List Fragment
fragments_from at dropped [] = []
fragments_from at dropped (bytes ∷ []) = record { bytes = bytes; dropped = dropped; offset = at } ∷ []
fragments_from at dropped (bytes ∷ next ∷ others) =
    record { bytes = bytes; dropped = false; offset = at }
    ∷ fragments_from (at + length bytes + 4) dropped (next ∷ others)

-- the page as a reader meets it, before any patch
abbrev pub chunk_of : Page → Chunk
chunk_of page = record {
  continues = page.continues;
  runs_on = page.runs_on;
  awaits = page.awaits;
  partial = false;
  fragments = fragments_from 4 page.dropped page.fragments;
}

-- all patches of the pages, in the order in which they come
abbrev pub patches_of : List Page → List Patch
patches_of pages = flat_map (λ (page : Page). page.patches) pages
