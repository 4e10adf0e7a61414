-- The row of what a writer wrote: its pages with all patches put in, by the same function that gives a reader its row.
use Rattle.std.specs.Prelude.{ℕ, suc, ◌==◌, false, List, [], ◌∷◌, reverse, if◌then◌else◌}
use Rattle.trace_model.specs.Images.{Fragment, Chunk, Patch, patched_last}
use Rattle.trace_model.specs.Pages.{Page, chunk_of, patches_of}
use Rattle.trace_model.specs.Row.{Slot, Here, Chain, Link, Joined, Gap, Stop, row_of}

-- the fragments of a chunk once those of these patches that are for it are put in, in their order
abbrev pub settled_fragments : List Patch → ℕ → List Fragment → List Fragment
settled_fragments [] chunk_id fragments = fragments
settled_fragments (patch ∷ others) chunk_id fragments =
    settled_fragments others chunk_id (if patch.chunk_id == chunk_id then patched_last patch fragments else fragments)

-- the chunk with nothing to come
abbrev pub settled_chunk : List Patch → ℕ → Chunk → Chunk
settled_chunk patches chunk_id chunk =
    record chunk { awaits = false; fragments = settled_fragments patches chunk_id chunk.fragments }

-- the pages from this position on, once these patches are put in
abbrev pub written_slots : List Patch → ℕ → List Page → List Slot
written_slots patches chunk_id [] = []
written_slots patches chunk_id (page ∷ pages) =
    Here (settled_chunk patches chunk_id (chunk_of page)) ∷ written_slots patches (suc chunk_id) pages

-- the row of all that was written, of which nothing is lost: its stop place is the next chunk's
abbrev pub written_row : List Page → List Link
written_row pages = row_of false 0 0 (written_slots (patches_of pages) 0 pages)

-- the chains of a row
abbrev pub chains_in : List Link → List Chain
chains_in [] = []
chains_in (Joined chain ∷ links) = chain ∷ chains_in links
chains_in (Gap at next lost ∷ links) = chains_in links
chains_in (Stop at why may ∷ links) = chains_in links

-- the chains of the pages, the newest first
abbrev pub chains_of : List Page → List Chain
chains_of pages = reverse (chains_in (written_row pages))
