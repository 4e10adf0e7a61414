-- Holes and patches as lists. After the patches of the shared memory ABI of the tracing service: a producer replaces bytes
-- of a chunk that it has handed over already, and says which patch of a chunk is its last.
use Rattle.std.specs.Prelude.{ℕ, not, ◌==◌, List, [], ◌∷◌, map, count_by}
use Rattle.trace_model.specs.Images as model
use Rattle.trace_model.specs.Sent.{is_last_patch}
use Rattle.commit_body.specs.declared.body.Patch.{Patch}
use Rattle.commit_body.specs.declared.hole.Hole.{Hole}

-- the patch as the model has it
abbrev pub patch_value : Patch → model.Patch
patch_value patch =
    record { chunk_id = patch.chunk_id; offset = patch.offset; bytes = patch.bytes; last = patch.last }

-- the chunks that holes are in
abbrev pub hole_chunks : List Hole → List ℕ
hole_chunks holes = map (λ (hole : Hole). hole.chunk_id) holes

-- how many holes aren't in the held chunk
abbrev pub holes_outside : ℕ → List Hole → ℕ
holes_outside held holes = count_by (λ (hole : Hole). not (hole.chunk_id == held)) holes

-- the patches, each with `last` exactly where no later one is for its chunk and that chunk has no open hole
abbrev pub with_lasts : List ℕ → List model.Patch → List model.Patch
with_lasts open_ones [] = []
with_lasts open_ones (patch ∷ later) =
    record patch { last = is_last_patch open_ones patch later } ∷ with_lasts open_ones later
