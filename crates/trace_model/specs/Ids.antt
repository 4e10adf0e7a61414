-- Images and patches as they travel, named by ids, and as the definitions have them, named by positions. An image stands so in a table and
-- comes so to a buffer, a patch in the body of a chunk; the sequence says which id its first chunk has.
use Rattle.std.specs.Prelude.{ℕ, List, map}
use Rattle.trace_base.specs.Ids.{id_of, position_of}
use Rattle.trace_model.specs.Images.{Image, Patch}

-- an image that is named by its id, named by its position
abbrev pub placed_image : (from : ℕ) → Image → Image
placed_image from image = record image { chunk_id = position_of from image.chunk_id }

-- an image that is named by its position, named by its id
abbrev pub named_image : (from : ℕ) → Image → Image
named_image from image = record image { chunk_id = id_of from image.chunk_id }

-- a patch that names its chunk by the id, with the chunk's position for it
abbrev pub placed_patch : (from : ℕ) → Patch → Patch
placed_patch from patch = record patch { chunk_id = position_of from patch.chunk_id }

-- a patch that names its chunk by the position, with the chunk's id for it
abbrev pub named_patch : (from : ℕ) → Patch → Patch
named_patch from patch = record patch { chunk_id = id_of from patch.chunk_id }

-- all patches of a body, with positions
abbrev pub placed_patches : (from : ℕ) → List Patch → List Patch
placed_patches from patches = map (placed_patch from) patches

-- all patches of a body, with ids
abbrev pub named_patches : (from : ℕ) → List Patch → List Patch
named_patches from patches = map (named_patch from) patches
