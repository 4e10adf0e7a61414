-- Patches as lists: tests of a whole list, and the marks `last`.
use Rattle.std.proofs.Common.{◌≡◌, ℕ, ◌^◌, ◌<◌, ◌==◌, Bool, not, ◌||◌, List, [], ◌∷◌, ◌++◌, map, refl, ap, sym, ◌∙◌, append_assoc}
use Rattle.std.specs.List.{list_any}
use Rattle.std.proofs.lemmas.List.{map-append}
use Rattle.trace_model.specs.Images as model
use Rattle.trace_model.specs.Sequences.{is_among}
use Rattle.trace_model.specs.Sent.{chunks_of, is_last_patch, LastsAre}
use Rattle.trace_model.specs.Ids.{placed_patch, placed_patches}
use Rattle.commit_body.specs.declared.body.Patch.{Patch}
use Rattle.commit_body.specs.declared.hole.Hole.{Hole}
use Rattle.commit_body.specs.Patches.{patch_value, hole_chunks, with_lasts}
use Rattle.trace_base.specs.Ids.{id_of}
use Rattle.trace_base.proofs.IdLemmas.{position_of_id}

pub any_patch : (n : ℕ) (patches : List Patch)
    → is_among n (chunks_of (map patch_value patches)) ≡ list_any (λ (patch : Patch). patch.chunk_id == n) patches
any_patch n [] = refl
any_patch n (patch ∷ patches) = ap (λ found. (patch.chunk_id == n) || found) (any_patch n patches)

pub any_hole : (n : ℕ) (holes : List Hole)
    → is_among n (hole_chunks holes) ≡ list_any (λ (hole : Hole). hole.chunk_id == n) holes
any_hole n [] = refl
any_hole n (hole ∷ holes) = ap (λ found. (hole.chunk_id == n) || found) (any_hole n holes)

-- marks change no chunk
pub chunks_of-with_lasts : (open_ones : List ℕ) (patches : List model.Patch) → chunks_of (with_lasts open_ones patches) ≡ chunks_of patches
chunks_of-with_lasts open_ones [] = refl
chunks_of-with_lasts open_ones (patch ∷ later) = ap (λ chunks. patch.chunk_id ∷ chunks) (chunks_of-with_lasts open_ones later)

-- the marks are as the delivery theorem wants them
pub with_lasts_are : (open_ones : List ℕ) (patches : List model.Patch) → LastsAre open_ones (with_lasts open_ones patches)
with_lasts_are open_ones [] = tt
with_lasts_are open_ones (patch ∷ later) = (
  ap (λ chunks. not (is_among patch.chunk_id chunks || is_among patch.chunk_id open_ones)) (sym (chunks_of-with_lasts open_ones later)),
  with_lasts_are open_ones later,
)

-- one more patch is marked, and named by its id
pub with_lasts_step : (from : ℕ) (open_ones : List ℕ) (done : List Patch) (patch marked : Patch) (later : List Patch)
    → patch.chunk_id < 2 ^ 32
    → marked ≡ record patch { chunk_id = id_of from patch.chunk_id; last = is_last_patch open_ones (patch_value patch) (map patch_value later) }
    → placed_patches from (map patch_value (done ++ marked ∷ [])) ++ with_lasts open_ones (map patch_value later)
    ≡ placed_patches from (map patch_value done) ++ with_lasts open_ones (map patch_value (patch ∷ later))
with_lasts_step from open_ones done patch marked later small is =
    let last : Bool = is_last_patch open_ones (patch_value patch) (map patch_value later) in
    let here : placed_patch from (patch_value marked) ≡ record (patch_value patch) { last = last } =
    ap (λ (p : Patch). placed_patch from (patch_value p)) is
    ∙ ap (λ (n : ℕ). record (patch_value patch) { chunk_id = n; last = last }) (position_of_id from patch.chunk_id small) in
    rw (map-append patch_value done (marked ∷ []), map-append (placed_patch from) (map patch_value done) (patch_value marked ∷ []), append_assoc)
    (ap (λ (p : model.Patch). placed_patches from (map patch_value done) ++ p ∷ with_lasts open_ones (map patch_value later)) here)
