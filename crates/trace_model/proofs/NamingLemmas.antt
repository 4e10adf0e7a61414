-- What is named by positions is the same once it was named by ids and is read back.
use Rattle.std.proofs.Common.{◌≡◌, ℕ, ◌^◌, ◌<◌, List, [], ◌∷◌, map, refl, ap, ◌∙◌}
use Rattle.std.specs.Prelude.{All}
use Rattle.std.proofs.lemmas.List.Elements.{All-head, All-tail}
use Rattle.std.proofs.lemmas.Simd.{map-map}
use Rattle.trace_base.specs.Ids.{id_of, position_of}
use Rattle.trace_base.proofs.IdLemmas.{position_of_id}
use Rattle.trace_model.specs.Calls.{Call}
use Rattle.trace_model.specs.Images.{Image, Patch}
use Rattle.trace_model.specs.Ids.{placed_image, named_image, placed_patch, named_patch, placed_patches, named_patches}
use Rattle.trace_model.specs.Pages.{Page}
use Rattle.trace_model.specs.Cut.{IsCut, IsCutFrom}

-- the chunk that a patch is for has a position of 32 bits
abbrev pub IsNear : Patch → Type 0
IsNear patch = patch.chunk_id < 2 ^ 32

pub image_read_back : (from : ℕ) (image : Image) → image.chunk_id < 2 ^ 32 → placed_image from (named_image from image) ≡ image
image_read_back from image small = ap (λ (n : ℕ). record image { chunk_id = n }) (position_of_id from image.chunk_id small)

-- an image whose header has the id of a position is the one at that position
pub image_placed : (from position : ℕ) (image : Image) → image.chunk_id ≡ id_of from position → position < 2 ^ 32
    → placed_image from image ≡ record image { chunk_id = position }
image_placed from position image id small =
    ap (λ (n : ℕ). record image { chunk_id = n }) (ap (position_of from) id ∙ position_of_id from position small)

pub patch_read_back : (from : ℕ) (patch : Patch) → IsNear patch → placed_patch from (named_patch from patch) ≡ patch
patch_read_back from patch small = ap (λ (n : ℕ). record patch { chunk_id = n }) (position_of_id from patch.chunk_id small)

pub patches_read_back : (from : ℕ) (patches : List Patch) → All IsNear patches → placed_patches from (named_patches from patches) ≡ patches
patches_read_back from [] near = refl
patches_read_back from (patch ∷ patches) near =
    ap (λ (one : Patch). one ∷ placed_patches from (named_patches from patches)) (patch_read_back from patch (All-head IsNear patch patches near))
    ∙ ap (λ (others : List Patch). patch ∷ others) (patches_read_back from patches (All-tail IsNear patch patches near))

-- a cut is one under its ids too
pub cut_named : (size sequence from : ℕ) (calls : List Call) (images : List Image) (patches : List (List Patch)) → IsCut size sequence calls images patches
    → IsCutFrom size sequence from calls (map (named_image from) images) (map (named_patches from) patches)
cut_named size sequence from calls images patches is = record {
  pages = is.pages;
  images_are = ap (map (named_image from)) is.images_are;
  patches_are = ap (map (named_patches from)) is.patches_are ∙ map-map (named_patches from) (λ (page : Page). page.patches) is.pages;
  cut = is.cut;
}
