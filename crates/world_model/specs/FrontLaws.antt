-- What a look found of a chunk that was written is a front of the chunk's image, as it is asked of an account.
use Rattle.std.specs.Prelude.{◌≡◌, ℕ, ◌+◌, ◌<◌, List, ◌++◌, length}
use Rattle.std.specs.List.{flat_map}
use Rattle.trace_model.specs.Fragments.{drop_size}
use Rattle.trace_model.specs.Images.{Image}
use Rattle.trace_model.specs.Pages.{framed}
use Rattle.chunk_plain.specs.Payload.{byte_at, byte_in}
use Rattle.chunk_plain.specs.Views.{Content, Draft, Found, Held, Completed}
use Rattle.chunk_plain.specs.Drafts.{IsDraft, IsFound, StillHas}
use Rattle.world_model.specs.Accounts.{IsFrontOf}

-- The image stands in the words of a held chunk: its header says the image's count and flags, and the bytes of all fragments but
-- the last one are there.
pub record StandsInWords (draft : Draft) (image : Image) : Type 0 where
  pub head : draft.head ≡ record { count = image.count; flags = image.flags }
  pub before : List (List ℕ)
  pub count : image.count ≡ length before + 1
  pub rest : List ℕ
  pub payload : image.payload ≡ flat_map framed before ++ rest
  pub bytes : (j : ℕ) → j < length (flat_map framed before) → byte_at draft.words j ≡ byte_in (flat_map framed before) j

-- What was found, with a finished fragment at least, and is there still, is a front of the chunk's image: of what was completed,
-- or of what its writer holds.
pub record FindsAreFronts : Type 0 where
  pub completed : (about chunk : ℕ) (found : Found) (content : Content) → IsFound found
      → StillHas about found (Completed chunk content) → 0 < length found.ends → IsFrontOf found content.image
  pub held : (about chunk : ℕ) (found : Found) (draft : Draft) (image : Image) → IsFound found
      → StillHas about found (Held chunk draft) → IsDraft draft → StandsInWords draft image → length image.payload < drop_size
      → 0 < length found.ends → IsFrontOf found image
