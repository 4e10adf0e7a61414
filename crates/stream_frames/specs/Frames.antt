-- The frames of a commit stream, and how each is spelled. What a commit brings is what a producer sends with a chunk in the shared memory
-- ABI and the service's requests: the buffer that it is for, the chunk's header and payload, and patches for earlier chunks. The frames
-- around it are this profile's. All numbers stand with their lowest byte first.
use Rattle.std.specs.Prelude.{◌≡◌, ℕ, ◌-◌, ◌^◌, ◌<◌, ◌≤◌, Bool, true, false, List, [], ◌∷◌, ◌++◌, length, slice_index_or, if◌then◌else◌}
use Rattle.std.specs.List.{flat_map, AllByRecursion}
use Rattle.std.specs.Int.{w32, w64, to_le_bytes}
use Rattle.trace_base.specs.declared.limits.TheConstants.{MAX_FRAGMENTS}
use Rattle.page_geometry.specs.declared.chunk_header.ChunkHeader.{ChunkHeader}
use Rattle.page_geometry.specs.declared.chunk_header.TheConstants.{MAX_FLAGS}
use Rattle.page_geometry.specs.Header.{packed}
use Rattle.commit_body.specs.declared.body.TheConstants.{MAX_PATCHES}
use Rattle.trace_model.specs.Images.{Patch}

-- a commit, with the bytes of its payload that were sent
pub record Commit : Type 0 where
  pub target : ℕ
  pub header : ChunkHeader
  pub patches : List Patch
  pub payload : List ℕ

-- a frame: a commit, the read of a buffer, or the close
pub data Frame : Type 0 where
  Commits : Commit → Frame
  Reads : (buffer : ℕ) → Frame
  Closes : Frame

-- the stream ends with it
abbrev pub closes : Frame → Bool
closes (Commits commit) = false
closes (Reads buffer) = false
closes Closes = true

-- what frames may name: so many buffers, and by source the payload size of its chunks
pub record Limits : Type 0 where
  pub buffers : ℕ
  pub sizes : List ℕ

-- the payload size of the source with this number, counted from 1
abbrev pub payload_size_of : Limits → ℕ → ℕ
payload_size_of limits source = slice_index_or limits.sizes (source - 1) 0

-- ---- the bytes of a frame

-- a yes or a no as a byte
abbrev pub flag_byte : Bool → ℕ
flag_byte flag = if flag then 1 else 0

-- a patch: the chunk, the place in its payload, the four bytes, and whether no later one is for this chunk
abbrev pub patch_bytes : Patch → List ℕ
patch_bytes patch =
    to_le_bytes w32 patch.chunk_id ++ (to_le_bytes w32 patch.offset ++ (patch.bytes ++ (flag_byte patch.last ∷ [])))

-- the target, the header, the number of patches, the patches, and the payload, which has all that is left
abbrev pub commit_bytes : Commit → List ℕ
commit_bytes commit =
    commit.target ∷ (to_le_bytes w64 (packed commit.header)
    ++ (length commit.patches ∷ (flat_map patch_bytes commit.patches ++ commit.payload)))

-- the kind comes first
abbrev pub frame_bytes : Frame → List ℕ
frame_bytes (Commits commit) = 1 ∷ commit_bytes commit
frame_bytes (Reads buffer) = 2 ∷ (buffer ∷ [])
frame_bytes Closes = 3 ∷ []

-- ---- which frames there are

-- bytes are numbers below 256
abbrev pub AreBytes : List ℕ → Type 0
AreBytes bytes = (index : ℕ) → slice_index_or bytes index 0 < 256

-- the buffer is there; buffers count from 1
abbrev pub IsBuffer : Limits → ℕ → Type 0
IsBuffer limits buffer = (1 ≤ buffer) × (buffer ≤ limits.buffers)

-- the numbers of a header fit their places
pub record IsHeader (header : ChunkHeader) : Type 0 where
  pub chunk_id : header.chunk_id < 2 ^ 32
  pub writer_id : header.writer_id < 2 ^ 16
  pub count : header.count ≤ MAX_FRAGMENTS
  pub flags : header.flags ≤ MAX_FLAGS

-- those of a patch do
pub record IsPatch (patch : Patch) : Type 0 where
  pub chunk_id : patch.chunk_id < 2 ^ 32
  pub offset : patch.offset < 2 ^ 32
  pub four : length patch.bytes ≡ 4

-- Target and writer are there, and the payload isn't longer than that of the writer's chunks.
pub record IsCommit (limits : Limits) (commit : Commit) : Type 0 where
  pub target : IsBuffer limits commit.target
  pub header : IsHeader commit.header
  pub least : 1 ≤ commit.header.writer_id
  pub most : commit.header.writer_id ≤ length limits.sizes
  pub few : length commit.patches ≤ MAX_PATCHES
  pub patches : AllByRecursion IsPatch commit.patches
  pub fits : length commit.payload ≤ payload_size_of limits commit.header.writer_id

-- the frame keeps to the limits
abbrev pub IsFrame : Limits → Frame → Type 0
IsFrame limits (Commits commit) = IsCommit limits commit
IsFrame limits (Reads buffer) = IsBuffer limits buffer
IsFrame limits Closes = Unit {0}
