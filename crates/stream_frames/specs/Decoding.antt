-- Reading a frame from left to right: a field is its value, and the bytes behind it.
use Rattle.std.specs.Prelude.{ℕ, zero, suc, Bool, true, false, ◌&&◌, nat_lt, nat_le, ◌==◌, List, [], ◌∷◌, length, take, drop, Option, Some, None, if◌then◌else◌}
use Rattle.std.specs.Int.{Width, w32, w64, byte_len, from_le_bytes}
use Rattle.page_geometry.specs.Header.{unpacked}
use Rattle.commit_body.specs.declared.body.TheConstants.{MAX_PATCHES}
use Rattle.trace_model.specs.Images.{Patch}
use Rattle.stream_frames.specs.Frames.{Commit, Frame, Commits, Reads, Closes, Limits, payload_size_of}

infixl 10 ◌>>=◌
-- what is done with a value where there is one
abbrev pub ◌>>=◌ : {A B : Type 0} → Option A → (A → Option B) → Option B
(Some x) >>= f = f x
None >>= f = None

-- one byte
abbrev pub byte_at : List ℕ → Option (ℕ × List ℕ)
byte_at [] = None
byte_at (byte ∷ bytes) = Some (byte, bytes)

-- a number, its lowest byte first
abbrev pub number_at : Width → List ℕ → Option (ℕ × List ℕ)
number_at w bytes =
    if nat_lt (length bytes) (byte_len w) then None
    else Some (from_le_bytes w (take (byte_len w) bytes), drop (byte_len w) bytes)

-- four bytes
abbrev pub four_at : List ℕ → Option (List ℕ × List ℕ)
four_at bytes = if nat_lt (length bytes) 4 then None else Some (take 4 bytes, drop 4 bytes)

-- what a byte says of a yes or a no: 0 or 1, and nothing else
abbrev pub flag_of : ℕ → Option Bool
flag_of byte = if byte == 0 then Some false else if byte == 1 then Some true else None

-- a yes or a no
unfoldable pub flag_at : List ℕ → Option (Bool × List ℕ)
flag_at bytes = do
  byte ← byte_at bytes
  flag ← flag_of byte.0
  Some (flag, byte.1)

-- a patch
unfoldable pub patch_at : List ℕ → Option (Patch × List ℕ)
patch_at bytes = do
  chunk_id ← number_at w32 bytes
  offset ← number_at w32 chunk_id.1
  four ← four_at offset.1
  last ← flag_at four.1
  Some (record { chunk_id = chunk_id.0; offset = offset.0; bytes = four.0; last = last.0 }, last.1)

-- so many patches
unfoldable pub patches_at : ℕ → List ℕ → Option (List Patch × List ℕ)
patches_at zero bytes = Some ([], bytes)
patches_at (suc count) bytes = do
  first ← patch_at bytes
  others ← patches_at count first.1
  Some (first.0 ∷ others.0, others.1)

-- those that were read, if they were
abbrev pub first_of : Option (List Patch × List ℕ) → List Patch
first_of None = []
first_of (Some found) = found.0

-- a number of patches, and so many
unfoldable pub counted_at : List ℕ → Option (List Patch × List ℕ)
counted_at bytes = do
  count ← byte_at bytes
  if nat_lt MAX_PATCHES count.0 then None else patches_at count.0 count.1

-- the buffer is there
abbrev pub is_buffer : Limits → ℕ → Bool
is_buffer limits buffer = nat_le 1 buffer && nat_le buffer limits.buffers

-- the source is there, and its chunks have a payload that isn't shorter
abbrev pub holds : Limits → (source : ℕ) → List ℕ → Bool
holds limits source payload =
    nat_le 1 source && (nat_le source (length limits.sizes) && nat_le (length payload) (payload_size_of limits source))

-- the commit keeps to the limits
abbrev pub is_within : Limits → Commit → Bool
is_within limits commit = is_buffer limits commit.target && holds limits commit.header.writer_id commit.payload

-- a commit, whose payload has all that is left
unfoldable pub commit_at : Limits → List ℕ → Option Commit
commit_at limits bytes = do
  target ← byte_at bytes
  header ← number_at w64 target.1
  patches ← counted_at header.1
  let commit : Commit = record { target = target.0; header = unpacked header.0; patches = patches.0; payload = patches.1 } in
      if is_within limits commit then Some commit else None

-- the buffer that a read names, and nothing else
unfoldable pub buffer_at : Limits → List ℕ → Option ℕ
buffer_at limits bytes = do
  buffer ← byte_at bytes
  if is_buffer limits buffer.0 && (length buffer.1 == 0) then Some buffer.0 else None

-- what stands behind the kind of a frame
unfoldable pub frame_of : Limits → (kind : ℕ) → List ℕ → Option Frame
frame_of limits kind bytes =
    if kind == 1 then (commit_at limits bytes >>= λ commit. Some (Commits commit))
    else if kind == 2 then (buffer_at limits bytes >>= λ buffer. Some (Reads buffer))
    else if (kind == 3) && (length bytes == 0) then Some Closes
    else None

-- the frame that has these bytes behind its length
unfoldable pub decoded : Limits → List ℕ → Option Frame
decoded limits bytes = do
  kind ← byte_at bytes
  frame_of limits kind.0 kind.1
