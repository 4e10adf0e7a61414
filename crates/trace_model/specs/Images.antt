-- Images of chunks: as the service takes them, and as their fragments tell them. After the shared memory ABI of the
-- tracing service: a chunk has a header and a payload, and the payload holds fragments of packets. A chunk of a sequence
-- is named by its position in all definitions, also where a field is called `chunk_id` as in a header: the first chunk of
-- a writer has the position 0, and the others follow. Its id stands in headers and in patches that travel; `Ids` puts it
-- on and takes it off.
use Rattle.std.specs.Prelude.{ℕ, ◌+◌, ◌-◌, ◌/◌, ◌%◌, Bool, true, false, ◌&&◌, nat_le, ◌==◌, List, [], ◌∷◌, ◌++◌, length, take, drop}

-- A fragment of a packet. Its place is that of its first byte in the payload, behind its size.
pub record Fragment : Type 0 where
  pub bytes : List ℕ
  -- its writer couldn't write the rest of the packet: the fragment has the drop mark for its size
  pub dropped : Bool
  pub offset : ℕ

-- four bytes that a writer sends later: the length of a nested message that went on after its chunk
pub record Patch : Type 0 where
  pub chunk_id : ℕ
  pub offset : ℕ
  pub bytes : List ℕ
  -- no later patch is for this chunk
  pub last : Bool

-- a chunk as the service takes it: what its header says, and its payload
pub record Image : Type 0 where
  pub sequence : ℕ
  pub chunk_id : ℕ
  pub count : ℕ
  pub flags : ℕ
  pub payload : List ℕ

-- What the fragments and flags of a chunk tell, which is what a reader meets.
pub record Chunk : Type 0 where
  -- flag 1: the first fragment continues a packet of the chunk before
  pub continues : Bool
  -- flag 2: the last fragment continues on the next chunk
  pub runs_on : Bool
  -- flag 4, until the last patch came: four bytes of the last fragment are still to come
  pub awaits : Bool
  -- a scrape took these fragments while the writer held the chunk, and the others are still to come
  pub partial : Bool
  pub fragments : List Fragment

-- the first fragment continues a packet of the chunk before (the ABI)
abbrev pub has_flag_1 : ℕ → Bool
has_flag_1 flags = flags % 2 == 1

-- the last fragment continues in the next chunk (the ABI)
abbrev pub has_flag_2 : ℕ → Bool
has_flag_2 flags = flags / 2 % 2 == 1

-- the chunk needs patching (the ABI)
abbrev pub has_flag_4 : ℕ → Bool
has_flag_4 flags = flags / 4 % 2 == 1

-- a complete chunk with these flags
abbrev pub whole_chunk : ℕ → List Fragment → Chunk
whole_chunk flags fragments = record {
  continues = has_flag_1 flags;
  runs_on = has_flag_2 flags;
  awaits = has_flag_4 flags;
  partial = false;
  fragments = fragments;
}

-- the chunk as a scrape takes it, with its first fragments alone: flags 2 and 4 speak of its last one, which isn't there
abbrev pub partial_chunk : Chunk → Chunk
partial_chunk chunk = record chunk { runs_on = false; awaits = false; partial = true }

-- a chunk with its first fragments alone
abbrev pub first_fragments : ℕ → Chunk → Chunk
first_fragments count chunk = record chunk { fragments = take count chunk.fragments }

-- the chunk as one that came whole
abbrev pub complete_chunk : Chunk → Chunk
complete_chunk chunk = record chunk { partial = false }

-- Patches put in

-- the list with these bytes from a place on
abbrev pub with_bytes : List ℕ → ℕ → List ℕ → List ℕ
with_bytes old at bytes = take at old ++ bytes ++ drop (at + length bytes) old

-- the four bytes of the patch lie inside the fragment
abbrev pub holds_patch : Fragment → Patch → Bool
holds_patch fragment patch =
    nat_le fragment.offset patch.offset && nat_le (patch.offset + 4) (fragment.offset + length fragment.bytes)

-- the fragment with the patch's four bytes put in
abbrev pub patched_fragment : Patch → Fragment → Fragment
patched_fragment patch fragment =
    record fragment { bytes = with_bytes fragment.bytes (patch.offset - fragment.offset) patch.bytes }

-- the patch lies inside the last one of these fragments
abbrev pub last_holds : List Fragment → Patch → Bool
last_holds [] patch = false
last_holds (fragment ∷ []) patch = holds_patch fragment patch
last_holds (fragment ∷ next ∷ others) patch = last_holds (next ∷ others) patch

-- the patch is put into the last one
abbrev pub patched_last : Patch → List Fragment → List Fragment
patched_last patch [] = []
patched_last patch (fragment ∷ []) = patched_fragment patch fragment ∷ []
patched_last patch (fragment ∷ next ∷ others) = fragment ∷ patched_last patch (next ∷ others)
