-- What the words of a table show of its world. Of each page there is a word, and behind these of each chunk a header word; beside them each
-- chunk has a slot with its payload words.
use Rattle.std.specs.Prelude.{◌≡◌, ℕ, ◌+◌, ◌*◌, ◌^◌, ◌<◌, ◌≤◌, ◌⊎◌, Option, Some, List, length, map, vec_len, slice_index}
use Rattle.std.specs.Int.{bit_at}
use Rattle.page_geometry.specs.declared.page_word.TheConstants.{CLAIM_BIT, LAYOUT_BIT}
use Rattle.page_geometry.specs.declared.chunk_state.ChunkState.{ChunkState}
use Rattle.page_geometry.specs.declared.chunk_state.ChunkState.TheVariants as state
use Rattle.page_geometry.specs.Header.{packed}
use Rattle.page_geometry.specs.PageBits.{HasState, HasLayout}
use Rattle.commit_body.specs.declared.body.CommitBody.{CommitBody}
use Rattle.commit_body.specs.Patches.{patch_value}
use Rattle.chunk_plain.specs.declared.setup.Spot.{Spot}
use Rattle.trace_model.specs.Images.{Patch}
use Rattle.trace_model.specs.Ids.{placed_patches}
use Rattle.chunk_plain.specs.Setup.{Setup, spot, from_of, id_at, sequence_of}
use Rattle.chunk_plain.specs.Payload.{byte_at, byte_in, sealed_to}
use Rattle.chunk_plain.specs.Views.{At, Ask, Head, no_head, Content}
use Rattle.chunk_plain.specs.World.{World, Status, Unclaimed, Claimed, Stamped, Writing, Ready, Reading, status, writer}
use Rattle.chunk_plain.specs.Drafts.{head_of}
use Rattle.chunk_plain.specs.Stored.{Stored, stored_at}

-- the state of a chunk in its page word
abbrev pub state_of : Status → ChunkState
state_of Unclaimed = state.Free
state_of (Claimed place) = state.Free
state_of (Stamped place position) = state.Free
state_of (Writing place position draft) = state.BeingWritten
state_of (Ready place position content) = state.Complete
state_of (Reading place position content) = state.BeingRead

-- its claim bit
abbrev pub claim_of : Status → ℕ
claim_of Unclaimed = 0
claim_of _ = 1

-- no writer ever claimed a chunk of the page
abbrev pub NeverAsked : Setup → World → ℕ → Type 0
NeverAsked setup world page = (place i : ℕ) (ask : Ask) → At (writer world place).asked i ask → (spot setup ask.chunk).page ≡ page → ⊥

-- of a page with so many chunks this bit is neither a chunk's nor one of the layout
abbrev pub IsSpare : ℕ → ℕ → Type 0
IsSpare chunks bit = ((2 * chunks ≤ bit) × (bit < LAYOUT_BIT)) ⊎ (bit ≡ LAYOUT_BIT + 3) ⊎ (CLAIM_BIT + chunks ≤ bit)

-- the layout bits are the layout's number, or 0 in a page where nothing was ever claimed
abbrev pub ShowsLayout : Setup → World → Spot → ℕ → Type 0
ShowsLayout setup world at word = HasLayout word at.layout ⊎ (HasLayout word 0 × NeverAsked setup world at.page)

-- the page word shows a chunk that lies at this spot
pub record ShowsPage (setup : Setup) (world : World) (at : Spot) (word : ℕ) (is : Status) : Type 0 where
  pub state : HasState word at.place (state_of is)
  pub claim : bit_at word (CLAIM_BIT + at.place) ≡ claim_of is
  pub layout : ShowsLayout setup world at word
  pub spare : (bit : ℕ) → IsSpare at.chunks bit → bit_at word bit ≡ 0

-- the header word is that of the writer at this place, with the id of this position; each field is in its range, and so is the position, so
-- that the id tells which one it is
pub record IsHeader (setup : Setup) (word place position : ℕ) (head : Head) : Type 0 where
  pub word_is : word
      ≡ packed (record { chunk_id = id_at setup place position; writer_id = place + 1; count = head.count; flags = head.flags })
  pub position_fits : position < 2 ^ 32
  pub writer_fits : place + 1 < 2 ^ 16
  pub count_fits : head.count < 2 ^ 10
  pub flags_fit : head.flags < 2 ^ 6

-- the header word of a chunk is that of its status
abbrev pub ShowsHeader : Setup → ℕ → Status → Type 0
ShowsHeader setup word Unclaimed = Unit {0}
ShowsHeader setup word (Claimed place) = Unit {0}
ShowsHeader setup word (Stamped place position) = IsHeader setup word place position no_head
ShowsHeader setup word (Writing place position draft) = IsHeader setup word place position draft.head
ShowsHeader setup word (Ready place position content) = IsHeader setup word place position (head_of content)
ShowsHeader setup word (Reading place position content) = IsHeader setup word place position (head_of content)

-- the patches in the body of a chunk, which name chunks by ids, as a content has them
abbrev pub patches_in : (from : ℕ) → CommitBody → List Patch
patches_in from body = placed_patches from (map patch_value body.patches.value.items)

-- what a chunk with this header and this body has, once it is complete, in a sequence whose first chunk has the id `from`
abbrev pub content_of : (from place position : ℕ) → Head → CommitBody → Content
content_of from place position head body = record {
  image = record {
    sequence = sequence_of place;
    chunk_id = position;
    count = head.count;
    flags = head.flags;
    payload = body.payload.items;
  };
  patches = patches_in from body;
  target = body.target;
}

-- the words hold the payload, which has its chunk's size
pub record HoldsPayload (size : ℕ) (words payload : List ℕ) : Type 0 where
  pub whole : length payload ≡ size
  pub bytes : (j : ℕ) → j < size → byte_at words j ≡ byte_in payload j

-- The payload words of a chunk that is written are those in its writer's view. Its finished fragments lie inside the payload.
abbrev pub ShowsWords : ℕ → Status → List ℕ → Type 0
ShowsWords size (Writing place position draft) words = (words ≡ draft.words) × (sealed_to draft.ends ≤ size)
ShowsWords size (Ready place position content) words = HoldsPayload size words content.image.payload
ShowsWords size (Reading place position content) words = HoldsPayload size words content.image.payload
ShowsWords size _ words = Unit {0}

-- what the bytes of a payload show that was loaded from there
abbrev pub ShowsPayload : Status → List ℕ → Type 0
ShowsPayload (Writing place position draft) bytes = (j : ℕ) → j < length bytes → byte_in bytes j ≡ byte_at draft.words j
ShowsPayload (Ready place position content) bytes = bytes ≡ content.image.payload
ShowsPayload (Reading place position content) bytes = bytes ≡ content.image.payload
ShowsPayload _ bytes = Unit {0}

-- a body of a chunk that holds nothing: it has room for its payload
pub record IsFreeBody (size : ℕ) (body : CommitBody) : Type 0 where
  pub whole : vec_len body.payload ≡ size

-- the body of a complete chunk: what it brings beside the payload
pub record IsBodyOf (from size : ℕ) (content : Content) (body : CommitBody) : Type 0 where
  pub whole : vec_len body.payload ≡ size
  pub patches_are : patches_in from body ≡ content.patches
  pub target_is : body.target ≡ content.target

-- where the body of a chunk is: in the table as long as no token may have it
abbrev pub ShowsBody : Setup → ℕ → Status → Option CommitBody → Type 0
ShowsBody setup size Unclaimed kept = (body : CommitBody) × (kept ≡ Some body) × IsFreeBody size body
ShowsBody setup size (Claimed place) kept = (body : CommitBody) × (kept ≡ Some body) × IsFreeBody size body
ShowsBody setup size (Stamped place position) kept = (body : CommitBody) × (kept ≡ Some body) × IsFreeBody size body
ShowsBody setup size (Writing place position draft) kept = Unit {0}
ShowsBody setup size (Ready place position content) kept =
    (body : CommitBody) × (kept ≡ Some body) × IsBodyOf (from_of setup place) size content body
ShowsBody setup size (Reading place position content) kept = Unit {0}

-- the slot of a chunk, which has room for its payload
pub record ShowsSlot (setup : Setup) (size : ℕ) (is : Status) (slot : Stored) : Type 0 where
  pub room : size ≤ 8 * length slot.words
  pub words : ShowsWords size is slot.words
  pub body : ShowsBody setup size is slot.body

-- the word of the page that a chunk lies in
abbrev pub page_word : Setup → List ℕ → ℕ → ℕ
page_word setup words chunk = slice_index words (spot setup chunk).page

-- the header word of a chunk
abbrev pub header_word : Setup → List ℕ → ℕ → ℕ
header_word setup words chunk = slice_index words (setup.pages + chunk)

-- words and slots show the world
pub record IsShown (setup : Setup) (words : List ℕ) (slots : List Stored) (world : World) : Type 0 where
  pub chunk_count : length world.chunks ≡ length setup.spots
  pub word_count : length words ≡ setup.pages + length setup.spots
  pub slot_count : length slots ≡ length setup.spots
  pub page : (chunk : ℕ) → chunk < length setup.spots
      → ShowsPage setup world (spot setup chunk) (page_word setup words chunk) (status world chunk)
  pub header : (chunk : ℕ) → chunk < length setup.spots → ShowsHeader setup (header_word setup words chunk) (status world chunk)
  pub slot : (chunk : ℕ) → chunk < length setup.spots
      → ShowsSlot setup (spot setup chunk).payload_size (status world chunk) (stored_at slots chunk)
