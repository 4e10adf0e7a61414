-- The patches that a writer's images bring: which there are, in which commit body, and in which order.
use Rattle.std.specs.Prelude.{◌≡◌, ℕ, suc, ◌+◌, ◌-◌, ◌<◌, Bool, not, ◌&&◌, ◌||◌, ◌==◌, nat_lt, nat_le, List, [], ◌∷◌, ◌++◌, length, map, filter, Option, Some, None, is_some, unwrap_or, slice_get, if◌then◌else◌, ⊤, false}
use Rattle.wire_varint.specs.Varint.{redundant}
use Rattle.trace_model.specs.Images.{Patch, last_holds}
use Rattle.trace_model.specs.Packets.{Packet, Text, NestedLength, open_places}
use Rattle.trace_model.specs.Pages.{Page, chunk_of}
use Rattle.trace_model.specs.Row.{Piece, Chain, bytes_of}
use Rattle.trace_model.specs.Sequences.{is_among}

-- Where the bytes of a chain stand: the chunk of the byte at a place, and where it is in that chunk's payload.
abbrev pub chunk_at : List Piece → ℕ → ℕ
chunk_at [] at = 0
chunk_at (piece ∷ pieces) at =
    if nat_lt at (length piece.fragment.bytes) then piece.at.chunk_id else chunk_at pieces (at - length piece.fragment.bytes)

-- where in its payload the byte of a chain stands
abbrev pub offset_at : List Piece → ℕ → ℕ
offset_at [] at = 0
offset_at (piece ∷ pieces) at =
    if nat_lt at (length piece.fragment.bytes)
    then piece.fragment.offset + at
    else offset_at pieces (at - length piece.fragment.bytes)

-- the chunk of a chain's last piece
abbrev pub last_chunk : List Piece → ℕ
last_chunk [] = 0
last_chunk (piece ∷ []) = piece.at.chunk_id
last_chunk (piece ∷ next ∷ pieces) = last_chunk (next ∷ pieces)

-- a patch without its mark `last`, and the chunk whose commit body brings it
pub record SentPatch : Type 0 where
  pub by : ℕ
  pub chunk_id : ℕ
  pub offset : ℕ
  pub bytes : List ℕ

-- what of the packet its writer was to write: up to the call in which it was given up
abbrev pub text_of : Packet → Text
text_of packet = unwrap_or packet.given_up packet.text

-- the length's message has its last byte in a later chunk than the length
abbrev pub crosses : List Piece → NestedLength → Bool
crosses pieces nested = not (chunk_at pieces nested.at == chunk_at pieces (nested.at + 3 + nested.size))

-- then its patch gives the length, and comes with the chunk of that last byte
abbrev pub sent_for : List Piece → NestedLength → SentPatch
sent_for pieces nested = record {
  by = chunk_at pieces (nested.at + 3 + nested.size);
  chunk_id = chunk_at pieces nested.at;
  offset = offset_at pieces nested.at;
  bytes = redundant nested.size;
}

-- the places of open lengths that stand in the chain
abbrev pub open_in : List Piece → Text → List ℕ
open_in pieces text = filter (λ at. nat_le (at + 4) (length (bytes_of pieces))) (open_places text.levels)

-- the four bytes of a length stand in one chunk
abbrev pub is_in_one : List Piece → ℕ → Bool
is_in_one pieces at = chunk_at pieces at == chunk_at pieces (at + 3)

-- for a length that was open when its packet was given up the patch gives 0, and comes with the chunk of the drop mark
abbrev pub sent_at_drop : List Piece → ℕ → SentPatch
sent_at_drop pieces at = record {
  by = last_chunk pieces;
  chunk_id = chunk_at pieces at;
  offset = offset_at pieces at;
  bytes = redundant 0;
}

-- the patches of a packet with this chain, in the order of its messages' ends
abbrev pub sent_of : Packet → Chain → List SentPatch
sent_of packet chain =
    map (sent_for chain.pieces) (filter (crosses chain.pieces) (text_of packet).closed)
    ++ (if is_some packet.given_up
    then map (sent_at_drop chain.pieces)
    (filter (λ at. not (chunk_at chain.pieces at == last_chunk chain.pieces)) (open_in chain.pieces (text_of packet)))
    else [])

-- all patches in the order of the messages' ends, of kept packets and their chains, the newest first
abbrev pub all_sent : List Packet → List Chain → List SentPatch
all_sent [] chains = []
all_sent (packet ∷ packets) [] = []
all_sent (packet ∷ packets) (chain ∷ chains) = all_sent packets chains ++ sent_of packet chain

-- the chunks with an open length of the newest packet
abbrev pub open_chunks : List Packet → List Chain → List ℕ
open_chunks [] chains = []
open_chunks (packet ∷ packets) [] = []
open_chunks (packet ∷ packets) (chain ∷ chains) =
    if is_some packet.given_up then [] else map (chunk_at chain.pieces) (open_in chain.pieces (text_of packet))

-- Each page brings its patches, and no others, in their order.
abbrev pub as_sent : ℕ → Patch → SentPatch
as_sent chunk_id patch =
    record { by = chunk_id; chunk_id = patch.chunk_id; offset = patch.offset; bytes = patch.bytes }

-- each page brings the patches that were sent with it, in their order
abbrev pub PatchesAre : List SentPatch → ℕ → List Page → Type 0
PatchesAre sent chunk_id [] = ⊤
PatchesAre sent chunk_id (page ∷ pages) =
    (map (as_sent chunk_id) page.patches ≡ filter (λ one. one.by == chunk_id) sent) × PatchesAre sent (suc chunk_id) pages

-- A patch comes behind the chunk that it is for: each page brings patches for earlier chunks alone.
abbrev pub AllChunksBelow : ℕ → List Patch → Type 0
AllChunksBelow bound [] = ⊤
AllChunksBelow bound (patch ∷ patches) = (patch.chunk_id < bound) × AllChunksBelow bound patches

-- each page brings patches for earlier chunks alone
abbrev pub Behind : ℕ → List Page → Type 0
Behind chunk_id [] = ⊤
Behind chunk_id (page ∷ pages) = AllChunksBelow chunk_id page.patches × Behind (suc chunk_id) pages

-- `last` stands where no later patch is for the same chunk and none of that chunk's lengths is open.
abbrev pub chunks_of : List Patch → List ℕ
chunks_of patches = map (λ (patch : Patch). patch.chunk_id) patches

-- no later patch of the page is for the chunk, and no hole of the chunk is open
abbrev pub is_last_patch : List ℕ → Patch → List Patch → Bool
is_last_patch open_ones patch later = not (is_among patch.chunk_id (chunks_of later) || is_among patch.chunk_id open_ones)

-- the patches say of themselves whether they are the last ones of their chunks
abbrev pub LastsAre : List ℕ → List Patch → Type 0
LastsAre open_ones [] = ⊤
LastsAre open_ones (patch ∷ later) = (patch.last ≡ is_last_patch open_ones patch later) × LastsAre open_ones later

-- A page awaits patches exactly where it runs on and one of its lengths is of a message that goes on behind it.
abbrev pub AwaitsAre : List ℕ → ℕ → List Page → Type 0
AwaitsAre crossing chunk_id [] = ⊤
AwaitsAre crossing chunk_id (page ∷ pages) =
    (page.awaits ≡ (page.runs_on && is_among chunk_id crossing)) × AwaitsAre crossing (suc chunk_id) pages

-- A patch has four bytes, and they lie in the last fragment of a page that awaits them.
abbrev pub is_placed_in : Option Page → Patch → Bool
is_placed_in None patch = false
is_placed_in (Some page) patch = page.awaits && last_holds (chunk_of page).fragments patch && (length patch.bytes == 4)

-- the patch's four bytes lie in the last fragment of its chunk, which waits for them
abbrev pub is_placed : List Page → Patch → Bool
is_placed pages patch = is_placed_in (slice_get pages patch.chunk_id) patch
