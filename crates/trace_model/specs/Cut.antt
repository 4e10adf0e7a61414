-- The images of a writer are a cut of the bodies of its packets. The writer decides byte by byte; this relation looks at
-- finished lists. While a chunk is held its bytes so far count as the last image, with the size of its last fragment put
-- in, without flags 2 and 4, and with the patches that weren't sent yet as those of its body.
use Rattle.std.specs.Prelude.{◌≡◌, ℕ, ◌+◌, ◌-◌, ◌<◌, ◌≤◌, Bool, true, false, not, ◌&&◌, ◌||◌, ◌==◌, nat_lt, IsTrue, List, [], ◌∷◌, ◌++◌, length, map, All, Option, Some, None, is_some, MatchOption, MatchBool, if◌then◌else◌, ⊤}
use Rattle.std.specs.List.{AllZip, list_all}
use Rattle.trace_base.specs.declared.limits.TheConstants.{MAX_FRAGMENTS}
use Rattle.wire_varint.specs.Varint.{redundant}
use Rattle.trace_model.specs.Calls.{Call}
use Rattle.trace_model.specs.Ids.{named_image, named_patches}
use Rattle.trace_model.specs.Images.{Image, Patch}
use Rattle.trace_model.specs.Packets.{Packet, Text, NestedLength, flat, open_places, body_of, is_lost, packets_of, kept_of}
use Rattle.trace_model.specs.Pages.{Page, laid, images_from, patches_of}
use Rattle.trace_model.specs.Row.{Piece, Chain, Fate, Marked, bytes_of}
use Rattle.trace_model.specs.Sequences.{is_among}
use Rattle.trace_model.specs.Sent.{SentPatch, text_of, all_sent, open_in, open_chunks, is_in_one, PatchesAre, LastsAre, AwaitsAre, Behind, is_placed}
use Rattle.trace_model.specs.Written.{chains_of}

-- Pages

-- A page of this payload size has a count from 1 to 1,023. A drop mark stands only in a last fragment that runs on nowhere,
-- and its bytes are all that follows.
pub record IsWellFormedPage (size : ℕ) (page : Page) : Type 0 where
  pub some : 1 ≤ length page.fragments
  pub most : length page.fragments ≤ MAX_FRAGMENTS
  pub whole : length (laid page.dropped page.fragments page.rest) ≡ size
  pub dropped : page.dropped ≡ true → (page.runs_on ≡ false) × (page.rest ≡ [])

-- the first page continues nothing, and each other one exactly where the one before runs on
abbrev pub FlagsAgree : Bool → List Page → Type 0
FlagsAgree runs_on [] = ⊤
FlagsAgree runs_on (page ∷ pages) = (page.continues ≡ runs_on) × FlagsAgree page.runs_on pages

-- the last page's last packet goes on in the next page; without pages, what is said of the one before
abbrev pub last_runs_on : Bool → List Page → Bool
last_runs_on runs_on [] = runs_on
last_runs_on runs_on (page ∷ pages) = last_runs_on page.runs_on pages

-- the newest packet is kept, not given up and not finished
abbrev pub newest_goes_on : List Packet → Bool
newest_goes_on [] = false
newest_goes_on (packet ∷ older) = not (is_lost packet) && not packet.finished

-- Packets and their chains

abbrev pub Begins : List ℕ → List ℕ → Type 0
Begins front whole = (rest : List ℕ) × (whole ≡ front ++ rest)

-- A packet that was given up: a proper part of its bytes, with 0 for each length that was open, and then at most three
-- unused bytes, where a nested length comes next.
pub record IsGivenUp (bytes : List ℕ) (text : Text) : Type 0 where
  pub part : List ℕ
  pub unused : List ℕ
  pub lost : List ℕ
  pub cut : bytes ≡ part ++ unused
  pub whole : flat (redundant 0) text.levels ≡ part ++ lost
  pub proper : 0 < length lost
  pub few : length unused ≤ 3
  pub next : 0 < length unused → IsTrue (is_among (length part) (open_places text.levels))

-- the bytes of a chain are those of its packet: its body, or the part of it that is written so far
abbrev pub AreBytesOf : Packet → List ℕ → Type 0
AreBytesOf packet bytes =
    MatchOption packet.given_up
    (MatchBool packet.finished (bytes ≡ body_of packet) (Begins bytes (body_of packet)))
    (IsGivenUp bytes)

-- the places of all nested lengths of a packet
abbrev pub length_places : Text → List ℕ
length_places text = map (λ (nested : NestedLength). nested.at) text.closed ++ open_places text.levels

-- the bytes behind a fragment in a payload of this size
abbrev pub left_behind : ℕ → Piece → ℕ
left_behind size piece = size - (piece.fragment.offset + length piece.fragment.bytes)

-- a fragment that runs on ends at the payload's end, or less than four bytes before it where a nested length comes next
abbrev pub ends_well : ℕ → List ℕ → ℕ → Piece → Bool
ends_well size lengths end piece =
    not piece.runs_on
    || ((left_behind size piece == 0) || (nat_lt (left_behind size piece) 4 && is_among end lengths))

-- each piece of a chain ends where it may, the first of which begins at this place of the packet's text
abbrev pub all_end_well : ℕ → List ℕ → ℕ → List Piece → Bool
all_end_well size lengths at [] = true
all_end_well size lengths at (piece ∷ pieces) =
    ends_well size lengths (at + length piece.fragment.bytes) piece
    && all_end_well size lengths (at + length piece.fragment.bytes) pieces

-- Each fragment but the first has a byte: a packet that ends at the payload's end doesn't run on.
abbrev pub has_byte : Piece → Bool
has_byte piece = nat_lt 0 (length piece.fragment.bytes)

-- every piece of a chain but the first has a byte
abbrev pub all_go_on : List Piece → Bool
all_go_on [] = true
all_go_on (piece ∷ pieces) = list_all has_byte pieces

-- the chain ends in a drop mark
abbrev pub is_marked_fate : Fate → Bool
is_marked_fate Marked = true
is_marked_fate other = false

-- The chain is what was written of the packet. It ends in a drop mark exactly where the packet was given up.
pub record IsChainOf (size : ℕ) (packet : Packet) (chain : Chain) : Type 0 where
  pub marked : is_marked_fate chain.fate ≡ is_some packet.given_up
  pub bytes : AreBytesOf packet (bytes_of chain.pieces)
  pub ends : IsTrue (all_end_well size (length_places (text_of packet)) 0 chain.pieces)
  pub goes_on : IsTrue (all_go_on chain.pieces)
  -- the four bytes of an open length stand in one chunk
  pub lengths : IsTrue (list_all (is_in_one chain.pieces) (open_in chain.pieces (text_of packet)))

-- Where packets begin

abbrev pub last_piece : List Piece → Option Piece
last_piece [] = None
last_piece (piece ∷ []) = Some piece
last_piece (piece ∷ next ∷ pieces) = last_piece (next ∷ pieces)

-- a packet begins in the held chunk where so many bytes are left
abbrev pub room_to_begin : ℕ
room_to_begin = 12

-- behind this fragment no packet can begin in the same chunk
abbrev pub is_end : ℕ → Option Piece → Bool
is_end size None = true
is_end size (Some piece) = nat_lt (left_behind size piece) room_to_begin || (piece.at.passed + 1 == MAX_FRAGMENTS)

-- the last piece of the newest chain
abbrev pub newest_piece : List Chain → Option Piece
newest_piece [] = None
newest_piece (chain ∷ older) = last_piece chain.pieces

-- a packet behind these, the newest first, is to begin in a new chunk
abbrev pub is_fresh : ℕ → Bool → List Packet → List Chain → Bool
is_fresh size flushed [] chains = true
is_fresh size flushed (packet ∷ older) chains = is_lost packet || (flushed || is_end size (newest_piece chains))

-- the chain begins with the first fragment of a chunk
abbrev pub begins_chunk : Chain → Bool
begins_chunk chain = chain.at.passed == 0

-- all chains but the newest
abbrev pub older_chains : List Chain → List Chain
older_chains [] = []
older_chains (chain ∷ older) = older

-- two truth values are the same
abbrev pub is_same : Bool → Bool → Bool
is_same a b = if a then b else not b

-- A kept packet begins a chunk exactly where it is to begin in a new one; a packet is dropped at its begin only there.
abbrev pub begins_well : ℕ → Packet → List Packet → List Chain → Bool
begins_well size packet older [] = if packet.kept then false else is_fresh size packet.follows_flush older []
begins_well size packet older (chain ∷ chains) =
    if packet.kept
    then is_same (begins_chunk chain) (is_fresh size packet.follows_flush older chains)
    else is_fresh size packet.follows_flush older (chain ∷ chains)

-- the packets, the newest first, with the chains of the kept ones
abbrev pub all_begin_well : ℕ → List Packet → List Chain → Bool
all_begin_well size [] chains = true
all_begin_well size (packet ∷ older) chains =
    begins_well size packet older chains
    && all_begin_well size older (if packet.kept then older_chains chains else chains)

-- The whole

-- what is said of the kept packets' patches
pub record PatchesAgree (packets : List Packet) (chains : List Chain) (pages : List Page) : Type 0 where
  pub sent : PatchesAre (all_sent packets chains) 0 pages
  pub lasts : LastsAre (open_chunks packets chains) (patches_of pages)
  pub awaits :
      AwaitsAre (map (λ (one : SentPatch). one.chunk_id) (all_sent packets chains) ++ open_chunks packets chains) 0 pages
  pub placed : IsTrue (list_all (is_placed pages) (patches_of pages))
  pub behind : Behind 0 pages

-- The pages are a cut of the packets, which stand the newest first.
pub record CutsInto (size : ℕ) (packets : List Packet) (pages : List Page) : Type 0 where
  pub full : All (IsWellFormedPage size) pages
  pub flags : FlagsAgree false pages
  -- only a packet that goes on leaves flag 2 on the last page
  pub last : last_runs_on false pages ≡ true → newest_goes_on packets ≡ true
  -- each kept packet has one chain, in order
  pub chains : AllZip (IsChainOf size) (kept_of packets) (chains_of pages)
  pub patches : PatchesAgree (kept_of packets) (chains_of pages) pages
  pub begins : IsTrue (all_begin_well size packets (chains_of pages))

-- The images of this sequence, with the patches that each brings, are a cut of the bodies of the packets that the calls
-- make. Image i has the position i.
pub record IsCut (size sequence : ℕ) (calls : List Call) (images : List Image) (patches : List (List Patch)) : Type 0 where
  pub pages : List Page
  pub images_are : images ≡ images_from sequence 0 pages
  pub patches_are : patches ≡ map (λ (page : Page). page.patches) pages
  pub cut : CutsInto size (packets_of calls) pages

-- The same of images and patches as they stand in chunks and in bodies: named by ids, of which the first is `from`.
pub record IsCutFrom (size sequence from : ℕ) (calls : List Call) (images : List Image) (patches : List (List Patch)) : Type 0 where
  pub pages : List Page
  pub images_are : images ≡ map (named_image from) (images_from sequence 0 pages)
  pub patches_are : patches ≡ map (λ (page : Page). named_patches from page.patches) pages
  pub cut : CutsInto size (packets_of calls) pages
