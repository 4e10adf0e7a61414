-- What is sent for a chain, and where a packet may begin behind it, depend on the places and lengths of its pieces alone.
use Rattle.std.proofs.Common.{◌≡◌, ◌∙◌, ℕ, ◌+◌, ◌-◌, ◌==◌, Bool, true, false, not, ◌&&◌, ◌||◌, nat_lt, nat_le, List, [], ◌∷◌, ◌++◌, map, filter, length, cond, is_some, refl, sym, ap, length-append}
use Rattle.std.specs.Prelude.{⊤}
use Rattle.std.specs.List.{list_all}
use Rattle.std.proofs.lemmas.List.Elements.{filter_agree}
use Rattle.trace_base.specs.declared.limits.TheConstants.{MAX_FRAGMENTS}
use Rattle.wire_varint.specs.Varint.{redundant}
use Rattle.trace_model.specs.Packets.{Packet, Text, NestedLength, open_places, is_lost}
use Rattle.trace_model.specs.Sequences.{Cursor}
use Rattle.trace_model.specs.Row.{Piece, Chain, bytes_of}
use Rattle.trace_model.specs.Sent.{SentPatch, text_of, chunk_at, offset_at, last_chunk, crosses, sent_for, open_in, sent_at_drop, sent_of, all_sent, open_chunks, is_in_one}
use Rattle.trace_model.specs.Cut.{has_byte, all_go_on, left_behind, room_to_begin, last_piece, is_end, newest_piece, is_fresh, begins_chunk, begins_well, all_begin_well, older_chains, is_same}

pub map_same : {X Y : Type 0} (f g : X → Y) → ((x : X) → f x ≡ g x) → (xs : List X) → map f xs ≡ map g xs
map_same f g h [] = refl
map_same {Y = Y} f g h (x ∷ xs) = ap (λ (y : Y). y ∷ map f xs) (h x) ∙ ap (λ (ys : List Y). g x ∷ ys) (map_same f g h xs)

-- the pieces stand in the same place and have as many bytes
pub record SameShape (a b : Piece) : Type 0 where
  pub at : a.at ≡ b.at
  pub offset : a.fragment.offset ≡ b.fragment.offset
  pub long : length a.fragment.bytes ≡ length b.fragment.bytes

-- piece by piece
abbrev pub SamePlaces : List Piece → List Piece → Type 0
SamePlaces [] [] = ⊤
SamePlaces [] (other ∷ others) = ⊥
SamePlaces (piece ∷ pieces) [] = ⊥
SamePlaces (piece ∷ pieces) (other ∷ others) = SameShape piece other × SamePlaces pieces others

abbrev pub SameChains : List Chain → List Chain → Type 0
SameChains [] [] = ⊤
SameChains [] (other ∷ others) = ⊥
SameChains (chain ∷ chains) [] = ⊥
SameChains (chain ∷ chains) (other ∷ others) = ((chain.at ≡ other.at) × SamePlaces chain.pieces other.pieces) × SameChains chains others

pub SamePlaces-refl : (pieces : List Piece) → SamePlaces pieces pieces
SamePlaces-refl [] = tt
SamePlaces-refl (piece ∷ pieces) = (record { at = refl; offset = refl; long = refl }, SamePlaces-refl pieces)

-- Bytes in their places

pub chunk_at-places : (pieces others : List Piece) (at : ℕ) → SamePlaces pieces others → chunk_at pieces at ≡ chunk_at others at
chunk_at-places [] [] at s = refl
chunk_at-places [] (other ∷ others) at s = absurd s
chunk_at-places (piece ∷ pieces) [] at s = absurd s
chunk_at-places (piece ∷ pieces) (other ∷ others) at s =
    ap (λ (n : ℕ). cond (nat_lt at n) piece.at.chunk_id (chunk_at pieces (at - n))) s.0.long
    ∙ ap (λ (c : Cursor). cond (nat_lt at (length other.fragment.bytes)) c.chunk_id (chunk_at pieces (at - length other.fragment.bytes))) s.0.at
    ∙ ap (λ (n : ℕ). cond (nat_lt at (length other.fragment.bytes)) other.at.chunk_id n) (chunk_at-places pieces others (at - length other.fragment.bytes) s.1)

pub offset_at-places : (pieces others : List Piece) (at : ℕ) → SamePlaces pieces others → offset_at pieces at ≡ offset_at others at
offset_at-places [] [] at s = refl
offset_at-places [] (other ∷ others) at s = absurd s
offset_at-places (piece ∷ pieces) [] at s = absurd s
offset_at-places (piece ∷ pieces) (other ∷ others) at s =
    ap (λ (n : ℕ). cond (nat_lt at n) (piece.fragment.offset + at) (offset_at pieces (at - n))) s.0.long
    ∙ ap (λ (n : ℕ). cond (nat_lt at (length other.fragment.bytes)) (n + at) (offset_at pieces (at - length other.fragment.bytes))) s.0.offset
    ∙ ap (λ (n : ℕ). cond (nat_lt at (length other.fragment.bytes)) (other.fragment.offset + at) n) (offset_at-places pieces others (at - length other.fragment.bytes) s.1)

pub last_chunk-places : (pieces others : List Piece) → SamePlaces pieces others → last_chunk pieces ≡ last_chunk others
last_chunk-places [] [] s = refl
last_chunk-places [] (other ∷ others) s = absurd s
last_chunk-places (piece ∷ pieces) [] s = absurd s
last_chunk-places (piece ∷ []) (other ∷ []) s = ap (λ (c : Cursor). c.chunk_id) s.0.at
last_chunk-places (piece ∷ []) (other ∷ following ∷ others) s = absurd s.1
last_chunk-places (piece ∷ next ∷ pieces) (other ∷ []) s = absurd s.1
last_chunk-places (piece ∷ next ∷ pieces) (other ∷ following ∷ others) s = last_chunk-places (next ∷ pieces) (following ∷ others) s.1

pub length-places : (pieces others : List Piece) → SamePlaces pieces others → length (bytes_of pieces) ≡ length (bytes_of others)
length-places [] [] s = refl
length-places [] (other ∷ others) s = absurd s
length-places (piece ∷ pieces) [] s = absurd s
length-places (piece ∷ pieces) (other ∷ others) s =
    length-append piece.fragment.bytes (bytes_of pieces)
    ∙ ap (λ (n : ℕ). n + length (bytes_of pieces)) s.0.long
    ∙ ap (λ (n : ℕ). length other.fragment.bytes + n) (length-places pieces others s.1)
    ∙ sym (length-append other.fragment.bytes (bytes_of others))

pub crosses-places : (pieces others : List Piece) (nested : NestedLength) → SamePlaces pieces others → crosses pieces nested ≡ crosses others nested
crosses-places pieces others nested s =
    ap (λ (n : ℕ). not (n == chunk_at pieces (nested.at + 3 + nested.size))) (chunk_at-places pieces others nested.at s)
    ∙ ap (λ (n : ℕ). not (chunk_at others nested.at == n)) (chunk_at-places pieces others (nested.at + 3 + nested.size) s)

-- a patch in these places
abbrev patch_with : ℕ → ℕ → ℕ → List ℕ → SentPatch
patch_with by chunk_id offset bytes = record { by = by; chunk_id = chunk_id; offset = offset; bytes = bytes }

pub sent_for-places : (pieces others : List Piece) (nested : NestedLength) → SamePlaces pieces others → sent_for pieces nested ≡ sent_for others nested
sent_for-places pieces others nested s =
    ap (λ (n : ℕ). patch_with n (chunk_at pieces nested.at) (offset_at pieces nested.at) (redundant nested.size)) (chunk_at-places pieces others (nested.at + 3 + nested.size) s)
    ∙ ap (λ (n : ℕ). patch_with (chunk_at others (nested.at + 3 + nested.size)) n (offset_at pieces nested.at) (redundant nested.size)) (chunk_at-places pieces others nested.at s)
    ∙ ap (λ (n : ℕ). patch_with (chunk_at others (nested.at + 3 + nested.size)) (chunk_at others nested.at) n (redundant nested.size)) (offset_at-places pieces others nested.at s)

pub sent_at_drop-places : (pieces others : List Piece) (at : ℕ) → SamePlaces pieces others → sent_at_drop pieces at ≡ sent_at_drop others at
sent_at_drop-places pieces others at s =
    ap (λ (n : ℕ). patch_with n (chunk_at pieces at) (offset_at pieces at) (redundant 0)) (last_chunk-places pieces others s)
    ∙ ap (λ (n : ℕ). patch_with (last_chunk others) n (offset_at pieces at) (redundant 0)) (chunk_at-places pieces others at s)
    ∙ ap (λ (n : ℕ). patch_with (last_chunk others) (chunk_at others at) n (redundant 0)) (offset_at-places pieces others at s)

pub open_in-places : (pieces others : List Piece) (text : Text) → SamePlaces pieces others → open_in pieces text ≡ open_in others text
open_in-places pieces others text s = ap (λ (n : ℕ). filter (λ at. nat_le (at + 4) n) (open_places text.levels)) (length-places pieces others s)

-- Strict pieces

have_bytes-places : (pieces others : List Piece) → SamePlaces pieces others → list_all has_byte pieces ≡ list_all has_byte others
have_bytes-places [] [] s = refl
have_bytes-places [] (other ∷ others) s = absurd s
have_bytes-places (piece ∷ pieces) [] s = absurd s
have_bytes-places (piece ∷ pieces) (other ∷ others) s =
    ap (λ (n : ℕ). nat_lt 0 n && list_all has_byte pieces) s.0.long
    ∙ ap (λ (b : Bool). has_byte other && b) (have_bytes-places pieces others s.1)

pub all_go_on-places : (pieces others : List Piece) → SamePlaces pieces others → all_go_on pieces ≡ all_go_on others
all_go_on-places [] [] s = refl
all_go_on-places [] (other ∷ others) s = absurd s
all_go_on-places (piece ∷ pieces) [] s = absurd s
all_go_on-places (piece ∷ pieces) (other ∷ others) s = have_bytes-places pieces others s.1

in_one-places : (places : List ℕ) (pieces others : List Piece) → SamePlaces pieces others → list_all (is_in_one pieces) places ≡ list_all (is_in_one others) places
in_one-places [] pieces others s = refl
in_one-places (at ∷ places) pieces others s =
    ap (λ (n : ℕ). (n == chunk_at pieces (at + 3)) && list_all (is_in_one pieces) places) (chunk_at-places pieces others at s)
    ∙ ap (λ (n : ℕ). (chunk_at others at == n) && list_all (is_in_one pieces) places) (chunk_at-places pieces others (at + 3) s)
    ∙ ap (λ (b : Bool). is_in_one others at && b) (in_one-places places pieces others s)

pub lengths-places : (pieces others : List Piece) (text : Text) → SamePlaces pieces others
    → list_all (is_in_one pieces) (open_in pieces text) ≡ list_all (is_in_one others) (open_in others text)
lengths-places pieces others text s =
    ap (list_all (is_in_one pieces)) (open_in-places pieces others text s) ∙ in_one-places (open_in others text) pieces others s

-- What is sent

closed-places : (pieces others : List Piece) (closed : List NestedLength) → SamePlaces pieces others
    → map (sent_for pieces) (filter (crosses pieces) closed) ≡ map (sent_for others) (filter (crosses others) closed)
closed-places pieces others closed s =
    ap (map (sent_for pieces)) (filter_agree (crosses pieces) (crosses others) (λ nested. crosses-places pieces others nested s) closed)
    ∙ map_same (sent_for pieces) (sent_for others) (λ nested. sent_for-places pieces others nested s) (filter (crosses others) closed)

drop-places : (pieces others : List Piece) (text : Text) → SamePlaces pieces others
    → map (sent_at_drop pieces) (filter (λ at. not (chunk_at pieces at == last_chunk pieces)) (open_in pieces text))
    ≡ map (sent_at_drop others) (filter (λ at. not (chunk_at others at == last_chunk others)) (open_in others text))
drop-places pieces others text s =
    ap (λ (ats : List ℕ). map (sent_at_drop pieces) (filter (λ at. not (chunk_at pieces at == last_chunk pieces)) ats)) (open_in-places pieces others text s)
    ∙ ap (map (sent_at_drop pieces)) (filter_agree (λ at. not (chunk_at pieces at == last_chunk pieces)) (λ at. not (chunk_at others at == last_chunk others))
    (λ at. ap (λ (n : ℕ). not (n == last_chunk pieces)) (chunk_at-places pieces others at s)
    ∙ ap (λ (n : ℕ). not (chunk_at others at == n)) (last_chunk-places pieces others s)) (open_in others text))
    ∙ map_same (sent_at_drop pieces) (sent_at_drop others) (λ at. sent_at_drop-places pieces others at s)
    (filter (λ at. not (chunk_at others at == last_chunk others)) (open_in others text))

pub sent_of-places : (packet : Packet) (chain other : Chain) → SamePlaces chain.pieces other.pieces → sent_of packet chain ≡ sent_of packet other
sent_of-places packet chain other s =
    ap (λ (xs : List SentPatch). xs ++ cond (is_some packet.given_up)
    (map (sent_at_drop chain.pieces) (filter (λ at. not (chunk_at chain.pieces at == last_chunk chain.pieces)) (open_in chain.pieces (text_of packet)))) [])
    (closed-places chain.pieces other.pieces (text_of packet).closed s)
    ∙ ap (λ (xs : List SentPatch). map (sent_for other.pieces) (filter (crosses other.pieces) (text_of packet).closed) ++ cond (is_some packet.given_up) xs [])
    (drop-places chain.pieces other.pieces (text_of packet) s)

pub all_sent-places : (packets : List Packet) (chains others : List Chain) → SameChains chains others → all_sent packets chains ≡ all_sent packets others
all_sent-places [] chains others s = refl
all_sent-places (packet ∷ packets) [] [] s = refl
all_sent-places (packet ∷ packets) [] (other ∷ others) s = absurd s
all_sent-places (packet ∷ packets) (chain ∷ chains) [] s = absurd s
all_sent-places (packet ∷ packets) (chain ∷ chains) (other ∷ others) s =
    ap (λ (xs : List SentPatch). xs ++ sent_of packet chain) (all_sent-places packets chains others s.1)
    ∙ ap (λ (xs : List SentPatch). all_sent packets others ++ xs) (sent_of-places packet chain other s.0.1)

pub open_chunks-places : (packets : List Packet) (chains others : List Chain) → SameChains chains others → open_chunks packets chains ≡ open_chunks packets others
open_chunks-places [] chains others s = refl
open_chunks-places (packet ∷ packets) [] [] s = refl
open_chunks-places (packet ∷ packets) [] (other ∷ others) s = absurd s
open_chunks-places (packet ∷ packets) (chain ∷ chains) [] s = absurd s
open_chunks-places (packet ∷ packets) (chain ∷ chains) (other ∷ others) s =
    ap (λ (ats : List ℕ). cond (is_some packet.given_up) [] (map (chunk_at chain.pieces) ats)) (open_in-places chain.pieces other.pieces (text_of packet) s.0.1)
    ∙ ap (λ (ns : List ℕ). cond (is_some packet.given_up) [] ns)
    (map_same (chunk_at chain.pieces) (chunk_at other.pieces) (λ at. chunk_at-places chain.pieces other.pieces at s.0.1) (open_in other.pieces (text_of packet)))

-- Where packets begin

is_end-places : (size : ℕ) (pieces others : List Piece) → SamePlaces pieces others → is_end size (last_piece pieces) ≡ is_end size (last_piece others)
is_end-places size [] [] s = refl
is_end-places size [] (other ∷ others) s = absurd s
is_end-places size (piece ∷ pieces) [] s = absurd s
is_end-places size (piece ∷ []) (other ∷ []) s =
    ap (λ (n : ℕ). nat_lt (size - (n + length piece.fragment.bytes)) room_to_begin || (piece.at.passed + 1 == MAX_FRAGMENTS)) s.0.offset
    ∙ ap (λ (n : ℕ). nat_lt (size - (other.fragment.offset + n)) room_to_begin || (piece.at.passed + 1 == MAX_FRAGMENTS)) s.0.long
    ∙ ap (λ (c : Cursor). nat_lt (left_behind size other) room_to_begin || (c.passed + 1 == MAX_FRAGMENTS)) s.0.at
is_end-places size (piece ∷ []) (other ∷ following ∷ others) s = absurd s.1
is_end-places size (piece ∷ next ∷ pieces) (other ∷ []) s = absurd s.1
is_end-places size (piece ∷ next ∷ pieces) (other ∷ following ∷ others) s = is_end-places size (next ∷ pieces) (following ∷ others) s.1

end-places : (size : ℕ) (chains others : List Chain) → SameChains chains others → is_end size (newest_piece chains) ≡ is_end size (newest_piece others)
end-places size [] [] s = refl
end-places size [] (other ∷ others) s = absurd s
end-places size (chain ∷ chains) [] s = absurd s
end-places size (chain ∷ chains) (other ∷ others) s = is_end-places size chain.pieces other.pieces s.0.1

pub is_fresh-places : (size : ℕ) (flushed : Bool) (packets : List Packet) (chains others : List Chain) → SameChains chains others
    → is_fresh size flushed packets chains ≡ is_fresh size flushed packets others
is_fresh-places size flushed [] chains others s = refl
is_fresh-places size flushed (packet ∷ older) chains others s = ap (λ (b : Bool). is_lost packet || (flushed || b)) (end-places size chains others s)

pub begins_well-places : (size : ℕ) (packet : Packet) (older : List Packet) (chains others : List Chain) → SameChains chains others
    → begins_well size packet older chains ≡ begins_well size packet older others
begins_well-places size packet older [] [] s = refl
begins_well-places size packet older [] (other ∷ others) s = absurd s
begins_well-places size packet older (chain ∷ chains) [] s = absurd s
begins_well-places size packet older (chain ∷ chains) (other ∷ others) s =
    ap (λ (c : Cursor). cond packet.kept (is_same (c.passed == 0) (is_fresh size packet.follows_flush older chains)) (is_fresh size packet.follows_flush older (chain ∷ chains))) s.0.0
    ∙ ap (λ (b : Bool). cond packet.kept (is_same (begins_chunk other) b) (is_fresh size packet.follows_flush older (chain ∷ chains)))
    (is_fresh-places size packet.follows_flush older chains others s.1)
    ∙ ap (λ (b : Bool). cond packet.kept (is_same (begins_chunk other) (is_fresh size packet.follows_flush older others)) b)
    (is_fresh-places size packet.follows_flush older (chain ∷ chains) (other ∷ others) s)

older-places : (kept : Bool) (chains others : List Chain) → SameChains chains others
    → SameChains (cond kept (older_chains chains) chains) (cond kept (older_chains others) others)
older-places true [] [] s = tt
older-places true [] (other ∷ others) s = absurd s
older-places true (chain ∷ chains) [] s = absurd s
older-places true (chain ∷ chains) (other ∷ others) s = s.1
older-places false chains others s = s

pub all_begin_well-places : (size : ℕ) (packets : List Packet) (chains others : List Chain) → SameChains chains others
    → all_begin_well size packets chains ≡ all_begin_well size packets others
all_begin_well-places size [] chains others s = refl
all_begin_well-places size (packet ∷ older) chains others s =
    ap (λ (b : Bool). b && all_begin_well size older (cond packet.kept (older_chains chains) chains)) (begins_well-places size packet older chains others s)
    ∙ ap (λ (b : Bool). begins_well size packet older others && b)
    (all_begin_well-places size older (cond packet.kept (older_chains chains) chains) (cond packet.kept (older_chains others) others) (older-places packet.kept chains others s))
