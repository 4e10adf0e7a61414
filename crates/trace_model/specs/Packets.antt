-- What a writer's calls say of its packets: which were begun, kept, dropped, given up and finished, and their bytes.
use Rattle.std.specs.Prelude.{ℕ, ◌==◌, Bool, true, false, not, ◌&&◌, ◌||◌, List, [], ◌∷◌, ◌++◌, length, drop, map, filter, reverse, fold, Option, Some, None, is_some, IsTrue}
use Rattle.wire_varint.specs.Varint.{redundant}
use Rattle.trace_model.specs.Calls.{Call, Begun, Number, Bytes, Nested, Ended, GivenUp, Finished, Flushed}
use Rattle.trace_model.specs.Encoding.{number_field, bytes_field, nested_tag}
use Rattle.trace_model.specs.Record.{mark_where}

-- what stands for a nested length until its message has ended
abbrev pub open_length : List ℕ
open_length = 0x80 ∷ 0x80 ∷ 0x80 ∷ 0x00 ∷ []

-- the four bytes of a nested length: their place in the packet's bytes, and the length of the message behind them
pub record NestedLength : Type 0 where
  pub at : ℕ
  pub size : ℕ

-- What was written of a packet: the bytes of each message that is open, since its start, the innermost first and the
-- packet's own last; and the lengths whose message has ended, in the order of the ends.
pub record Text : Type 0 where
  pub levels : List (List ℕ)
  pub closed : List NestedLength

-- the bytes, with these four for each open length
abbrev pub flat : List ℕ → List (List ℕ) → List ℕ
flat four [] = []
flat four (level ∷ []) = level
flat four (level ∷ outer ∷ others) = flat four (outer ∷ others) ++ four ++ level

-- the places of the open lengths, inner ones first
abbrev pub open_places : List (List ℕ) → List ℕ
open_places [] = []
open_places (level ∷ []) = []
open_places (level ∷ outer ∷ others) = length (flat open_length (outer ∷ others)) ∷ open_places (outer ∷ others)

-- bytes are written to the innermost message
abbrev pub written : List ℕ → List (List ℕ) → List (List ℕ)
written bytes [] = []
written bytes (level ∷ others) = (level ++ bytes) ∷ others

-- the innermost message ends, and its length is known; the packet itself doesn't end so
abbrev pub closed_levels : List (List ℕ) → List NestedLength → Text
closed_levels [] closed = record { levels = []; closed = closed }
closed_levels (level ∷ []) closed = record { levels = level ∷ []; closed = closed }
closed_levels (level ∷ outer ∷ others) closed = record {
  levels = (outer ++ redundant (length level) ++ level) ∷ others;
  closed = closed ++ record { at = length (flat open_length (outer ∷ others)); size = length level } ∷ [];
}

-- a packet that a writer began
pub record Packet : Type 0 where
  -- it wasn't dropped at its begin
  pub kept : Bool
  -- the packet before it was dropped, at its begin or later: if it is kept it has the mark in front
  pub follows_loss : Bool
  -- the writer's held chunk was flushed between the packet before and this one
  pub follows_flush : Bool
  -- all that its writer was asked to write of it, its front mark first
  pub text : Text
  -- what had been written when it was given up, with the whole call in which that happened
  pub given_up : Option Text
  pub finished : Bool

-- it was dropped, at its begin or later
abbrev pub is_lost : Packet → Bool
is_lost packet = not packet.kept || is_some packet.given_up

-- the front mark, where the packet has one
abbrev pub front_of : Packet → List ℕ
front_of packet = mark_where (packet.kept && packet.follows_loss)

-- the packet's bytes, with its front mark
abbrev pub body_of : Packet → List ℕ
body_of packet = flat open_length packet.text.levels

-- its encoding alone
abbrev pub packet_encoding : Packet → List ℕ
packet_encoding packet = drop (length (front_of packet)) (body_of packet)

-- The packets so far, the newest first, and whether a flush came behind it.
pub record Account : Type 0 where
  pub packets : List Packet
  pub flushed : Bool

-- no packet was begun, and nothing was flushed
abbrev pub nothing_yet : Account
nothing_yet = record { packets = []; flushed = false }

-- the newest packet was dropped, at its begin or later
abbrev pub newest_is_lost : List Packet → Bool
newest_is_lost [] = false
newest_is_lost (packet ∷ older) = is_lost packet

-- a packet as it begins
abbrev pub begun_packet : Bool → Account → Packet
begun_packet kept account = record {
  kept = kept;
  follows_loss = newest_is_lost account.packets;
  follows_flush = account.flushed;
  text = record { levels = mark_where (kept && newest_is_lost account.packets) ∷ []; closed = [] };
  given_up = None;
  finished = false;
}

-- a change to the newest packet
abbrev pub on_newest : (Packet → Packet) → Account → Account
on_newest change account = record account { packets = newest_changed change account.packets }
  where
    newest_changed : (Packet → Packet) → List Packet → List Packet
    newest_changed change [] = []
    newest_changed change (packet ∷ older) = change packet ∷ older

-- the packet with more bytes
abbrev pub with_more : List ℕ → Packet → Packet
with_more bytes packet = record packet { text = record packet.text { levels = written bytes packet.text.levels } }

-- the packet with one more nested message begun
abbrev pub with_nested : ℕ → Packet → Packet
with_nested field packet =
    record packet { text = record packet.text { levels = [] ∷ written (nested_tag field) packet.text.levels } }

-- the packet with its innermost nested message ended
abbrev pub with_nested_ended : Packet → Packet
with_nested_ended packet = record packet { text = closed_levels packet.text.levels packet.text.closed }

-- the packet that its writer gave up, with its text as it stood then
abbrev pub given_up_packet : Packet → Packet
given_up_packet packet = record packet { given_up = Some packet.text }

-- the packet that its writer finished
abbrev pub finished_packet : Packet → Packet
finished_packet packet = record packet { finished = true }

-- the account once a call is noted. The calls of a dropped packet are noted as those of any other.
abbrev pub noted : Account → Call → Account
noted account (Begun kept) = record { packets = begun_packet kept account ∷ account.packets; flushed = false }
noted account (Number field value) = on_newest (with_more (number_field field value)) account
noted account (Bytes field text times) = on_newest (with_more (bytes_field field text times)) account
noted account (Nested field) = on_newest (with_nested field) account
noted account Ended = on_newest with_nested_ended account
noted account GivenUp = on_newest given_up_packet account
noted account Finished = on_newest finished_packet account
noted account Flushed = record account { flushed = true }

-- what the calls of a writer come to
abbrev pub account_of : List Call → Account
account_of calls = fold noted nothing_yet calls

-- the packets that the calls begin, the newest first
abbrev pub packets_of : List Call → List Packet
packets_of calls = (account_of calls).packets

-- those of them that weren't dropped at their begin
abbrev pub kept_of : List Packet → List Packet
kept_of packets = filter (λ packet. packet.kept) packets

-- The bodies of the kept packets, in their order.
abbrev pub bodies_of : List Call → List (List ℕ)
bodies_of calls = map body_of (reverse (kept_of (packets_of calls)))

-- the encodings of the finished ones of these packets, in this order
abbrev pub finished_encodings : List Packet → List (List ℕ)
finished_encodings packets = map packet_encoding (filter (λ packet. packet.finished) packets)

-- what was emitted of these packets, the newest first: the encodings of the finished ones, dropped ones among them, in the order of their
-- begins
abbrev pub emissions_in : List Packet → List (List ℕ)
emissions_in packets = finished_encodings (reverse packets)

-- The packets that the writer emitted.
abbrev pub emissions_of : List Call → List (List ℕ)
emissions_of calls = emissions_in (packets_of calls)

-- how many packets the calls begin, and how many of these were dropped at their begin
abbrev pub begun_count : List Call → ℕ
begun_count calls = length (packets_of calls)

-- how many packets were dropped as a whole
abbrev pub dropped_at_begin : List Call → ℕ
dropped_at_begin calls = length (filter (λ packet. not packet.kept) (packets_of calls))

-- how many of the packets were dropped, at their begin or later
abbrev pub lost_count : List Packet → ℕ
lost_count packets = length (filter is_lost packets)

-- how long the newest packet's encoding is so far
abbrev pub newest_length : List Packet → ℕ
newest_length [] = 0
newest_length (packet ∷ older) = length (packet_encoding packet)

-- Calls that are possible where they stand

-- whether a packet is begun and not finished
abbrev pub is_writing : List Packet → Bool
is_writing [] = false
is_writing (packet ∷ older) = not packet.finished

-- so many messages are open in the newest packet, itself among them
abbrev pub open_count : List Packet → ℕ
open_count [] = 0
open_count (packet ∷ older) = length packet.text.levels

-- a packet is being written, and isn't lost
abbrev pub newest_is_kept : List Packet → Bool
newest_is_kept packets = is_writing packets && not (newest_is_lost packets)

-- the call may come where these packets were begun
abbrev pub is_possible : List Packet → Call → Bool
is_possible packets (Begun kept) = not (is_writing packets)
is_possible packets (Number field value) = is_writing packets
is_possible packets (Bytes field text times) = is_writing packets
is_possible packets (Nested field) = is_writing packets
is_possible packets Ended = is_writing packets && not (open_count packets == 1)
is_possible packets GivenUp = newest_is_kept packets
is_possible packets Finished = is_writing packets && (open_count packets == 1)
is_possible packets Flushed = not (is_writing packets)

-- each of the calls may come where it stands
abbrev pub are_possible_after : Account → List Call → Bool
are_possible_after account [] = true
are_possible_after account (call ∷ calls) =
    is_possible account.packets call && are_possible_after (noted account call) calls

-- each call is possible behind those before it: packets stand one behind another, and their messages are nested
abbrev pub AreCalls : List Call → Type 0
AreCalls calls = IsTrue (are_possible_after nothing_yet calls)
