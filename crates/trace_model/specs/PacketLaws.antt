-- What the fold of a writer's calls means in words: a packet's body is its front mark and then its encoding, and the calls
-- by which fields are written give the encoding of these fields.
use Rattle.std.specs.Prelude.{◌≡◌, ℕ, Bool, true, false, List, [], ◌∷◌, ◌++◌, map, if◌then◌else◌, ⊤}
use Rattle.std.specs.List.{flat_map}
use Rattle.trace_model.specs.Calls.{Call, Begun, Finished}
use Rattle.trace_model.specs.Encoding.{Fields, encoding_of, calls_of}
use Rattle.trace_model.specs.Packets.{Packet, packets_of, bodies_of, emissions_of, body_of, front_of, packet_encoding, newest_is_lost}
use Rattle.trace_model.specs.Record.{mark_where}

-- Of these packets, the newest first: each knows whether the one before it was dropped, and its body is its front mark,
-- where it has one, and then its encoding.
abbrev pub AreFronted : List Packet → Type 0
AreFronted [] = ⊤
AreFronted (packet ∷ older) =
    (packet.follows_loss ≡ newest_is_lost older) × (body_of packet ≡ front_of packet ++ packet_encoding packet)
    × AreFronted older

-- A packet has the mark in front exactly where the packet before it is lost.
abbrev pub PacketsAreFronted : Type 0
PacketsAreFronted = (calls : List Call) → AreFronted (packets_of calls)

-- a packet that is written whole, whether it is kept or dropped at its begin
pub record WholePacket : Type 0 where
  pub kept : Bool
  pub fields : Fields

-- the calls that write one whole packet
abbrev pub packet_calls : WholePacket → List Call
packet_calls packet = Begun packet.kept ∷ calls_of packet.fields ++ Finished ∷ []

-- the bodies of the kept ones: the mark stands in front where the one before was dropped
abbrev pub whole_bodies : Bool → List WholePacket → List (List ℕ)
whole_bodies lost [] = []
whole_bodies lost (packet ∷ packets) =
    if packet.kept
    then (mark_where lost ++ encoding_of packet.fields) ∷ whole_bodies false packets
    else whole_bodies true packets

-- The packets that such calls write are the encodings of their fields, and their bodies have a mark in front exactly behind
-- one that was dropped.
abbrev pub CallsGiveEncodings : Type 0
CallsGiveEncodings = (packets : List WholePacket)
    → (emissions_of (flat_map packet_calls packets) ≡ map (λ (packet : WholePacket). encoding_of packet.fields) packets)
    × (bodies_of (flat_map packet_calls packets) ≡ whole_bodies false packets)
