-- Laws of the packets that a list of calls makes.
use Rattle.std.proofs.Common.{◌≡◌, ◌∙◌, ℕ, length, Bool, true, false, cond, ◌&&◌, List, [], ◌∷◌, ◌++◌, map, drop, reverse, refl, sym, ap, append_assoc}
use Rattle.std.specs.Prelude.{filter, fold}
use Rattle.std.proofs.lemmas.Grind.{reverse_onto}
use Rattle.std.proofs.lemmas.List.{append-nil, map-append}
use Rattle.std.proofs.lemmas.List.Elements.{filter-append}
use Rattle.std.proofs.Math.Seq.{drop-append_seam}
use Rattle.wire_varint.specs.Varint.{redundant}
use Rattle.trace_model.specs.Calls.{Call, Begun, Number, Bytes, Nested, Ended, GivenUp, Finished, Flushed}
use Rattle.trace_model.specs.Encoding.{number_field, bytes_field, nested_tag}
use Rattle.trace_model.specs.Packets.{Packet, NestedLength, Account, open_length, flat, written, closed_levels, front_of, body_of, newest_is_lost, noted, nothing_yet, packets_of, with_more, with_nested, with_nested_ended, given_up_packet, finished_packet, on_newest, packet_encoding, finished_encodings, emissions_in}
use Rattle.trace_model.specs.Cut.{Begins}
use Rattle.trace_model.specs.PacketLaws.{AreFronted, PacketsAreFronted}
use Rattle.trace_model.specs.Record.{mark_where}

-- the packet's own level, outside all nested messages
abbrev bottom : List (List ℕ) → List ℕ
bottom [] = []
bottom (level ∷ []) = level
bottom (level ∷ outer ∷ others) = bottom (outer ∷ others)

-- what is written to the innermost level is written last
pub flat_written : (four bytes level : List ℕ) (others : List (List ℕ)) → flat four ((level ++ bytes) ∷ others) ≡ flat four (level ∷ others) ++ bytes
flat_written four bytes level [] = refl
flat_written four bytes level (next ∷ others) = sym (append_assoc (flat four (next ∷ others) ++ four) level bytes)

front_more : (front whole more : List ℕ) → Begins front whole → Begins front (whole ++ more)
front_more front whole more h = (h.0 ++ more, ap (λ (xs : List ℕ). xs ++ more) h.1 ∙ append_assoc front h.0 more)

front_flat : (four : List ℕ) (levels : List (List ℕ)) (front : List ℕ) → Begins front (bottom levels) → Begins front (flat four levels)
front_flat four [] front h = h
front_flat four (level ∷ []) front h = h
front_flat four (level ∷ outer ∷ others) front h =
    front_more front (flat four (outer ∷ others) ++ four) level
    (front_more front (flat four (outer ∷ others)) four (front_flat four (outer ∷ others) front h))

front_written : (bytes : List ℕ) (levels : List (List ℕ)) (front : List ℕ) → Begins front (bottom levels) → Begins front (bottom (written bytes levels))
front_written bytes [] front h = h
front_written bytes (level ∷ []) front h = front_more front level bytes h
front_written bytes (level ∷ outer ∷ others) front h = h

front_nested : (levels : List (List ℕ)) (front : List ℕ) → Begins front (bottom levels) → Begins front (bottom ([] ∷ levels))
front_nested [] front h = h
front_nested (level ∷ others) front h = h

front_closed : (levels : List (List ℕ)) (closed : List NestedLength) (front : List ℕ) → Begins front (bottom levels)
    → Begins front (bottom (closed_levels levels closed).levels)
front_closed [] closed front h = h
front_closed (level ∷ []) closed front h = h
front_closed (level ∷ outer ∷ []) closed front h =
    front_more front (outer ++ redundant (length level)) level (front_more front outer (redundant (length level)) h)
front_closed (level ∷ outer ∷ next ∷ others) closed front h = h

-- the packets know of the one before, and their own levels begin with their front marks
abbrev Knows : List Packet → Type 0
Knows [] = Unit {0}
Knows (packet ∷ older) =
    (packet.follows_loss ≡ newest_is_lost older) × Begins (front_of packet) (bottom packet.text.levels) × Knows older

front_begun : (front : List ℕ) → Begins front front
front_begun front = ([], sym (append-nil front))

knows_noted : (account : Account) (call : Call) → Knows account.packets → Knows (noted account call).packets
knows_noted account (Begun kept) h = (refl, front_begun (mark_where (kept && newest_is_lost account.packets)), h)
knows_noted account (Number field value) h = knows_more account.packets (number_field field value) h
  where
    knows_more : (packets : List Packet) (bytes : List ℕ) → Knows packets → Knows (on_newest (with_more bytes) (record account { packets = packets })).packets
    knows_more [] bytes h = h
    knows_more (packet ∷ older) bytes h = (h.0, front_written bytes packet.text.levels (front_of packet) h.1, h.2)
knows_noted account (Bytes field text times) h = knows_more account.packets (bytes_field field text times) h
  where
    knows_more : (packets : List Packet) (bytes : List ℕ) → Knows packets → Knows (on_newest (with_more bytes) (record account { packets = packets })).packets
    knows_more [] bytes h = h
    knows_more (packet ∷ older) bytes h = (h.0, front_written bytes packet.text.levels (front_of packet) h.1, h.2)
knows_noted account (Nested field) h = knows_nested account.packets h
  where
    knows_nested : (packets : List Packet) → Knows packets → Knows (on_newest (with_nested field) (record account { packets = packets })).packets
    knows_nested [] h = h
    knows_nested (packet ∷ older) h =
        (h.0, front_nested (written (nested_tag field) packet.text.levels) (front_of packet) (front_written (nested_tag field) packet.text.levels (front_of packet) h.1), h.2)
knows_noted account Ended h = knows_ended account.packets h
  where
    knows_ended : (packets : List Packet) → Knows packets → Knows (on_newest with_nested_ended (record account { packets = packets })).packets
    knows_ended [] h = h
    knows_ended (packet ∷ older) h = (h.0, front_closed packet.text.levels packet.text.closed (front_of packet) h.1, h.2)
knows_noted account GivenUp h = knows_given account.packets h
  where
    knows_given : (packets : List Packet) → Knows packets → Knows (on_newest given_up_packet (record account { packets = packets })).packets
    knows_given [] h = h
    knows_given (packet ∷ older) h = h
knows_noted account Finished h = knows_finished account.packets h
  where
    knows_finished : (packets : List Packet) → Knows packets → Knows (on_newest finished_packet (record account { packets = packets })).packets
    knows_finished [] h = h
    knows_finished (packet ∷ older) h = h
knows_noted account Flushed h = h

knows_all : (calls : List Call) (account : Account) → Knows account.packets → Knows (fold noted account calls).packets
knows_all [] account h = h
knows_all (call ∷ calls) account h = knows_all calls (noted account call) (knows_noted account call h)

-- what begins with a list is that list and what is behind it
behind_front : (front whole : List ℕ) → Begins front whole → whole ≡ front ++ drop (length front) whole
behind_front front whole h =
    h.1 ∙ ap (λ (xs : List ℕ). front ++ xs) (sym (ap (drop (length front)) h.1 ∙ drop-append_seam front h.0))

fronted : (packets : List Packet) → Knows packets → AreFronted packets
fronted [] h = tt
fronted (packet ∷ older) h =
    (h.0, behind_front (front_of packet) (body_of packet) (front_flat open_length packet.text.levels (front_of packet) h.1), fronted older h.2)

pub packets_are_fronted : PacketsAreFronted
packets_are_fronted calls = fronted (packets_of calls) (knows_all calls nothing_yet tt)

-- ---- what is emitted

-- a newer packet is emitted last, where it is finished
pub emitted_more : (packet : Packet) (older : List Packet) (is_finished : Bool) → packet.finished ≡ is_finished
    → emissions_in (packet ∷ older) ≡ emissions_in older ++ cond is_finished (packet_encoding packet ∷ []) []
emitted_more packet older is_finished is =
    let finished : Packet → Bool = λ p. p.finished in
    ap finished_encodings (reverse_onto older packet [])
    ∙ ap (map packet_encoding) (filter-append finished (reverse older) (packet ∷ []))
    ∙ map-append packet_encoding (filter finished (reverse older)) (filter finished (packet ∷ []))
    ∙ ap (λ (xs : List (List ℕ)). emissions_in older ++ xs) (ap (λ (b : Bool). map packet_encoding (cond b (packet ∷ []) [])) is ∙ one is_finished)
  where
    one : (b : Bool) → map packet_encoding (cond b (packet ∷ []) []) ≡ cond b (packet_encoding packet ∷ []) []
    one true = refl
    one false = refl

-- and before that it isn't
pub emitted_still : (packet : Packet) (older : List Packet) → packet.finished ≡ false → emissions_in (packet ∷ older) ≡ emissions_in older
emitted_still packet older is = emitted_more packet older false is ∙ append-nil (emissions_in older)
