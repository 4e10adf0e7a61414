-- The calls by which fields are written give their encoding.
use Rattle.std.proofs.Common.{◌≡◌, ◌∙◌, ℕ, length, Bool, true, false, ◌&&◌, List, [], ◌∷◌, ◌++◌, None, map, reverse, refl, sym, ap, append_assoc}
use Rattle.std.specs.Prelude.{fold}
use Rattle.std.specs.List.{flat_map}
use Rattle.std.proofs.lemmas.List.{append-nil, map-append}
use Rattle.std.proofs.lemmas.List.Sums.{fold-append}
use Rattle.std.proofs.lemmas.Grind.{reverse_onto}
use Rattle.std.proofs.Math.Seq.{drop-append_seam}
use Rattle.wire_varint.specs.Varint.{redundant}
use Rattle.trace_model.specs.Calls.{Call, Begun, Ended, Finished}
use Rattle.trace_model.specs.Encoding.{Fields, NoFields, NumberField, BytesField, NestedField, number_field, bytes_field, nested_tag, encoding_of, calls_of}
use Rattle.trace_model.specs.Packets.{Packet, NestedLength, Account, open_length, flat, noted, nothing_yet, begun_packet, newest_is_lost, body_of, kept_of, emissions_in}
use Rattle.trace_model.specs.PacketLaws.{WholePacket, packet_calls, whole_bodies, CallsGiveEncodings}
use Rattle.trace_model.specs.Record.{mark_where}
use Rattle.trace_model.proofs.PacketLemmas.{emitted_more}

-- the account whose newest packet has these levels and closed lengths
abbrev pub at_text : Packet → List Packet → Bool → List (List ℕ) → List NestedLength → Account
at_text packet older flushed levels closed =
    record { packets = record packet { text = record { levels = levels; closed = closed } } ∷ older; flushed = flushed }

-- these calls turn the first account's innermost level into the second one
pub record Writes (packet : Packet) (older : List Packet) (flushed : Bool) (calls : List Call) (level after : List ℕ)
    (outer : List (List ℕ)) (closed : List NestedLength) : Type 0 where
  pub more : List NestedLength
  pub is : fold noted (at_text packet older flushed (level ∷ outer) closed) calls ≡ at_text packet older flushed (after ∷ outer) more

module _ (packet : Packet) (older : List Packet) (flushed : Bool) where
  writes_same : (calls : List Call) (level after after' : List ℕ) (outer : List (List ℕ)) (closed : List NestedLength)
      → after ≡ after' → Writes packet older flushed calls level after outer closed → Writes packet older flushed calls level after' outer closed
  writes_same calls level after after' outer closed e h =
      record { more = h.more; is = h.is ∙ ap (λ (xs : List ℕ). at_text packet older flushed (xs ∷ outer) h.more) e }

  pub writes_fields : (fields : Fields) (level : List ℕ) (outer : List (List ℕ)) (closed : List NestedLength)
      → Writes packet older flushed (calls_of fields) level (level ++ encoding_of fields) outer closed
  writes_fields NoFields level outer closed = record {
    more = closed;
    is = ap (λ (xs : List ℕ). at_text packet older flushed (xs ∷ outer) closed) (sym (append-nil level));
  }
  writes_fields (NumberField field value others) level outer closed =
      let rest : Writes packet older flushed (calls_of others) (level ++ number_field field value) ((level ++ number_field field value) ++ encoding_of others) outer closed =
      writes_fields others (level ++ number_field field value) outer closed in
      writes_same (calls_of (NumberField field value others)) level ((level ++ number_field field value) ++ encoding_of others)
      (level ++ encoding_of (NumberField field value others)) outer closed (append_assoc level (number_field field value) (encoding_of others))
      (record { more = rest.more; is = rest.is })
  writes_fields (BytesField field text times others) level outer closed =
      let rest : Writes packet older flushed (calls_of others) (level ++ bytes_field field text times) ((level ++ bytes_field field text times) ++ encoding_of others) outer closed =
      writes_fields others (level ++ bytes_field field text times) outer closed in
      writes_same (calls_of (BytesField field text times others)) level ((level ++ bytes_field field text times) ++ encoding_of others)
      (level ++ encoding_of (BytesField field text times others)) outer closed (append_assoc level (bytes_field field text times) (encoding_of others))
      (record { more = rest.more; is = rest.is })
  writes_fields (NestedField field inner others) level outer closed =
      let tagged : List ℕ = level ++ nested_tag field in
      let message : List ℕ = encoding_of inner in
      let four : List ℕ = redundant (length message) in
      let within : Writes packet older flushed (calls_of inner) [] message (tagged ∷ outer) closed =
      writes_fields inner [] (tagged ∷ outer) closed in
      let here : NestedLength = record { at = length (flat open_length (tagged ∷ outer)); size = length message } in
      let ended : List ℕ = (tagged ++ four) ++ message in
      let rest : Writes packet older flushed (calls_of others) ended (ended ++ encoding_of others) outer (within.more ++ here ∷ []) =
      writes_fields others ended outer (within.more ++ here ∷ []) in
      writes_same (calls_of (NestedField field inner others)) level (ended ++ encoding_of others)
      (level ++ encoding_of (NestedField field inner others)) outer closed
      (joined level (nested_tag field) four message (encoding_of others))
      (record {
        more = rest.more;
        is = fold-append noted (at_text packet older flushed ([] ∷ tagged ∷ outer) closed) (calls_of inner) (Ended ∷ calls_of others)
            ∙ ap (λ (a : Account). fold noted a (Ended ∷ calls_of others)) within.is
            ∙ rest.is;
      })
    where
      joined : (a b c d e : List ℕ) → (((a ++ b) ++ c) ++ d) ++ e ≡ a ++ (b ++ c ++ d ++ e)
      joined a b c d e =
          append_assoc ((a ++ b) ++ c) d e ∙ append_assoc (a ++ b) c (d ++ e) ∙ append_assoc a b (c ++ (d ++ e))
          ∙ ap (λ (xs : List ℕ). a ++ xs) (sym (append_assoc b c (d ++ e)) ∙ sym (append_assoc (b ++ c) d e))

-- Whole packets

-- a packet with these fields as it is finished
abbrev made : Bool → Fields → Account → List NestedLength → Packet
made kept fields account closed = record {
  kept = kept;
  follows_loss = newest_is_lost account.packets;
  follows_flush = account.flushed;
  text = record { levels = (mark_where (kept && newest_is_lost account.packets) ++ encoding_of fields) ∷ []; closed = closed };
  given_up = None;
  finished = true;
}

record Makes (kept : Bool) (fields : Fields) (account : Account) : Type 0 where
  closed : List NestedLength
  is : fold noted account (packet_calls (record { kept = kept; fields = fields }))
      ≡ record { packets = made kept fields account closed ∷ account.packets; flushed = false }

makes : (kept : Bool) (fields : Fields) (account : Account) → Makes kept fields account
makes kept fields account =
    let begun : Account = noted account (Begun kept) in
    let packet : Packet = begun_packet kept account in
    let front : List ℕ = mark_where (kept && newest_is_lost account.packets) in
    let within : Writes packet account.packets false (calls_of fields) front (front ++ encoding_of fields) [] [] =
    writes_fields packet account.packets false fields front [] [] in
    record {
      closed = within.more;
      is = fold-append noted begun (calls_of fields) (Finished ∷ [])
          ∙ ap (λ (a : Account). fold noted a (Finished ∷ [])) within.is;
    }

abbrev bodies : List Packet → List (List ℕ)
bodies packets = map body_of (reverse (kept_of packets))

reverse-cons : (packet : Packet) (packets : List Packet) → reverse (packet ∷ packets) ≡ reverse packets ++ packet ∷ []
reverse-cons packet packets = reverse_onto packets packet []

emitted-made : (kept : Bool) (fields : Fields) (account : Account) (closed : List NestedLength)
    → emissions_in (made kept fields account closed ∷ account.packets) ≡ emissions_in account.packets ++ encoding_of fields ∷ []
emitted-made kept fields account closed =
    emitted_more (made kept fields account closed) account.packets true refl
    ∙ ap (λ (xs : List ℕ). emissions_in account.packets ++ xs ∷ []) (drop-append_seam (mark_where (kept && newest_is_lost account.packets)) (encoding_of fields))

bodies-kept : (fields : Fields) (account : Account) (closed : List NestedLength)
    → bodies (made true fields account closed ∷ account.packets)
    ≡ bodies account.packets ++ (mark_where (newest_is_lost account.packets) ++ encoding_of fields) ∷ []
bodies-kept fields account closed =
    let packet : Packet = made true fields account closed in
    ap (map body_of) (reverse-cons packet (kept_of account.packets))
    ∙ map-append body_of (reverse (kept_of account.packets)) (packet ∷ [])

emitted-all : (packets : List WholePacket) (account : Account)
    → emissions_in (fold noted account (flat_map packet_calls packets)).packets
    ≡ emissions_in account.packets ++ map (λ (packet : WholePacket). encoding_of packet.fields) packets
emitted-all [] account = sym (append-nil (emissions_in account.packets))
emitted-all (packet ∷ packets) account =
    let here : Makes packet.kept packet.fields account = makes packet.kept packet.fields account in
    let after : Account = record { packets = made packet.kept packet.fields account here.closed ∷ account.packets; flushed = false } in
    let others : List (List ℕ) = map (λ (p : WholePacket). encoding_of p.fields) packets in
    ap (λ (a : Account). emissions_in a.packets) (fold-append noted account (packet_calls packet) (flat_map packet_calls packets))
    ∙ ap (λ (a : Account). emissions_in (fold noted a (flat_map packet_calls packets)).packets) here.is
    ∙ emitted-all packets after
    ∙ ap (λ (xs : List (List ℕ)). xs ++ others) (emitted-made packet.kept packet.fields account here.closed)
    ∙ append_assoc (emissions_in account.packets) (encoding_of packet.fields ∷ []) others

-- the bodies of the packets behind one that was kept or dropped
bodies-step : (kept : Bool) (tree : Fields) (account : Account) (closed : List NestedLength) (packets : List WholePacket)
    → bodies (made kept tree account closed ∷ account.packets) ++ whole_bodies (newest_is_lost (made kept tree account closed ∷ account.packets)) packets
    ≡ bodies account.packets ++ whole_bodies (newest_is_lost account.packets) (record { kept = kept; fields = tree } ∷ packets)
bodies-step true tree account closed packets =
    ap (λ (xs : List (List ℕ)). xs ++ whole_bodies false packets) (bodies-kept tree account closed)
    ∙ append_assoc (bodies account.packets) ((mark_where (newest_is_lost account.packets) ++ encoding_of tree) ∷ []) (whole_bodies false packets)
bodies-step false tree account closed packets = refl

bodies-all : (packets : List WholePacket) (account : Account)
    → bodies (fold noted account (flat_map packet_calls packets)).packets
    ≡ bodies account.packets ++ whole_bodies (newest_is_lost account.packets) packets
bodies-all [] account = sym (append-nil (bodies account.packets))
bodies-all (packet ∷ packets) account =
    let here : Makes packet.kept packet.fields account = makes packet.kept packet.fields account in
    let after : Account = record { packets = made packet.kept packet.fields account here.closed ∷ account.packets; flushed = false } in
    ap (λ (a : Account). bodies a.packets) (fold-append noted account (packet_calls packet) (flat_map packet_calls packets))
    ∙ ap (λ (a : Account). bodies (fold noted a (flat_map packet_calls packets)).packets) here.is
    ∙ bodies-all packets after
    ∙ bodies-step packet.kept packet.fields account here.closed packets

pub calls_give_encodings : CallsGiveEncodings
calls_give_encodings packets = (emitted-all packets nothing_yet, bodies-all packets nothing_yet)
