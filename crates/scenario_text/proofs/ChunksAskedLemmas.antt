-- What lines ask of a writer fills few chunks: one for each packet, and at most one for each byte.
use Rattle.std.proofs.Common.{◌≡◌, ◌∙◌, ℕ, ◌+◌, ◌-◌, ◌/◌, ◌≤◌, nat_eq, Bool, true, false, cond, not, ◌&&◌, ◌||◌, List, [], ◌∷◌, ◌++◌, Option, None, is_some, map, filter, reverse, length, refl, ap, arith}
use Rattle.std.specs.Prelude.{fold, sum_by}
use Rattle.std.proofs.Math.Nat.{div-le_self}
use Rattle.std.proofs.lemmas.List.{length-drop, reverse-append}
use Rattle.std.proofs.lemmas.List.Filters.{sum_by-filter_both}
use Rattle.std.proofs.lemmas.List.Sums.{sum_by-append, sum_by-cons}
use Rattle.trace_model.specs.Calls as call
use Rattle.trace_model.specs.Calls.{Call}
use Rattle.trace_model.specs.Encoding.{number_field, bytes_field, nested_tag}
use Rattle.trace_model.proofs.EncodingLemmas.{length-bytes_field}
use Rattle.trace_model.specs.Record.{mark_where}
use Rattle.trace_model.specs.Packets.{Packet, Account, Text, NestedLength, open_length, flat, written, closed_levels, begun_packet, on_newest, with_more, with_nested, with_nested_ended, finished_packet, noted, nothing_yet, packets_of, packet_encoding, front_of, newest_is_lost, emissions_of}
use Rattle.trace_model.specs.Enough.{most_chunks}
use Rattle.field_tree.specs.declared.node.FieldNode.TheVariants as node
use Rattle.field_tree.specs.Judged.{node_len, node_len_at, nodes_len}
use Rattle.field_tree.specs.Nodes.{Shown}
use Rattle.scenario_text.specs.declared.scenario.LineKind.{LineKind}
use Rattle.scenario_text.specs.declared.scenario.LineKind.TheVariants as kinds
use Rattle.scenario_text.specs.declared.scenario.NumberedLine.{NumberedLine}
use Rattle.scenario_text.specs.Accepted.{node_call, line_calls, calls_asked, Accepts, AreAccepted}
use Rattle.scenario_text.specs.Lengths.{line_len, lines_len}
use Rattle.scenario_text.proofs.AcceptedFields.{longer, begun_len}
use Rattle.scenario_text.proofs.AcceptedCalls.{ended_len}

-- ---- how much a call makes the packets longer

-- one for a packet that begins, and each byte of one that goes on
abbrev weight : Call → ℕ
weight (call.Begun kept) = 1
weight (call.Number field value) = length (number_field field value)
weight (call.Bytes field text times) = length (bytes_field field text times)
weight (call.Nested field) = length (nested_tag field) + 4
weight call.Ended = 0
weight call.GivenUp = 0
weight call.Finished = 0
weight call.Flushed = 0

abbrev text_len : List (List ℕ) → ℕ
text_len levels = length (flat open_length levels)

abbrev packets_weight : List Packet → ℕ
packets_weight packets = sum_by (λ packet. 1 + text_len packet.text.levels) packets

written_len : (bytes : List ℕ) (levels : List (List ℕ)) → text_len (written bytes levels) ≤ text_len levels + length bytes
written_len bytes [] = omega arith
written_len bytes (level ∷ outer) = omega (arith, longer level bytes outer)

nested_len : (bytes : List ℕ) (levels : List (List ℕ)) → text_len ([] ∷ written bytes levels) ≤ text_len levels + (length bytes + 4)
nested_len bytes [] = omega arith
nested_len bytes (level ∷ outer) = omega (arith, begun_len (level ++ bytes) outer, longer level bytes outer)

closed_len : (levels : List (List ℕ)) (closed : List NestedLength) → text_len (closed_levels levels closed).levels ≤ text_len levels
closed_len [] closed = omega arith
closed_len (level ∷ []) closed = omega arith
closed_len (level ∷ outer ∷ others) closed = omega (arith, ended_len level outer others)

-- a packet that begins has no mark, since none before it was lost
record IsPlain (packet : Packet) : Type 0 where
  kept : packet.kept ≡ true
  ungiven : packet.given_up ≡ None
  alone : packet.follows_loss ≡ false

abbrev ArePlain : List Packet → Type 0
ArePlain [] = Unit {0}
ArePlain (packet ∷ older) = IsPlain packet × ArePlain older

none_lost : (packets : List Packet) → ArePlain packets → newest_is_lost packets ≡ false
none_lost [] plain = refl
none_lost (packet ∷ older) plain =
    ap (λ (b : Bool). not b || is_some packet.given_up) plain.0.kept ∙ ap (λ (o : Option Text). is_some o) plain.0.ungiven

-- the packets stay plain, and weigh so much more
record Weighs (packets after : List Packet) (more : ℕ) : Type 0 where
  plain : ArePlain after
  few : packets_weight after ≤ packets_weight packets + more

cons_weight : (packet : Packet) (older : List Packet) → packets_weight (packet ∷ older) ≡ 1 + text_len packet.text.levels + packets_weight older
cons_weight packet older = sum_by-cons (λ (p : Packet). 1 + text_len p.text.levels) packet older

newest_weighs : (change : Packet → Packet) (packets : List Packet) (flushed : Bool) (more : ℕ) → ((packet : Packet) → IsPlain packet → IsPlain (change packet))
    → ((packet : Packet) → text_len (change packet).text.levels ≤ text_len packet.text.levels + more) → ArePlain packets
    → Weighs packets (on_newest change (record { packets = packets; flushed = flushed })).packets more
newest_weighs change [] flushed more stays grows plain = record { plain = tt; few = omega arith }
newest_weighs change (packet ∷ older) flushed more stays grows plain = record {
  plain = (stays packet plain.0, plain.1);
  few = omega (arith, grows packet, cons_weight packet older, cons_weight (change packet) older);
}

call_weighs : (packets : List Packet) (flushed : Bool) (asked : Call) → Accepts packets asked → ArePlain packets
    → Weighs packets (noted (record { packets = packets; flushed = flushed }) asked).packets (weight asked)
call_weighs packets flushed (call.Begun kept) accepts plain =
    let none : newest_is_lost packets ≡ false = none_lost packets plain in
    let empty : mark_where (kept && newest_is_lost packets) ≡ [] =
    ap (λ (b : Bool). mark_where (b && newest_is_lost packets)) accepts.0 ∙ ap mark_where none in
    record {
      plain = (record { kept = accepts.0; ungiven = refl; alone = none }, plain);
      few = omega (arith, ap length empty, cons_weight (begun_packet kept (record { packets = packets; flushed = flushed })) packets);
    }
call_weighs packets flushed (call.Number field value) accepts plain =
    newest_weighs (with_more (number_field field value)) packets flushed (length (number_field field value))
    (λ packet is. record { kept = is.kept; ungiven = is.ungiven; alone = is.alone }) (λ packet. written_len (number_field field value) packet.text.levels) plain
call_weighs packets flushed (call.Bytes field text times) accepts plain =
    newest_weighs (with_more (bytes_field field text times)) packets flushed (length (bytes_field field text times))
    (λ packet is. record { kept = is.kept; ungiven = is.ungiven; alone = is.alone }) (λ packet. written_len (bytes_field field text times) packet.text.levels) plain
call_weighs packets flushed (call.Nested field) accepts plain =
    newest_weighs (with_nested field) packets flushed (length (nested_tag field) + 4)
    (λ packet is. record { kept = is.kept; ungiven = is.ungiven; alone = is.alone }) (λ packet. nested_len (nested_tag field) packet.text.levels) plain
call_weighs packets flushed call.Ended accepts plain =
    newest_weighs with_nested_ended packets flushed 0
    (λ packet is. record { kept = is.kept; ungiven = is.ungiven; alone = is.alone })
    (λ packet. omega (arith, closed_len packet.text.levels packet.text.closed)) plain
call_weighs packets flushed call.GivenUp accepts plain = absurd accepts
call_weighs packets flushed call.Finished accepts plain =
    newest_weighs finished_packet packets flushed 0
    (λ packet is. record { kept = is.kept; ungiven = is.ungiven; alone = is.alone }) (λ packet. omega arith) plain
call_weighs packets flushed call.Flushed accepts plain = record { plain = plain; few = omega arith }

calls_weigh : (account : Account) (calls : List Call) → AreAccepted account calls → ArePlain account.packets
    → Weighs account.packets (fold noted account calls).packets (sum_by weight calls)
calls_weigh account [] accepted plain = record { plain = plain; few = omega arith }
calls_weigh account (asked ∷ calls) accepted plain =
    let one = call_weighs account.packets account.flushed asked accepted.0 plain in
    let more = calls_weigh (noted account asked) calls accepted.1 one.plain in
    record { plain = more.plain; few = omega (arith, one.few, more.few, sum_by-cons weight asked calls) }

-- ---- how much lines ask

node_weighs : (n : Shown) → weight (node_call n) ≤ node_len n
unfolding node_call node_len_at
node_weighs (node.Number field value, text) = omega arith
node_weighs (node.Bytes field times, text) = omega (arith, length-bytes_field field text times)
node_weighs (node.Begin field, text) = omega arith
node_weighs (node.End, text) = omega arith

nodes_weigh : (nodes : List Shown) → sum_by weight (map node_call nodes) ≤ nodes_len nodes
nodes_weigh [] = omega arith
nodes_weigh (n ∷ nodes) =
    omega (arith, node_weighs n, nodes_weigh nodes, sum_by-cons weight (node_call n) (map node_call nodes), sum_by-cons node_len n nodes)

own_weighs : (own : Bool) (calls : List Call) (most : ℕ) → sum_by weight calls ≤ most → sum_by weight (cond own calls []) ≤ most
own_weighs true calls most few = few
own_weighs false calls most few = omega arith

one_weighs : (asked : Call) → sum_by weight (asked ∷ []) ≡ weight asked
one_weighs asked = sum_by-cons weight asked [] ∙ omega arith

whole_weighs : (nodes : List Shown) → sum_by weight (call.Begun true ∷ map node_call nodes ++ call.Finished ∷ []) ≤ 1 + nodes_len nodes
whole_weighs nodes =
    omega (
      arith,
      sum_by-cons weight (call.Begun true) (map node_call nodes ++ call.Finished ∷ []),
      sum_by-append weight (map node_call nodes) (call.Finished ∷ []),
      one_weighs call.Finished,
      nodes_weigh nodes,
    )

line_weighs : (number : ℕ) (kind : LineKind) → sum_by weight (line_calls number kind) ≤ 1 + line_len kind
unfolding line_calls
line_weighs number (kinds.Packet writer nodes) = own_weighs (nat_eq number writer) _ _ (whole_weighs nodes)
line_weighs number (kinds.Begin writer) = own_weighs (nat_eq number writer) _ _ (omega (arith, one_weighs (call.Begun true)))
line_weighs number (kinds.Add writer nodes) = own_weighs (nat_eq number writer) _ _ (omega (arith, nodes_weigh nodes))
line_weighs number (kinds.Nest writer field) = own_weighs (nat_eq number writer) _ _ (omega (arith, one_weighs (call.Nested field)))
line_weighs number (kinds.Unnest writer) = own_weighs (nat_eq number writer) _ _ (omega (arith, one_weighs call.Ended))
line_weighs number (kinds.End writer) = own_weighs (nat_eq number writer) _ _ (omega (arith, one_weighs call.Finished))
line_weighs number (kinds.Flush writer) = own_weighs (nat_eq number writer) _ _ (omega (arith, one_weighs call.Flushed))
line_weighs number (kinds.Collect producer) = omega arith
line_weighs number (kinds.Scrape producer) = omega arith
line_weighs number (kinds.Close producer) = omega arith
line_weighs number (kinds.Read buffer limit) = omega arith
line_weighs number kinds.Request = omega arith
line_weighs number (kinds.CloneBuffer buffer) = omega arith
line_weighs number (kinds.Raw writer chunk) = omega arith

lines_weigh : (number : ℕ) (lines : List NumberedLine) → sum_by weight (calls_asked number lines) ≤ length lines + lines_len lines
lines_weigh number [] = omega arith
lines_weigh number (line ∷ lines) =
    omega (
      arith,
      sum_by-append weight (line_calls number line.what) (calls_asked number lines),
      line_weighs number line.what,
      lines_weigh number lines,
      sum_by-cons (λ (l : NumberedLine). line_len l.what) line lines,
    )

-- ---- how many chunks packets fill

encoding_short : (packet : Packet) → length (packet_encoding packet) ≤ text_len packet.text.levels
encoding_short packet = omega (arith, length-drop (length (front_of packet)) (flat open_length packet.text.levels))

chunks_few : (payload : ℕ) (packets : List Packet) → most_chunks payload (map packet_encoding packets) ≤ packets_weight packets
chunks_few payload [] = omega arith
chunks_few payload (packet ∷ packets) =
    omega (
      arith,
      sum_by-cons (λ (bytes : List ℕ). 1 + length bytes / (payload - 7)) (packet_encoding packet) (map packet_encoding packets),
      div-le_self (length (packet_encoding packet)) (payload - 7),
      encoding_short packet,
      chunks_few payload packets,
      cons_weight packet packets,
    )

reversed_weight : (packets : List Packet) → packets_weight (reverse packets) ≡ packets_weight packets
reversed_weight [] = refl
reversed_weight (packet ∷ older) =
    let one : packets_weight (packet ∷ []) ≡ 1 + text_len packet.text.levels = cons_weight packet [] ∙ omega arith in
    ap packets_weight (reverse-append (packet ∷ []) older)
    ∙ sum_by-append (λ (p : Packet). 1 + text_len p.text.levels) (reverse older) (packet ∷ [])
    ∙ omega (arith, one, reversed_weight older, cons_weight packet older)

-- The packets that lines ask of a writer fill at most so many chunks, whatever the chunks' size.
pub chunks_asked : (payload number : ℕ) (lines : List NumberedLine) → AreAccepted nothing_yet (calls_asked number lines)
    → most_chunks payload (emissions_of (calls_asked number lines)) ≤ length lines + lines_len lines
chunks_asked payload number lines accepted =
    let packets = packets_of (calls_asked number lines) in
    let weighs = calls_weigh nothing_yet (calls_asked number lines) accepted tt in
    let finished = λ (p : Packet). p.finished in
    omega (
      arith,
      chunks_few payload (filter finished (reverse packets)),
      sum_by-filter_both finished (λ (p : Packet). not p.finished) (λ p. refl) (λ (p : Packet). 1 + text_len p.text.levels) (reverse packets),
      reversed_weight packets,
      weighs.few,
      lines_weigh number lines,
    )
