-- Before which packets a writer flushed is told by what was asked of it, whatever it lost.
use Rattle.std.proofs.Common.{◌≡◌, ◌∙◌, Bool, true, false, List, [], ◌∷◌, ◌++◌, map, refl, sym, ap}
use Rattle.std.specs.Prelude.{fold}
use Rattle.std.proofs.lemmas.List.Sums.{fold-append}
use Rattle.trace_model.specs.Calls.{Call, Begun, Number, Bytes, Nested, Ended, GivenUp, Finished, Flushed}
use Rattle.trace_model.specs.Encoding.{number_field, bytes_field}
use Rattle.trace_model.specs.Packets.{Packet, Account, noted, packets_of, begun_packet, with_more, with_nested, with_nested_ended, given_up_packet, finished_packet}
use Rattle.field_tree.specs.declared.node.FieldNode.TheVariants as node
use Rattle.field_tree.specs.Nodes.{Shown}
use Rattle.scenario_text.specs.Accepted.{node_call}
use Rattle.run_model.specs.Noted.{done_calls}

-- which packets follow a flush, the newest first, and whether a flush came behind them
abbrev pub Flags : Type 0
Flags = List Bool × Bool

abbrev pub flag_after : Flags → Call → Flags
flag_after flags (Begun kept) = (flags.1 ∷ flags.0, false)
flag_after flags Flushed = (flags.0, true)
flag_after flags call = flags

abbrev flags_of : List Packet → List Bool
flags_of packets = map (λ (packet : Packet). packet.follows_flush) packets

abbrev account : List Packet → Bool → Account
account packets flushed = record { packets = packets; flushed = flushed }

abbrev both_of : Account → Flags
both_of all = (flags_of all.packets, all.flushed)

flags_noted : (calls : List Call) (packets : List Packet) (flushed : Bool)
    → both_of (fold noted (account packets flushed) calls) ≡ fold flag_after (flags_of packets, flushed) calls
flags_noted [] packets flushed = refl
flags_noted (Begun kept ∷ calls) packets flushed = flags_noted calls (begun_packet kept (account packets flushed) ∷ packets) false
flags_noted (Number field value ∷ calls) [] flushed = flags_noted calls [] flushed
flags_noted (Number field value ∷ calls) (packet ∷ packets) flushed = flags_noted calls (with_more (number_field field value) packet ∷ packets) flushed
flags_noted (Bytes field text times ∷ calls) [] flushed = flags_noted calls [] flushed
flags_noted (Bytes field text times ∷ calls) (packet ∷ packets) flushed = flags_noted calls (with_more (bytes_field field text times) packet ∷ packets) flushed
flags_noted (Nested field ∷ calls) [] flushed = flags_noted calls [] flushed
flags_noted (Nested field ∷ calls) (packet ∷ packets) flushed = flags_noted calls (with_nested field packet ∷ packets) flushed
flags_noted (Ended ∷ calls) [] flushed = flags_noted calls [] flushed
flags_noted (Ended ∷ calls) (packet ∷ packets) flushed = flags_noted calls (with_nested_ended packet ∷ packets) flushed
flags_noted (GivenUp ∷ calls) [] flushed = flags_noted calls [] flushed
flags_noted (GivenUp ∷ calls) (packet ∷ packets) flushed = flags_noted calls (given_up_packet packet ∷ packets) flushed
flags_noted (Finished ∷ calls) [] flushed = flags_noted calls [] flushed
flags_noted (Finished ∷ calls) (packet ∷ packets) flushed = flags_noted calls (finished_packet packet ∷ packets) flushed
flags_noted (Flushed ∷ calls) packets flushed = flags_noted calls packets true

flags_asked : (calls : List Call) (flags : Flags) → fold flag_after flags (done_calls calls) ≡ fold flag_after flags calls
flags_asked [] flags = refl
flags_asked (Begun kept ∷ calls) flags = flags_asked calls (flags.1 ∷ flags.0, false)
flags_asked (Number field value ∷ calls) flags = flags_asked calls flags
flags_asked (Bytes field text times ∷ calls) flags = flags_asked calls flags
flags_asked (Nested field ∷ calls) flags = flags_asked calls flags
flags_asked (Ended ∷ calls) flags = flags_asked calls flags
flags_asked (GivenUp ∷ calls) flags = flags_asked calls flags
flags_asked (Finished ∷ calls) flags = flags_asked calls flags
flags_asked (Flushed ∷ calls) flags = flags_asked calls (flags.0, true)

-- the packets of a writer of which these calls were asked
pub flags_are : (calls asked : List Call) → done_calls calls ≡ asked → map (λ (packet : Packet). packet.follows_flush) (packets_of calls) ≡ (fold flag_after ([], false) asked).0
flags_are calls asked is = ap (λ (flags : Flags). flags.0) (flags_noted calls [] false ∙ sym (flags_asked calls ([], false)) ∙ ap (λ (cs : List Call). fold flag_after ([], false) cs) is)

-- a packet's fields change nothing
fields_flag : (nodes : List Shown) (flags : Flags) (rest : List Call) → fold flag_after flags (map node_call nodes ++ rest) ≡ fold flag_after flags rest
unfolding node_call
fields_flag [] flags rest = refl
fields_flag ((node.Number field value, text) ∷ nodes) flags rest = fields_flag nodes flags rest
fields_flag ((node.Bytes field times, text) ∷ nodes) flags rest = fields_flag nodes flags rest
fields_flag ((node.Begin field, text) ∷ nodes) flags rest = fields_flag nodes flags rest
fields_flag ((node.End, text) ∷ nodes) flags rest = fields_flag nodes flags rest

-- a whole packet
pub packet_flag : (nodes : List Shown) (flags : Flags) → fold flag_after flags (Begun true ∷ map node_call nodes ++ Finished ∷ []) ≡ (flags.1 ∷ flags.0, false)
packet_flag nodes flags = fields_flag nodes (flags.1 ∷ flags.0, false) (Finished ∷ [])

pub flags_behind : (calls more : List Call) (flags mid : Flags) → fold flag_after flags calls ≡ mid → fold flag_after flags (calls ++ more) ≡ fold flag_after mid more
flags_behind calls more flags mid is = fold-append flag_after flags calls more ∙ ap (λ (f : Flags). fold flag_after f more) is
