-- What the workload of a number asks for: one large buffer, one producer, writers that stall, and in each turn a packet of
-- each writer.
use Rattle.std.specs.Prelude.{ℕ, zero, suc, ◌+◌, ◌*◌, ◌/◌, ◌%◌, List, [], ◌∷◌, ◌++◌, replicate}
use Rattle.trace_base.specs.declared.policy.FullPolicy.TheVariants.{Ring}
use Rattle.trace_base.specs.declared.policy.WriterPolicy.TheVariants.{Stalls}
use Rattle.trace_base.specs.declared.policy.WriterSpec.{WriterSpec}
use Rattle.trace_model.specs.Encoding.{Fields, NoFields, NumberField, BytesField, NestedField}
use Rattle.field_tree.specs.Nodes.{nodes_of}
use Rattle.scenario_text.specs.declared.scenario.BufferLine.{BufferLine}
use Rattle.scenario_text.specs.declared.scenario.LineKind.TheVariants.{Packet}
use Rattle.scenario_text.specs.declared.scenario.NumberedLine.{NumberedLine}
use Rattle.scenario_text.specs.declared.scenario.ProducerLine.{ProducerLine}
use Rattle.scenario_text.specs.Scenario.{Parts}
use Rattle.workload_gen.specs.Workload.{state_after, drawn_of}

-- ---- the set-up

-- 64 MB, in which a new record overwrites old ones
abbrev pub buffer_asked : BufferLine
buffer_asked = record { kb = 65536; policy = Ring }

-- 16 pages of 4,096 bytes with 14 chunks each
abbrev pub producer_asked : ProducerLine
producer_asked = record { pages = 16; page_size = 4096; chunks = 14 }

-- each writer: one that waits for a free chunk
abbrev pub writer_asked : WriterSpec
writer_asked = record { producer = 1; buffer = 1; policy = Stalls; from = 0 }

-- ---- the packets, counted from 0 over all writers

-- The fields of a packet in a turn, where a number was drawn for it: field 8 with a time that rises by about 100, and in
-- field 900 a message whose field 1 is a letter from 1 to 24 times over, and whose field 2 is the number of the turn.
abbrev pub packet_fields : ℕ → ℕ → ℕ → Fields
packet_fields packet turn drawn =
    NumberField 8 (packet * 100 + drawn % 100)
    (NestedField 900 (BytesField 1 ((97 + drawn / 24 % 26) ∷ []) (drawn % 24 + 1) (NumberField 2 turn NoFields)) NoFields)

-- the number that is drawn for a packet
abbrev pub drawn_for : ℕ → ℕ → ℕ
drawn_for number packet = drawn_of (state_after number (suc packet))

-- the fields of a packet in the workload of a number with so many writers
abbrev pub fields_asked : ℕ → ℕ → ℕ → Fields
fields_asked number writers packet = packet_fields packet (packet / writers + 1) (drawn_for number packet)

-- The line of a packet, whole, of the writer whose turn it is. The set-up takes two lines and one of each writer before.
unfoldable pub line_asked : ℕ → ℕ → ℕ → NumberedLine
line_asked number writers packet = record {
  line = writers + 3 + packet;
  what = Packet (packet % writers + 1) (nodes_of (fields_asked number writers packet));
}

-- the lines of the first so many packets
unfoldable pub lines_asked : ℕ → ℕ → ℕ → List NumberedLine
lines_asked number writers zero = []
lines_asked number writers (suc packet) = lines_asked number writers packet ++ line_asked number writers packet ∷ []

-- the same by turns: the line of a writer in a turn, both counted from 0
unfoldable pub turn_line : ℕ → ℕ → ℕ → ℕ → NumberedLine
turn_line number writers turn place = record {
  line = writers + 3 + (turn * writers + place);
  what = Packet (place + 1) (nodes_of (packet_fields (turn * writers + place) (turn + 1) (drawn_for number (turn * writers + place))));
}

-- all that the workload of a number asks for, with so many writers and so many packets of each
abbrev pub workload_asked : ℕ → ℕ → ℕ → Parts
workload_asked number writers packets = record {
  buffers = buffer_asked ∷ [];
  producers = producer_asked ∷ [];
  writers = replicate writers writer_asked;
  lines = lines_asked number writers (packets * writers);
}
