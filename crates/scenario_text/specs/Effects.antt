-- What an accepted line adds to the scenario, and how it changes the packet of its writer.
use Rattle.std.specs.Prelude.{ℕ, ◌+◌, ◌-◌, ◌^◌, ◌<◌, true, false, List, [], ◌∷◌, ◌++◌, Option, Some, None, Result, Ok, Err}
use Rattle.trace_base.specs.declared.limits.TheConstants.{MAX_NUMBER}
use Rattle.trace_base.specs.declared.numeral.Numeral.{Numeral}
use Rattle.trace_base.specs.declared.policy.WriterPolicy.{WriterPolicy}
use Rattle.trace_base.specs.declared.policy.WriterPolicy.TheVariants as policies
use Rattle.scenario_text.specs.declared.form.Form.{Form}
use Rattle.scenario_text.specs.declared.form.Form.TheVariants.{Buffer, Producer, Writer, OfWriter, OfProducer, Read, Request, CloneBuffer, Raw}
use Rattle.scenario_text.specs.declared.form.NamedPolicy.{NamedPolicy}
use Rattle.scenario_text.specs.declared.form.NamedPolicy.TheVariants.{Drops, Stalls, StallsThenDrops}
use Rattle.scenario_text.specs.declared.form.WriterStep.{WriterStep}
use Rattle.scenario_text.specs.declared.form.WriterStep.TheVariants.{Packet, Begin, Add, Nest, Unnest, End, Flush}
use Rattle.scenario_text.specs.declared.form.ProducerStep.{ProducerStep}
use Rattle.scenario_text.specs.declared.form.ProducerStep.TheVariants.{Collect, Scrape, Close}
use Rattle.scenario_text.specs.declared.scenario.LineKind.{LineKind}
use Rattle.scenario_text.specs.declared.scenario.LineKind.TheVariants as kinds
use Rattle.scenario_text.specs.declared.open_packet.OpenPacket.{OpenPacket}
use Rattle.field_tree.specs.declared.fault.FieldFault.{FieldFault}
use Rattle.field_tree.specs.Nodes.{Shown}
use Rattle.scenario_text.specs.Items.{with_item}
use Rattle.scenario_text.specs.Ranges.{value}
use Rattle.scenario_text.specs.RawForms.{payload_part}
use Rattle.scenario_text.specs.RawChunks.{chunk_by}
use Rattle.scenario_text.specs.State.{State, packet_of}
use Rattle.scenario_text.specs.Reasons.{step_len}

-- what a writer is to do
unfoldable pub writer_kind : ℕ → WriterStep → List Shown → LineKind
writer_kind writer (Packet has_fields) nodes = kinds.Packet writer nodes
writer_kind writer Begin nodes = kinds.Begin writer
writer_kind writer Add nodes = kinds.Add writer nodes
writer_kind writer (Nest field) nodes = kinds.Nest writer (value field)
writer_kind writer Unnest nodes = kinds.Unnest writer
writer_kind writer End nodes = kinds.End writer
writer_kind writer Flush nodes = kinds.Flush writer

-- what the service is to do with a producer
unfoldable pub producer_kind : ℕ → ProducerStep → LineKind
producer_kind producer Collect = kinds.Collect producer
producer_kind producer Scrape = kinds.Scrape producer
producer_kind producer Close = kinds.Close producer

-- how many packets are read at most: without a number, the greatest
unfoldable pub limit_of : Option Numeral → ℕ
limit_of None = MAX_NUMBER
limit_of (Some limit) = value limit

-- the policy that a line names
unfoldable pub policy_of : NamedPolicy → WriterPolicy
policy_of Drops = policies.Drops
policy_of Stalls = policies.Stalls
policy_of (StallsThenDrops tries) = policies.StallsThenDrops (value tries)

-- the id of a writer's first chunk: without a number, 0
unfoldable pub first_id : Option Numeral → ℕ
first_id None = 0
first_id (Some from) = value from

-- so many bytes longer, and so many messages inside one another deeper
abbrev pub grown : OpenPacket → ℕ → ℕ → OpenPacket
grown packet depth added = record packet { depth = packet.depth + depth; len = packet.len + added }

-- the packet that the writer has begun after a line that makes it so many bytes longer
unfoldable pub packet_after : ℕ → Option OpenPacket → WriterStep → ℕ → Option OpenPacket
packet_after line packet Begin added = Some (record { line = line; depth = 0; len = 0 })
packet_after line (Some packet) Add added = Some (grown packet 0 added)
packet_after line (Some packet) (Nest field) added = Some (grown packet 1 added)
packet_after line (Some packet) Unnest added = Some (record packet { depth = packet.depth - 1 })
packet_after line packet End added = None
packet_after line packet step added = packet

-- the nodes that the line gives its packet
abbrev pub nodes_given : Result (List Shown) FieldFault → List Shown
nodes_given (Ok nodes) = nodes
nodes_given (Err fault) = []

-- a line behind the others
unfoldable pub with_line : State → ℕ → LineKind → State
with_line state line kind = record state { lines = state.lines ++ (record { line = line; what = kind }) ∷ [] }

-- with this packet begun by the writer, or none
unfoldable pub with_packet : State → Numeral → Option OpenPacket → State
with_packet state writer packet = record state { packets = with_item state.packets writer packet }

-- with this producer closed
unfoldable pub with_closed : State → Numeral → State
with_closed state producer = record state { closed = with_item state.closed producer true }

-- with so many bytes of packets more
unfoldable pub with_bytes : State → ℕ → State
with_bytes state added = record state { bytes = state.bytes + added }

-- with one clone of a buffer more
unfoldable pub with_clone : State → State
with_clone state = record state { clones = state.clones + 1 }

-- with the line that the writer is given, its packet so after it, and so many bytes more
unfoldable pub written : State → ℕ → Numeral → WriterStep → List Shown → ℕ → State
written state line writer step nodes added =
    with_bytes
    (with_packet (with_line state line (writer_kind (value writer) step nodes)) writer
    (packet_after line (packet_of state writer) step added))
    added

-- after a step of the service
unfoldable pub served : State → Numeral → ProducerStep → State
served state producer Close = with_closed state producer
served state producer step = state

-- what this line, of this form, adds
unfoldable pub moved : State → ℕ → List ℕ → Form → List Shown → State
moved state line text (Buffer kb policy) nodes =
    record state { buffers = state.buffers ++ (record { kb = value kb; policy = policy }) ∷ [] }
moved state line text (Producer pages page_size chunks) nodes = record state {
  producers = state.producers ++ (record { pages = value pages; page_size = value page_size; chunks = value chunks }) ∷ [];
  closed = state.closed ++ false ∷ [];
}
moved state line text (Writer producer buffer policy from) nodes = record state {
  writers = state.writers ++ (record { producer = value producer; buffer = value buffer; policy = policy_of policy; from = first_id from }) ∷ [];
  packets = state.packets ++ None ∷ [];
}
moved state line text (OfWriter writer step) nodes = written state line writer step nodes (step_len step nodes)
moved state line text (OfProducer producer step) nodes =
    served (with_line state line (producer_kind (value producer) step)) producer step
moved state line text (Read buffer limit) nodes = with_line state line (kinds.Read (value buffer) (limit_of limit))
moved state line text Request nodes = with_line state line kinds.Request
moved state line text (CloneBuffer buffer) nodes = with_clone (with_line state line (kinds.CloneBuffer (value buffer)))
moved state line text (Raw raw) nodes = with_line state line (kinds.Raw (value raw.writer) (chunk_by raw (payload_part text)))

-- how often a writer asks can be counted
abbrev pub TriesFit : NamedPolicy → Type 0
TriesFit (StallsThenDrops tries) = value tries < 2 ^ 32
TriesFit policy = Unit {0}

-- the id of a first chunk has 32 bits
abbrev pub IdFits : Option Numeral → Type 0
IdFits (Some from) = value from < 2 ^ 32
IdFits None = Unit {0}

-- the field of an `n` line can be counted
abbrev pub FieldFits : WriterStep → Type 0
FieldFits (Nest field) = value field < 2 ^ 32
FieldFits step = Unit {0}
