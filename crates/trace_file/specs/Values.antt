-- What the types of the code are in the words of the grammar.
use Rattle.trace_file.specs.declared.field.Field.{Field}
use Rattle.trace_file.specs.declared.field.Value.{Value}
use Rattle.trace_file.specs.declared.field.Value.TheVariants as values
use Rattle.trace_file.specs.declared.packet.Packet.{Packet}
use Rattle.trace_model.specs.Fields.{FieldValue, Number, EightBytes, Content, FourBytes, MessageField}
use Rattle.trace_file.specs.Traces.{TracePacket}

-- a field's value as the definitions have it
abbrev pub value_of : Value → FieldValue
value_of (values.Number n) = Number n
value_of values.EightBytes = EightBytes
value_of (values.Content bytes) = Content bytes.now
value_of values.FourBytes = FourBytes

-- a field as the definitions have it
abbrev pub field_of : Field → MessageField
field_of field = record { number = field.number; value = value_of field.value }

-- a packet as the definitions have it
abbrev pub packet_of : Packet → TracePacket
packet_of packet = record {
  at = packet.at;
  bytes = packet.bytes.now;
  content = packet.content.now;
  sequence = packet.sequence;
  marked = packet.marked;
}
