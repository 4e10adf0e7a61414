-- Why a line is refused: a test for each reason, and the reasons in their order.
use Rattle.std.specs.Prelude.{ℕ, ◌+◌, ◌-◌, ◌*◌, nat_lt, nat_le, ◌==◌, Bool, true, false, ◌&&◌, not, List, [], ◌∷◌, ◌++◌, length, Option, Some, None, is_none, is_some, Result, Ok, Err, if◌then◌else◌}
use Rattle.trace_base.specs.declared.limits.TheConstants.{BYTES_PER_KB, MAX_BUFFERS, MAX_BUFFER_KB, MAX_FIELD, MAX_NESTING, MAX_PACKET_LEN, MAX_PAGES, MAX_PRODUCERS, MAX_SCENARIO_PACKET_BYTES, MAX_WRITERS, MIN_BUFFER_KB, MAX_NUMBER}
use Rattle.trace_base.specs.Reserved.{is_reserved}
use Rattle.page_geometry.specs.Sizes.{payload_size, record_size}
use Rattle.trace_base.specs.declared.numeral.Numeral.{Numeral}
use Rattle.trace_base.specs.declared.numeral.Numeral.TheVariants.{Fits}
use Rattle.scenario_text.specs.declared.form.Form.{Form}
use Rattle.scenario_text.specs.declared.form.TheConstants.{MAX_CHUNK_ID, MAX_CLONES, MAX_TRIES}
use Rattle.scenario_text.specs.declared.form.NamedPolicy.{NamedPolicy}
use Rattle.scenario_text.specs.declared.form.NamedPolicy.TheVariants.{StallsThenDrops}
use Rattle.scenario_text.specs.declared.form.Form.TheVariants.{Buffer, Producer, Writer, OfWriter, OfProducer, Read, Request, CloneBuffer, Raw}
use Rattle.scenario_text.specs.declared.form.WriterStep.{WriterStep}
use Rattle.scenario_text.specs.declared.form.WriterStep.TheVariants.{Packet, Begin, Add, Nest, Unnest, End, Flush}
use Rattle.scenario_text.specs.declared.reason.Reason.{Reason}
use Rattle.scenario_text.specs.declared.reason.Reason.TheVariants as reasons
use Rattle.scenario_text.specs.declared.scenario.BufferLine.{BufferLine}
use Rattle.scenario_text.specs.declared.scenario.ProducerLine.{ProducerLine}
use Rattle.trace_base.specs.declared.policy.WriterSpec.{WriterSpec}
use Rattle.wire_varint.specs.Varint.{tag}
use Rattle.field_tree.specs.declared.fault.FieldFault.{FieldFault}
use Rattle.field_tree.specs.declared.fault.FieldFault.TheVariants as faults
use Rattle.field_tree.specs.Nodes.{Shown}
use Rattle.field_tree.specs.Judged.{nodes_len}
use Rattle.field_tree.specs.Answers.{outcome}
use Rattle.scenario_text.specs.Pieces.{fields_part}
use Rattle.scenario_text.specs.Items.{item}
use Rattle.scenario_text.specs.Ranges.{fits, value, is_within, is_page_size, is_chunk_count}
use Rattle.scenario_text.specs.RawRanges.{are_raw_numbers}
use Rattle.scenario_text.specs.State.{State, is_played, is_closed, packet_of, nesting_of, len_of}

-- ---- a number other than a reference is outside its range, or any number is 2 ^ 64 or more

unfoldable pub is_producer_in_range : Numeral → Numeral → Numeral → Bool
is_producer_in_range pages (Fits page_size) (Fits chunks) = is_within 1 MAX_PAGES pages && is_page_size page_size && is_chunk_count chunks
is_producer_in_range pages page_size chunks = false

-- a read's limit is in its range, or there is none
unfoldable pub is_limit : Option Numeral → Bool
is_limit None = true
is_limit (Some limit) = is_within 1 MAX_NUMBER limit

-- how often a writer asks is in its range, or its policy names no number
unfoldable pub are_tries : NamedPolicy → Bool
are_tries (StallsThenDrops tries) = is_within 1 MAX_TRIES tries
are_tries policy = true

-- the id of a writer's first chunk is in its range, or its line names none
unfoldable pub is_id : Option Numeral → Bool
is_id None = true
is_id (Some from) = is_within 0 MAX_CHUNK_ID from

-- a number of the line, other than a reference, is outside its range, or any number before FIELDS doesn't fit
unfoldable pub is_out_of_range : Form → Bool
is_out_of_range (Buffer kb policy) = not (is_within MIN_BUFFER_KB MAX_BUFFER_KB kb)
is_out_of_range (Producer pages page_size chunks) = not (is_producer_in_range pages page_size chunks)
is_out_of_range (Writer producer buffer policy from) = not (fits producer && fits buffer && are_tries policy && is_id from)
is_out_of_range (OfWriter writer step) = not (fits writer)
is_out_of_range (OfProducer producer step) = not (fits producer)
is_out_of_range (Read buffer limit) = not (fits buffer && is_limit limit)
is_out_of_range Request = false
is_out_of_range (CloneBuffer buffer) = not (fits buffer)
is_out_of_range (Raw raw) = not (are_raw_numbers raw)

-- ---- a set-up line after another kind of line

unfoldable pub is_set_up : Form → Bool
is_set_up (Buffer kb policy) = true
is_set_up (Producer pages page_size chunks) = true
is_set_up (Writer producer buffer policy from) = true
is_set_up form = false

-- a set-up line behind a line of another kind
unfoldable pub is_late : State → Form → Bool
is_late state form = is_played state && is_set_up form

-- ---- the 9th buffer, the 17th producer, the 65th writer, the 5th clone

unfoldable pub is_too_many : State → Form → Bool
is_too_many state (Buffer kb policy) = nat_le MAX_BUFFERS (length state.buffers)
is_too_many state (Producer pages page_size chunks) = nat_le MAX_PRODUCERS (length state.producers)
is_too_many state (Writer producer buffer policy from) = nat_le MAX_WRITERS (length state.writers)
is_too_many state (CloneBuffer buffer) = nat_le MAX_CLONES state.clones
is_too_many state form = false

-- ---- a reference names none

unfoldable pub lacks_producer : State → Form → Bool
lacks_producer state (Writer producer buffer policy from) = is_none (item state.producers producer)
lacks_producer state (OfProducer producer step) = is_none (item state.producers producer)
lacks_producer state form = false

-- the line names a buffer that there isn't
unfoldable pub lacks_buffer : State → Form → Bool
lacks_buffer state (Writer producer buffer policy from) = is_none (item state.buffers buffer)
lacks_buffer state (Read buffer limit) = is_none (item state.buffers buffer)
lacks_buffer state (CloneBuffer buffer) = is_none (item state.buffers buffer)
lacks_buffer state (Raw raw) = is_none (item state.buffers raw.buffer)
lacks_buffer state form = false

-- the line names a writer that there isn't
unfoldable pub lacks_writer : State → Form → Bool
lacks_writer state (OfWriter writer step) = is_none (item state.writers writer)
lacks_writer state (Raw raw) = is_none (item state.writers raw.writer)
lacks_writer state form = false

-- ---- a record of the writer's is larger than its buffer

unfoldable pub is_larger : Option ProducerLine → Option BufferLine → Bool
is_larger (Some producer) (Some buffer) =
    nat_lt (buffer.kb * BYTES_PER_KB) (record_size (payload_size producer.page_size producer.chunks))
is_larger producer buffer = false

-- a record of the writer's chunks is more than its buffer
unfoldable pub has_larger_chunks : State → Form → Bool
has_larger_chunks state (Writer producer buffer policy from) = is_larger (item state.producers producer) (item state.buffers buffer)
has_larger_chunks state form = false

-- ---- a line of a closed producer or of its writers

unfoldable pub is_closed_for : State → Option WriterSpec → Bool
is_closed_for state None = false
is_closed_for state (Some writer) = is_closed state (Fits writer.producer)

-- the line is of a producer that is closed, or of one of its writers
unfoldable pub has_closed_producer : State → Form → Bool
has_closed_producer state (OfWriter writer step) = is_closed_for state (item state.writers writer)
has_closed_producer state (OfProducer producer step) = is_closed state producer
has_closed_producer state (Raw raw) = is_closed_for state (item state.writers raw.writer)
has_closed_producer state form = false

-- ---- a raw chunk's payload is longer than the writer's payload size

-- the producer of a writer
unfoldable pub producer_of : State → Option WriterSpec → Option ProducerLine
producer_of state None = None
producer_of state (Some writer) = item state.producers (Fits writer.producer)

-- so many bytes are more than the payload of one of the producer's chunks
unfoldable pub is_longer : ℕ → Option ProducerLine → Bool
is_longer len None = false
is_longer len (Some producer) = nat_lt (payload_size producer.page_size producer.chunks) len

-- the payload is longer than one of the writer's chunks has
unfoldable pub has_long_payload : State → Form → Bool
has_long_payload state (Raw raw) = is_longer raw.len (producer_of state (item state.writers raw.writer))
has_long_payload state form = false

-- ---- packets and nested messages

-- `p`, `b` and `f` want no packet begun
unfoldable pub wants_none : WriterStep → Bool
wants_none (Packet has_fields) = true
wants_none Begin = true
wants_none Flush = true
wants_none step = false

-- the line wants no packet begun, and the writer has one
unfoldable pub meets_packet : State → Form → Bool
meets_packet state (OfWriter writer step) = wants_none step && is_some (packet_of state writer)
meets_packet state form = false

-- `a`, `n`, `u` and `e` want one
unfoldable pub lacks_packet : State → Form → Bool
lacks_packet state (OfWriter writer step) = not (wants_none step) && is_none (packet_of state writer)
lacks_packet state form = false

-- the line ends a nested message, and none is open
unfoldable pub lacks_nesting : State → Form → Bool
lacks_nesting state (OfWriter writer Unnest) = nesting_of (packet_of state writer) == 0
lacks_nesting state form = false

-- the line ends a packet with a nested message open
unfoldable pub leaves_nesting : State → Form → Bool
leaves_nesting state (OfWriter writer End) = nat_lt 0 (nesting_of (packet_of state writer))
leaves_nesting state form = false

-- ---- the reasons in their order

abbrev pub when : Bool → Reason → Option Reason
when test reason = if test then Some reason else None

-- the first reason that holds
abbrev pub first : List (Option Reason) → Option Reason
first [] = None
first (None ∷ more) = first more
first (Some reason ∷ more) = Some reason

-- those of what the line's writer has begun
abbrev pub packet_reasons : State → Form → List (Option Reason)
packet_reasons state form =
    when (meets_packet state form) reasons.PacketBegun
    ∷ when (lacks_packet state form) reasons.NoPacket
    ∷ when (lacks_nesting state form) reasons.NoNesting
    ∷ when (leaves_nesting state form) reasons.NestingLeft
    ∷ []

-- those that don't rest on what a line gives a packet
unfoldable pub front_reasons : State → Form → List (Option Reason)
front_reasons state form =
    when (is_out_of_range form) reasons.NumberOutOfRange
    ∷ when (is_late state form) reasons.LateSetUp
    ∷ when (is_too_many state form) reasons.TooMany
    ∷ when (lacks_producer state form) reasons.NoSuchProducer
    ∷ when (lacks_buffer state form) reasons.NoSuchBuffer
    ∷ when (lacks_writer state form) reasons.NoSuchWriter
    ∷ when (has_larger_chunks state form) reasons.ChunkLargerThanBuffer
    ∷ when (has_closed_producer state form) reasons.ProducerClosed
    ∷ when (has_long_payload state form) reasons.RawTooLong
    ∷ packet_reasons state form

-- ---- what a line gives a packet

-- The nodes of a line's FIELDS, where so many messages are open, or why it has none. An `n` line opens a message, which
-- is judged as one among FIELDS is.
unfoldable pub nested : ℕ → Numeral → Result (List Shown) FieldFault
nested depth field =
    if not (is_within 1 MAX_FIELD field) then Err (faults.BadField 1)
    else if depth == 0 && is_reserved (value field) then Err (faults.Reserved (value field))
    else if nat_le MAX_NESTING depth then Err faults.TooDeep
    else Ok []

-- the nodes that a line of a writer adds to its packet, or the fault of its FIELDS
unfoldable pub given_by : ℕ → List ℕ → WriterStep → Result (List Shown) FieldFault
given_by depth line (Packet true) = outcome depth (fields_part line)
given_by depth line Add = outcome depth (fields_part line)
given_by depth line (Nest field) = nested depth field
given_by depth line step = Ok []

-- the nodes that a line adds to a packet, or the fault of its FIELDS
unfoldable pub given : State → List ℕ → Form → Result (List Shown) FieldFault
given state line (OfWriter writer step) = given_by (nesting_of (packet_of state writer)) line step
given state line form = Ok []

-- how many bytes they make a packet longer
unfoldable pub step_len : WriterStep → List Shown → ℕ
step_len (Packet true) nodes = nodes_len nodes
step_len Add nodes = nodes_len nodes
step_len (Nest field) nodes = length (tag (value field) 2) + 4
step_len step nodes = 0

-- how long the packet is so far
unfoldable pub len_before : State → Form → ℕ
len_before state (OfWriter writer step) = len_of (packet_of state writer)
len_before state form = 0

-- how many bytes of the line stand before its FIELDS
abbrev pub before_fields : List ℕ → ℕ
before_fields line = length line - length (fields_part line)

-- the FIELDS aren't in their grammar, or the FIELD is no field's number
abbrev pub bad_field : ℕ → Result (List Shown) FieldFault → Option Reason
bad_field before (Err (faults.BadField column)) = Some (reasons.BadField (before + column))
bad_field before other = None

-- at the top level of a packet, a field that is the service's own
abbrev pub reserved_field : Result (List Shown) FieldFault → Option Reason
reserved_field (Err (faults.Reserved field)) = Some (reasons.ReservedField field)
reserved_field other = None

-- the nesting passes its limit
abbrev pub too_deep : Result (List Shown) FieldFault → Option Reason
too_deep (Err faults.TooDeep) = Some reasons.TooDeep
too_deep other = None

-- the FIELDS alone are too long for a packet, or they make one too long that has so many bytes
abbrev pub too_long : ℕ → Form → Result (List Shown) FieldFault → Option Reason
too_long len form (Err faults.PacketTooLong) = Some reasons.PacketTooLong
too_long len (OfWriter writer step) (Ok nodes) = when (nat_lt MAX_PACKET_LEN (len + step_len step nodes)) reasons.PacketTooLong
too_long len form other = None

-- they make all packets too long that have so many bytes
abbrev pub too_many_bytes : ℕ → Form → Result (List Shown) FieldFault → Option Reason
too_many_bytes bytes (OfWriter writer step) (Ok nodes) = when (nat_lt MAX_SCENARIO_PACKET_BYTES (bytes + step_len step nodes)) reasons.TooManyBytes
too_many_bytes bytes form other = None

-- the reasons that FIELDS give, in their order
unfoldable pub back_reasons : State → List ℕ → Form → List (Option Reason)
back_reasons state line form =
    let nodes = given state line form in
    bad_field (before_fields line) nodes
    ∷ reserved_field nodes
    ∷ too_deep nodes
    ∷ too_long (len_before state form) form nodes
    ∷ too_many_bytes state.bytes form nodes
    ∷ []

-- the reason for which a line of this form is refused, if it is
unfoldable pub refusal_of : State → List ℕ → Form → Option Reason
refusal_of state line form = first (front_reasons state form ++ back_reasons state line form)
