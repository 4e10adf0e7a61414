-- The bytes of one delivered packet in the trace.
use Rattle.std.specs.Prelude.{ℕ, Bool, List, [], ◌∷◌, ◌++◌, length, if◌then◌else◌}
use Rattle.wire_varint.specs.Varint.{varint}

-- field 42 of TracePacket, `previous_packet_dropped`, with the value 1. A writer puts it in front of a packet that it
-- keeps after a dropped one, and the service behind one before which something is missing.
abbrev pub dropped_mark : List ℕ
dropped_mark = 0xD0 ∷ 0x02 ∷ 0x01 ∷ []

-- the mark, where there is one
abbrev pub mark_where : Bool → List ℕ
mark_where marked = if marked then dropped_mark else []

-- the content of a record: the packet's bytes, its sequence as field 10, and the service's mark
unfoldable pub content_of : List ℕ → ℕ → Bool → List ℕ
content_of body sequence marked = body ++ 0x50 ∷ varint sequence ++ mark_where marked

-- the record: field 1 of Trace, with the length of its content in front
unfoldable pub record_of : List ℕ → ℕ → Bool → List ℕ
record_of body sequence marked =
    0x0A ∷ varint (length (content_of body sequence marked)) ++ content_of body sequence marked
