-- When a call of a writer can be made, and what it leads to, by what the handle has.
use Rattle.std.specs.Prelude.{◌≡◌, ℕ, ◌+◌, ◌<◌, ◌≤◌, true, false, List, length, Option, Some, None}
use Rattle.trace_base.specs.declared.limits.TheConstants.{MAX_INPUT}
use Rattle.trace_model.specs.Encoding.{number_field}
use Rattle.chunk_plain.specs.declared.tokens.TheConstants.{POSITION_LIMIT}
use Rattle.trace_writer.specs.declared.ids.TheConstants.{PACKET_IDS}
use Rattle.trace_writer.specs.Core.{in_packet, open_depth, field_fault, nested_fault, bytes_size}
use Rattle.tracesmb_c.specs.declared.writer.OwnedWriter.{OwnedWriter}
use Rattle.tracesmb_c.specs.Lending.{view_of, IsField}

-- there was a writer, there is one, and this is so of both
abbrev pub Leads : Option OwnedWriter → Option OwnedWriter → (OwnedWriter → OwnedWriter → Type 0) → Type 0
Leads None new relates = ⊥
Leads (Some old) None relates = ⊥
Leads (Some old) (Some new) relates = relates old new

-- there is a writer, and this is so of it
abbrev pub Has : Option OwnedWriter → (OwnedWriter → Type 0) → Type 0
Has None is = ⊥
Has (Some owned) is = is owned

-- It is between two packets, and has ids for one.
abbrev pub MayBegin : Option OwnedWriter → Type 0
MayBegin writer = Has writer (λ owned. (in_packet (view_of owned) ≡ false) × (length (view_of owned).begun + PACKET_IDS ≤ POSITION_LIMIT))

-- It is in a packet, in which the field fits.
abbrev pub MayWriteNumber : (field value : ℕ) → Option OwnedWriter → Type 0
MayWriteNumber field value writer = Has writer (λ owned. (in_packet (view_of owned) ≡ true) × IsField field
    × (field_fault (view_of owned) field (length (number_field field value)) ≡ None))

-- it may write a text: its packet is begun, the field fits, and so does what the packet has then
abbrev pub MayWriteText : (field : ℕ) → List ℕ → Option OwnedWriter → Type 0
MayWriteText field text writer = Has writer (λ owned. (in_packet (view_of owned) ≡ true) × IsField field × (length text ≤ MAX_INPUT)
    × (field_fault (view_of owned) field (bytes_size field 1 text) ≡ None))

-- it may begin a nested message: its packet is begun, the field fits, and so do its depth and its length
abbrev pub MayNest : (field : ℕ) → Option OwnedWriter → Type 0
MayNest field writer = Has writer (λ owned. (in_packet (view_of owned) ≡ true) × IsField field
    × (nested_fault (view_of owned) field ≡ None))

-- a message is open in its packet
abbrev pub MayEnd : Option OwnedWriter → Type 0
MayEnd writer = Has writer (λ owned. 0 < open_depth (view_of owned))

-- it is in a packet in which none is open
abbrev pub MayFinish : Option OwnedWriter → Type 0
MayFinish writer = Has writer (λ owned. (in_packet (view_of owned) ≡ true) × (open_depth (view_of owned) ≡ 0))

-- it is between two packets
abbrev pub MayFlush : Option OwnedWriter → Type 0
MayFlush writer = Has writer (λ owned. in_packet (view_of owned) ≡ false)
