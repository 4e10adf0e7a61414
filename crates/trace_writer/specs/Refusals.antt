-- Which field calls a writer refuses, in the order of the reasons.
use Rattle.std.specs.Prelude.{ℕ, ◌+◌, ◌==◌, ◌&&◌, nat_lt, Option, Some, None, if◌then◌else◌}
use Rattle.trace_base.specs.declared.limits.TheConstants.{MAX_NESTING, MAX_PACKET_LEN}
use Rattle.trace_base.specs.Reserved.{is_reserved}
use Rattle.trace_writer.specs.declared.fault.CallFault.{CallFault}
use Rattle.trace_writer.specs.declared.fault.CallFault.TheVariants.{Reserved, TooDeep, PacketTooLong}

-- a field of so many bytes, in a packet of this length with so many messages open
abbrev pub field_refusal : ℕ → ℕ → ℕ → ℕ → Option CallFault
field_refusal depth len field more =
    if (depth == 0) && is_reserved field
    then Some (Reserved field)
    else (if nat_lt MAX_PACKET_LEN (len + more) then Some PacketTooLong else None)

-- a nested message, whose tag has so many bytes; its length takes four
abbrev pub nested_refusal : ℕ → ℕ → ℕ → ℕ → Option CallFault
nested_refusal depth len field tag_len =
    if (depth == 0) && is_reserved field
    then Some (Reserved field)
    else (if depth == MAX_NESTING
    then Some TooDeep
    else (if nat_lt MAX_PACKET_LEN (len + (tag_len + 4)) then Some PacketTooLong else None))
