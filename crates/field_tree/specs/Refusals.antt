-- Why a tree of fields isn't taken.
use Rattle.std.specs.Prelude.{ℕ, ◌+◌, Bool, nat_lt, ◌==◌, if◌then◌else◌, Option, Some, None}
use Rattle.std.specs.Option.{option_map}
use Rattle.trace_base.specs.declared.limits.TheConstants.{MAX_NESTING, MAX_PACKET_LEN}
use Rattle.trace_base.specs.Reserved.{is_reserved}
use Rattle.trace_model.specs.Encoding.{Fields, NoFields, NumberField, BytesField, NestedField, encoding_len, depth_of}
use Rattle.field_tree.specs.declared.fault.FieldFault.{FieldFault}
use Rattle.field_tree.specs.declared.fault.FieldFault.TheVariants.{Reserved, TooDeep, PacketTooLong}

-- a field that is the service's own, or else what comes later
abbrev pub reserved_or : ℕ → Option ℕ → Option ℕ
reserved_or field later = if is_reserved field then Some field else later

-- the first field of the message that is the service's own; those of its nested messages don't count
abbrev pub first_reserved : Fields → Option ℕ
first_reserved NoFields = None
first_reserved (NumberField field value others) = reserved_or field (first_reserved others)
first_reserved (BytesField field text times others) = reserved_or field (first_reserved others)
first_reserved (NestedField field inner others) = reserved_or field (first_reserved others)

-- the fault, where it holds
abbrev pub when : Bool → FieldFault → Option FieldFault
when test fault = if test then Some fault else None

-- the first of two faults
abbrev pub or_else : Option FieldFault → Option FieldFault → Option FieldFault
or_else None later = later
or_else (Some fault) later = Some fault

-- at the top level of a packet alone, which is inside no message
abbrev pub reserved_fault : ℕ → Option ℕ → Option FieldFault
reserved_fault depth found = if depth == 0 then option_map (λ field. Reserved field) found else None

-- the first of these by what is found: a reserved field, how deep the nested messages are, and how long the encoding is
abbrev pub refusal_by : ℕ → Option ℕ → ℕ → ℕ → Option FieldFault
refusal_by depth reserved deepest len =
    or_else (reserved_fault depth reserved)
    (or_else (when (nat_lt MAX_NESTING (depth + deepest)) TooDeep)
    (when (nat_lt MAX_PACKET_LEN len) PacketTooLong))

-- why the fields aren't taken inside so many messages
unfoldable pub refusal_of : ℕ → Fields → Option FieldFault
refusal_of depth fields = refusal_by depth (first_reserved fields) (depth_of fields) (encoding_len fields)
