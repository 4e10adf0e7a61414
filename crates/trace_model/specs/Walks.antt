-- The walk over a packet's bytes that finds whether they are whole fields, none of which is the service's own: where the
-- bytes so far have come to, and what one byte more makes of it. A field is its tag and its value, after the
-- protocol-buffers encoding; which fields writers may not write is this project's profile.
use Rattle.std.specs.Prelude.{ℕ, ◌+◌, ◌-◌, ◌*◌, ◌/◌, ◌%◌, ◌^◌, ◌==◌, nat_lt, Bool, true, false, not, ◌&&◌, List, [], ◌∷◌, if◌then◌else◌}
use Rattle.trace_base.specs.Reserved.{is_reserved}
use Rattle.trace_base.specs.declared.limits.TheConstants.{MAX_FIELD}

-- writers may not write the service's own fields, but for 42, the mark of a dropped packet, which is theirs to write
unfoldable pub is_refused : ℕ → Bool
is_refused number = is_reserved number && not (number == 42)

-- there is such a field number
unfoldable pub is_number : ℕ → Bool
is_number number = nat_lt 0 number && not (nat_lt MAX_FIELD number)

-- what a varint is read for
pub data VarintOf : Type 0 where
  OfTag : VarintOf
  OfNumber : VarintOf
  OfLength : VarintOf

-- what the bytes end in: nothing that is open; a varint, of which so many bytes said so much; a content of which so much
-- is to come; something that is no field, or a field that is refused, from both of which no byte leads on
pub data WalkPart : Type 0 where
  Between : WalkPart
  InVarint : (of : VarintOf) → (value count : ℕ) → WalkPart
  InContent : (left : ℕ) → WalkPart
  Unfit : WalkPart
  Refused : WalkPart

-- how many bytes came, where the last field began, its number, and what the bytes end in
pub record Walk : Type 0 where
  pub at : ℕ
  pub start : ℕ
  pub number : ℕ
  pub part : WalkPart

-- at a packet's beginning
abbrev pub packet_start : Walk
packet_start = record { at = 0; start = 0; number = 0; part = Between }

-- where a field has ended
abbrev pub field_ended : Walk → Walk
field_ended walk = record walk { part = if is_refused walk.number then Refused else Between }

-- where so much of a content is to come
abbrev pub content_left : ℕ → Walk → Walk
content_left left walk = if left == 0 then field_ended walk else record walk { part = InContent left }

-- where a value of this wire type begins. Groups, of the types 3 and 4, aren't taken
abbrev pub value_begun : ℕ → WalkPart
value_begun wire =
    if wire == 0 then InVarint OfNumber 0 0
    else (if wire == 1 then InContent 8 else (if wire == 2 then InVarint OfLength 0 0 else (if wire == 5 then InContent 4 else Unfit)))

-- where a tag has ended
abbrev pub tag_ended : ℕ → Walk → Walk
tag_ended tag walk =
    if is_number (tag / 8) then record walk { number = tag / 8; part = value_begun (tag % 8) } else record walk { part = Unfit }

-- where a varint has ended
abbrev pub varint_ended : VarintOf → ℕ → Walk → Walk
varint_ended OfTag value walk = tag_ended value walk
varint_ended OfNumber value walk = field_ended walk
varint_ended OfLength value walk = content_left value walk

-- a varint with one byte more, the one behind so many that said so much
abbrev pub varint_more : VarintOf → ℕ → ℕ → ℕ → Walk → Walk
varint_more of value count byte walk =
    if (count == 9) && nat_lt 1 byte then record walk { part = Unfit }
    else (if nat_lt byte 128 then varint_ended of (value + 128 ^ count * (byte % 128)) walk
    else record walk { part = InVarint of (value + 128 ^ count * (byte % 128)) (count + 1) })

-- what the byte at a place makes of what the bytes before it end in. The first byte of a tag begins a field
abbrev pub part_more : WalkPart → ℕ → ℕ → Walk → Walk
part_more Between at byte walk = varint_more OfTag 0 0 byte (record walk { start = at; number = 0 })
part_more (InVarint of value count) at byte walk = varint_more of value count byte walk
part_more (InContent left) at byte walk = content_left (left - 1) walk
part_more Unfit at byte walk = walk
part_more Refused at byte walk = walk

-- the walk with one byte more
abbrev pub step : Walk → ℕ → Walk
step walk byte = part_more walk.part walk.at byte (record walk { at = walk.at + 1 })

-- the walk over these bytes more
abbrev pub walk_over : Walk → List ℕ → Walk
walk_over walk [] = walk
walk_over walk (byte ∷ bytes) = walk_over (step walk byte) bytes

-- nothing is open, and nothing was refused
abbrev pub is_between : WalkPart → Bool
is_between Between = true
is_between other = false

-- the packet is whole fields that writers may write
unfoldable pub is_accepted : List ℕ → Bool
is_accepted bytes = is_between (walk_over packet_start bytes).part
