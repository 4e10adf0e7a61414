-- What writers may write passes the check.
use Rattle.std.proofs.Common.{◌≡◌, ℕ, ◌*◌, ◌^◌, ◌<◌, Bool, true, false, List, [], ◌∷◌, ◌++◌, length, refl, sym, subst, arith, append_assoc}
use Rattle.std.specs.List.{repeat}
use Rattle.wire_varint.specs.Reading.{IsVarint}
use Rattle.wire_varint.specs.Varint.{varint, redundant, tag}
use Rattle.wire_varint.proofs.Varints.{varint_is_varint, redundant_is_varint, tag_is_varint}
use Rattle.trace_model.specs.Encoding.{Fields, NoFields, NumberField, BytesField, NestedField, number_field, bytes_head, bytes_field, nested_tag, encoding_of}
use Rattle.trace_model.specs.Fields.{Number, Content, Spells}
use Rattle.trace_model.specs.Record.{dropped_mark, mark_where}
use Rattle.trace_model.specs.Walks.{is_refused}
use Rattle.trace_model.proofs.EncodingLemmas.{length-repeat}
use Rattle.packet_check.specs.Messages.{Passes}
use Rattle.packet_check.specs.Writers.{IsAllowed, AreAllowed, WritersPacketsPass}
use Rattle.packet_check.proofs.AnswerLemmas.{passes_nothing, passes_more, accepted_pass}

number_spells : (field value : ℕ) → IsAllowed field → value < 2 ^ 64 → Spells (record { number = field; value = Number value }) (number_field field value)
unfolding number_field
number_spells field value allowed fits = record {
  numbered = allowed.numbered;
  in_range = allowed.in_range;
  tag = tag field 0;
  behind = varint value;
  cut = refl;
  is_tag = tag_is_varint field 0 (omega (arith, allowed.in_range)) (omega arith);
  is_value = varint_is_varint value fits;
}

-- a tag, a length and its content
content_spells : (field : ℕ) (size content : List ℕ) → IsAllowed field → IsVarint size (length content)
    → Spells (record { number = field; value = Content content }) (tag field 2 ++ size ++ content)
content_spells field size content allowed is = record {
  numbered = allowed.numbered;
  in_range = allowed.in_range;
  tag = tag field 2;
  behind = size ++ content;
  cut = append_assoc (tag field 2) size content;
  is_tag = tag_is_varint field 2 (omega (arith, allowed.in_range)) (omega arith);
  is_value = (size, is, refl);
}

bytes_spells : (field : ℕ) (text : List ℕ) (times : ℕ) → IsAllowed field → times * length text < 2 ^ 64
    → Spells (record { number = field; value = Content (repeat times text) }) (bytes_field field text times)
unfolding bytes_field bytes_head
bytes_spells field text times allowed fits =
    content_spells field (varint (times * length text)) (repeat times text) allowed
    (subst (IsVarint (varint (times * length text))) (sym (length-repeat times text)) (varint_is_varint (times * length text) fits))

encoding_passes : (fields : Fields) → AreAllowed fields → Passes (encoding_of fields)
encoding_passes NoFields allowed = passes_nothing
encoding_passes (NumberField field value others) allowed =
    passes_more (record { number = field; value = Number value }) (number_field field value) (encoding_of others)
    (number_spells field value allowed.0 allowed.1) allowed.0.free (encoding_passes others allowed.2)
encoding_passes (BytesField field text times others) allowed =
    passes_more (record { number = field; value = Content (repeat times text) }) (bytes_field field text times) (encoding_of others)
    (bytes_spells field text times allowed.0 allowed.1) allowed.0.free (encoding_passes others allowed.2)
encoding_passes (NestedField field inner others) allowed =
    passes_more (record { number = field; value = Content (encoding_of inner) })
    (nested_tag field ++ redundant (length (encoding_of inner)) ++ encoding_of inner) (encoding_of others)
    (content_spells field (redundant (length (encoding_of inner))) (encoding_of inner) allowed.0 (redundant_is_varint (length (encoding_of inner)) allowed.1))
    allowed.0.free (encoding_passes others allowed.2)

-- the mark is a field of its own
mark_spells : Spells (record { number = 42; value = Number 1 }) dropped_mark
mark_spells = record {
  numbered = omega arith;
  in_range = omega arith;
  tag = 0xD0 ∷ 0x02 ∷ [];
  behind = 0x01 ∷ [];
  cut = refl;
  is_tag = record { whole = (omega arith, omega arith); most = omega arith; value = omega arith; fits = omega arith };
  is_value = record { whole = omega arith; most = omega arith; value = omega arith; fits = omega arith };
}

mark_free : is_refused 42 ≡ false
unfolding is_refused
mark_free = refl

marked_passes : (marked : Bool) (fields : Fields) → AreAllowed fields → Passes (mark_where marked ++ encoding_of fields)
marked_passes true fields allowed =
    passes_more (record { number = 42; value = Number 1 }) dropped_mark (encoding_of fields) mark_spells mark_free (encoding_passes fields allowed)
marked_passes false fields allowed = encoding_passes fields allowed

pub writers_packets_pass : WritersPacketsPass
writers_packets_pass marked fields allowed = (accepted_pass (mark_where marked ++ encoding_of fields)).1 (marked_passes marked fields allowed)
