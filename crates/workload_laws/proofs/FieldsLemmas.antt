-- The FIELDS of a packet's line spell the tree that the definition names, which a packet may have.
use Rattle.std.proofs.Common.{◌≡◌, ◌≢◌, ℕ, ◌+◌, ◌*◌, ◌^◌, ◌<◌, ◌≤◌, nat_lt, true, false, Ok, None, List, [], ◌∷◌, ◌++◌, length, refl, sym, ap, ◌∙◌, arith}
use Rattle.std.specs.Prelude.{codes}
use Rattle.std.specs.Fmt.{decimal}
use Rattle.std.proofs.lemmas.Bool.{le-ltb}
use Rattle.std.proofs.lemmas.List.{append-nil}
use Rattle.trace_base.specs.declared.limits.TheConstants.{MAX_PACKET_LEN}
use Rattle.wire_varint.specs.Varint.{varint, tag}
use Rattle.wire_varint.proofs.Lengths.{length-varint-below}
use Rattle.trace_model.specs.Encoding.{Fields, NoFields, NumberField, BytesField, NestedField, encoding_len}
use Rattle.field_tree.specs.Nodes.{nodes_of}
use Rattle.field_tree.specs.Grammar.{number, IsTextByte, Repeated, IsSpelling, IsTextOf}
use Rattle.field_tree.specs.Refusals.{refusal_of}
use Rattle.field_tree.specs.Answers.{outcome}
use Rattle.field_tree.proofs.TestLemmas.{number_digit, number_more}
use Rattle.field_tree.proofs.JudgedLemmas.{length_number_field, length_bytes_head}
use Rattle.field_tree.proofs.AnswerLemmas.{only_outcome}

-- ---- what is spelled

-- the message's fields, and the packet's
abbrev pub inner_fields : ℕ → ℕ → ℕ → Fields
inner_fields letter times turn = BytesField 1 (letter ∷ []) times (NumberField 2 turn NoFields)

abbrev pub packet_tree : ℕ → ℕ → ℕ → ℕ → Fields
packet_tree time letter times turn = NumberField 8 time (NestedField 900 (inner_fields letter times turn) NoFields)

abbrev pub turn_text : ℕ → List ℕ
turn_text turn = codes " 2:" ++ decimal turn

abbrev pub inner_text : ℕ → ℕ → ℕ → List ℕ
inner_text letter times turn = codes "1:\"" ++ (letter ∷ (codes "\"*" ++ (decimal times ++ turn_text turn)))

abbrev pub nested_text : ℕ → ℕ → ℕ → List ℕ
nested_text letter times turn = codes " 900{" ++ (inner_text letter times turn ++ codes "}")

abbrev pub fields_text : ℕ → ℕ → ℕ → ℕ → List ℕ
fields_text time letter times turn = codes "8:" ++ (decimal time ++ nested_text letter times turn)

-- the numbers are those that the packet's parts can have
pub record AreNumbers (time letter times turn : ℕ) : Type 0 where
  pub time_fits : time < 34359738368
  pub letter_is : IsTextByte letter
  pub some : 1 ≤ times
  pub few : times ≤ 24
  pub turn_fits : turn < 2097152

-- ---- field numbers

number_one : number 1 ≡ 49 ∷ []
number_one = number_digit 1 (omega arith)

number_two : number 2 ≡ 50 ∷ []
number_two = number_digit 2 (omega arith)

number_eight : number 8 ≡ 56 ∷ []
number_eight = number_digit 8 (omega arith)

number_ninety : number 90 ≡ 57 ∷ 48 ∷ []
number_ninety = number_more 9 0 (omega arith) (omega arith) (omega arith) ∙ ap (λ (ds : List ℕ). ds ++ 48 ∷ []) (number_digit 9 (omega arith))

number_nine_hundred : number 900 ≡ 57 ∷ 48 ∷ 48 ∷ []
number_nine_hundred = number_more 90 0 (omega arith) (omega arith) (omega arith) ∙ ap (λ (ds : List ℕ). ds ++ 48 ∷ []) number_ninety

-- ---- the spelling, from the inside out

abbrev times_text : ℕ → ℕ → List ℕ
times_text letter times = 34 ∷ letter ∷ 34 ∷ 42 ∷ number times

turn_spelled : (turn : ℕ) → turn < 2 ^ 64 → IsSpelling true (NumberField 2 turn NoFields) (codes " 2:" ++ number turn)
turn_spelled turn fits =
    let text : codes " 2:" ++ number turn ≡ 32 ∷ ((number 2 ++ 58 ∷ number turn) ++ []) =
    sym (ap (λ (ds : List ℕ). 32 ∷ ((ds ++ 58 ∷ number turn) ++ [])) number_two
    ∙ ap (λ (ds : List ℕ). 32 ∷ 50 ∷ 58 ∷ ds) (append-nil (number turn))) in
    ((omega arith, omega arith), fits, [], text, refl)

inner_spelled : (letter times turn : ℕ) → IsTextByte letter → 1 ≤ times → times ≤ 24 → turn < 2 ^ 64
    → IsSpelling false (inner_fields letter times turn) (49 ∷ 58 ∷ (times_text letter times ++ (codes " 2:" ++ number turn)))
inner_spelled letter times turn byte some few fits =
    let text : 49 ∷ 58 ∷ (times_text letter times ++ (codes " 2:" ++ number turn))
    ≡ (number 1 ++ 58 ∷ times_text letter times) ++ (codes " 2:" ++ number turn) =
    sym (ap (λ (ds : List ℕ). (ds ++ 58 ∷ times_text letter times) ++ (codes " 2:" ++ number turn)) number_one) in (
      (omega arith, omega arith),
      times_text letter times,
      Repeated (byte, tt) some (omega arith) refl,
      codes " 2:" ++ number turn,
      text,
      turn_spelled turn fits,
    )

nested_spelled : (letter times turn : ℕ) (between : List ℕ) → IsSpelling false (inner_fields letter times turn) between
    → IsSpelling true (NestedField 900 (inner_fields letter times turn) NoFields) (codes " 900{" ++ (between ++ 125 ∷ []))
nested_spelled letter times turn between inside =
    let text : codes " 900{" ++ (between ++ 125 ∷ []) ≡ 32 ∷ (((number 900 ++ 123 ∷ between) ++ 125 ∷ []) ++ []) =
    sym (ap (λ (ds : List ℕ). 32 ∷ (((ds ++ 123 ∷ between) ++ 125 ∷ []) ++ [])) number_nine_hundred
    ∙ ap (λ (ds : List ℕ). codes " 900{" ++ ds) (append-nil (between ++ 125 ∷ []))) in
    ((omega arith, omega arith), between, inside, [], text, refl)

packet_spelled : (time letter times turn : ℕ) (rest : List ℕ) → time < 2 ^ 64
    → IsSpelling true (NestedField 900 (inner_fields letter times turn) NoFields) rest
    → IsSpelling false (packet_tree time letter times turn) (codes "8:" ++ (number time ++ rest))
packet_spelled time letter times turn rest fits later =
    let text : codes "8:" ++ (number time ++ rest) ≡ (number 8 ++ 58 ∷ number time) ++ rest =
    sym (ap (λ (ds : List ℕ). (ds ++ 58 ∷ number time) ++ rest) number_eight) in
    ((omega arith, omega arith), fits, rest, text, later)

text_spelled : (time letter times turn : ℕ) → AreNumbers time letter times turn
    → IsSpelling false (packet_tree time letter times turn) (fields_text time letter times turn)
unfolding number
text_spelled time letter times turn are =
    packet_spelled time letter times turn (nested_text letter times turn) (omega (arith, are.time_fits))
    (nested_spelled letter times turn (inner_text letter times turn)
    (inner_spelled letter times turn are.letter_is are.some are.few (omega (arith, are.turn_fits))))

-- ---- how long it is

tag_short : (field wire : ℕ) → 8 * field + wire < 128 → length (tag field wire) ≤ 1
unfolding tag
tag_short field wire small = length-varint-below 0 (8 * field + wire) small

tag_mid : (field wire : ℕ) → 8 * field + wire < 16384 → length (tag field wire) ≤ 2
unfolding tag
tag_mid field wire small = length-varint-below 1 (8 * field + wire) small

-- by the length of the time
pub packet_len : (time letter times turn most : ℕ) → AreNumbers time letter times turn → length (varint time) ≤ most
    → encoding_len (packet_tree time letter times turn) ≤ 37 + most
packet_len time letter times turn most are short =
    let time_is = length_number_field 8 time in
    let turn_is = length_number_field 2 turn in
    let head_is = length_bytes_head 1 (times * length (letter ∷ [])) in
    let eight : length (tag 8 0) ≤ 1 = tag_short 8 0 (omega arith) in
    let two : length (tag 2 0) ≤ 1 = tag_short 2 0 (omega arith) in
    let one : length (tag 1 2) ≤ 1 = tag_short 1 2 (omega arith) in
    let nested : length (tag 900 2) ≤ 2 = tag_mid 900 2 (omega arith) in
    let turn_len : length (varint turn) ≤ 3 = length-varint-below 2 turn (omega (arith, are.turn_fits)) in
    let one_letter : times * length (letter ∷ []) ≡ times = omega arith in
    let text_len : length (varint (times * length (letter ∷ []))) ≤ 1 =
    length-varint-below 0 (times * length (letter ∷ [])) (omega (arith, are.few)) in
    omega (arith, are.few)

pub packet_len_any : (time letter times turn : ℕ) → AreNumbers time letter times turn
    → encoding_len (packet_tree time letter times turn) ≤ 42
packet_len_any time letter times turn are =
    packet_len time letter times turn 5 are (length-varint-below 4 time (omega (arith, are.time_fits)))

pub packet_len_early : (time letter times turn : ℕ) → AreNumbers time letter times turn → time < 268435456
    → encoding_len (packet_tree time letter times turn) ≤ 41
packet_len_early time letter times turn are early =
    packet_len time letter times turn 4 are (length-varint-below 3 time early)

-- ---- the answer

packet_taken : (time letter times turn : ℕ) → AreNumbers time letter times turn → refusal_of 0 (packet_tree time letter times turn) ≡ None
unfolding refusal_of
packet_taken time letter times turn are =
    let len = packet_len_any time letter times turn are in
    let short : nat_lt MAX_PACKET_LEN (encoding_len (packet_tree time letter times turn)) ≡ false =
    le-ltb MAX_PACKET_LEN (encoding_len (packet_tree time letter times turn)) (omega arith) in
    rw short refl

some_fields : (time letter times turn : ℕ) → packet_tree time letter times turn ≢ NoFields
some_fields time letter times turn same = cc

-- the FIELDS come to the nodes of the tree
pub packet_read : (time letter times turn : ℕ) → AreNumbers time letter times turn
    → outcome 0 (fields_text time letter times turn) ≡ Ok (nodes_of (packet_tree time letter times turn))
packet_read time letter times turn are =
    let text_of : IsTextOf (packet_tree time letter times turn) (fields_text time letter times turn) =
    record { some = some_fields time letter times turn; spelled = text_spelled time letter times turn are } in
    sym (only_outcome 0 (fields_text time letter times turn) (Ok (nodes_of (packet_tree time letter times turn)))
    (record {
      fields = packet_tree time letter times turn;
      text_of = text_of;
      nodes_are = refl;
      taken = packet_taken time letter times turn are;
    }))
