-- A writer accepts the calls of a tree of fields wherever nothing speaks against the fields.
use Rattle.std.proofs.Common.{◌≡◌, ◌∙◌, ℕ, ◌+◌, ◌*◌, ◌^◌, ◌<◌, ◌≤◌, length, Bool, true, false, cond, List, [], ◌∷◌, ◌++◌, Option, Some, None, map, refl, sym, subst, length-append, arith}
use Rattle.std.specs.Prelude.{fold}
use Rattle.std.proofs.lemmas.List.{map-append}
use Rattle.trace_base.specs.declared.limits.TheConstants.{MAX_NESTING, MAX_PACKET_LEN}
use Rattle.trace_base.specs.Reserved.{is_reserved}
use Rattle.wire_varint.specs.Varint.{redundant}
use Rattle.trace_model.specs.Calls.{Call, Begun, Number, Bytes, Nested, Ended, GivenUp, Finished, Flushed}
use Rattle.trace_model.specs.Encoding.{Fields, NoFields, NumberField, BytesField, NestedField, number_field, bytes_head, bytes_field, nested_tag, encoding_of, encoding_len, depth_of, calls_of}
use Rattle.trace_model.specs.Packets.{Packet, NestedLength, Account, open_length, flat, noted, front_of, newest_length}
use Rattle.trace_model.proofs.CallLemmas.{at_text, Writes, writes_fields}
use Rattle.trace_model.proofs.EncodingLemmas.{encoding_as_long, length-bytes_field}
use Rattle.wire_varint.proofs.Lengths.{length-redundant}
use Rattle.field_tree.specs.declared.node.FieldNode.TheVariants as node
use Rattle.field_tree.specs.Nodes.{nodes_of, IsField}
use Rattle.field_tree.specs.Grammar.{IsSpelling}
use Rattle.field_tree.specs.Refusals.{reserved_or, first_reserved}
use Rattle.field_tree.specs.Trees.{HasFieldNumbers}
use Rattle.scenario_text.specs.Accepted.{node_call, AcceptsField, AreAccepted}

-- ---- lists of calls

pub accepted_both : (account : Account) (calls more : List Call) → AreAccepted account calls → AreAccepted (fold noted account calls) more
    → AreAccepted account (calls ++ more)
accepted_both account [] more first then = then
accepted_both account (call ∷ calls) more first then = (first.0, accepted_both (noted account call) calls more first.1 then)

-- and of accepted calls those in front are, and those behind them
pub accepted_front : (account : Account) (calls more : List Call) → AreAccepted account (calls ++ more) → AreAccepted account calls
accepted_front account [] more all = tt
accepted_front account (call ∷ calls) more all = (all.0, accepted_front (noted account call) calls more all.1)

pub accepted_back : (account : Account) (calls more : List Call) → AreAccepted account (calls ++ more) → AreAccepted (fold noted account calls) more
accepted_back account [] more all = all
accepted_back account (call ∷ calls) more all = accepted_back (noted account call) calls more all.1

-- the numbers that are written are of 64 bits
abbrev pub AreWords : List Call → Type 0
AreWords [] = Unit {0}
AreWords (Number field value ∷ calls) = (value < 2 ^ 64) × AreWords calls
AreWords (call ∷ calls) = AreWords calls

pub words_both : (calls more : List Call) → AreWords calls → AreWords more → AreWords (calls ++ more)
words_both [] more first then = then
words_both (Number field value ∷ calls) more first then = (first.0, words_both calls more first.1 then)
words_both (Begun kept ∷ calls) more first then = words_both calls more first then
words_both (Bytes field text times ∷ calls) more first then = words_both calls more first then
words_both (Nested field ∷ calls) more first then = words_both calls more first then
words_both (Ended ∷ calls) more first then = words_both calls more first then
words_both (GivenUp ∷ calls) more first then = words_both calls more first then
words_both (Finished ∷ calls) more first then = words_both calls more first then
words_both (Flushed ∷ calls) more first then = words_both calls more first then

-- so are those of a tree that the grammar spells
pub spelled_words : (fields : Fields) (after : Bool) (text : List ℕ) → IsSpelling after fields text → AreWords (calls_of fields)
spelled_words NoFields after text is = tt
spelled_words (NumberField field number others) after text (numbered, small, rest, cut, more) = (small, spelled_words others true rest more)
spelled_words (BytesField field bytes times others) after text (numbered, spelt, spelling, rest, cut, more) = spelled_words others true rest more
spelled_words (NestedField field inner others) after text (numbered, between, within, rest, cut, more) =
    words_both (calls_of inner) (Ended ∷ calls_of others) (spelled_words inner false between within) (spelled_words others true rest more)

-- the nodes of a tree are called as the tree is
pub called_as : (fields : Fields) → map node_call (nodes_of fields) ≡ calls_of fields
unfolding node_call
called_as NoFields = refl
called_as (NumberField field value others) = rw (called_as others) refl
called_as (BytesField field text times others) = rw (called_as others) refl
called_as (NestedField field inner others) =
    rw (map-append node_call (nodes_of inner) ((node.End, []) ∷ nodes_of others), called_as inner, called_as others) refl

-- ---- lengths of what is written

-- bytes more make the packet so much longer
pub longer : (level bytes : List ℕ) (outer : List (List ℕ))
    → length (flat open_length ((level ++ bytes) ∷ outer)) ≡ length (flat open_length (level ∷ outer)) + length bytes
longer level bytes [] = length-append level bytes
longer level bytes (next ∷ others) =
    let front = flat open_length (next ∷ others) ++ open_length in
    length-append front (level ++ bytes) ∙ omega (arith, length-append level bytes, length-append front level)

-- a message that begins takes four
pub begun_len : (level : List ℕ) (outer : List (List ℕ))
    → length (flat open_length ([] ∷ level ∷ outer)) ≡ length (flat open_length (level ∷ outer)) + 4
begun_len level outer =
    length-append (flat open_length (level ∷ outer) ++ open_length) [] ∙ omega (arith, length-append (flat open_length (level ∷ outer)) open_length)

-- ---- the fields that a packet takes

reserved_none : (is : Bool) (field : ℕ) (later : Option ℕ) → cond is (Some field) later ≡ None → (is ≡ false) × (later ≡ None)
reserved_none true field later none = cc
reserved_none false field later none = (refl, none)

-- nothing speaks against the fields inside so many messages, in a packet of this length
pub record MayFollow (depth len : ℕ) (fields : Fields) : Type 0 where
  pub numbers : HasFieldNumbers fields
  pub free : depth ≡ 0 → first_reserved fields ≡ None
  pub shallow : depth + depth_of fields ≤ MAX_NESTING
  pub short : len + encoding_len fields ≤ MAX_PACKET_LEN

module _ (packet : Packet) (older : List Packet) (flushed : Bool) (going : packet.finished ≡ false) (plain : front_of packet ≡ []) where
  -- the length of the encoding is that of the bytes
  pub len_is : (levels : List (List ℕ)) (closed : List NestedLength)
      → newest_length (at_text packet older flushed levels closed).packets ≡ length (flat open_length levels)
  len_is levels closed = rw plain refl

  accepts_field : (level : List ℕ) (outer : List (List ℕ)) (closed : List NestedLength) (field more : ℕ) (later : Option ℕ) → IsField field
      → (length outer ≡ 0 → reserved_or field later ≡ None) → length (flat open_length (level ∷ outer)) + more ≤ MAX_PACKET_LEN
      → AcceptsField (at_text packet older flushed (level ∷ outer) closed).packets field more
  accepts_field level outer closed field more later numbered free short = record {
    begun = rw going refl;
    numbered = numbered;
    free = λ one. (reserved_none (is_reserved field) field later (free (omega (arith, one)))).0;
    short = rw (len_is (level ∷ outer) closed) short;
  }

  pub accepts_fields : (fields : Fields) (level : List ℕ) (outer : List (List ℕ)) (closed : List NestedLength)
      → MayFollow (length outer) (length (flat open_length (level ∷ outer))) fields
      → AreAccepted (at_text packet older flushed (level ∷ outer) closed) (calls_of fields)
  accepts_fields NoFields level outer closed may = tt
  accepts_fields (NumberField field value others) level outer closed may =
      let longer_by = longer level (number_field field value) outer in (
        accepts_field level outer closed field (length (number_field field value)) (first_reserved others) may.numbers.0 may.free (omega (arith, may.short)),
        accepts_fields others (level ++ number_field field value) outer closed (record {
          numbers = may.numbers.1;
          free = λ top. (reserved_none (is_reserved field) field (first_reserved others) (may.free top)).1;
          shallow = may.shallow;
          short = omega (arith, may.short, longer_by);
        }),
      )
  accepts_fields (BytesField field text times others) level outer closed may =
      let longer_by = longer level (bytes_field field text times) outer in (
        accepts_field level outer closed field (length (bytes_head field (times * length text)) + times * length text) (first_reserved others) may.numbers.0 may.free
            (omega (arith, may.short)),
        accepts_fields others (level ++ bytes_field field text times) outer closed (record {
          numbers = may.numbers.1;
          free = λ top. (reserved_none (is_reserved field) field (first_reserved others) (may.free top)).1;
          shallow = may.shallow;
          short = omega (arith, may.short, longer_by, length-bytes_field field text times);
        }),
      )
  accepts_fields (NestedField field inner others) level outer closed may =
      let tagged : List ℕ = level ++ nested_tag field in
      let message : List ℕ = encoding_of inner in
      let four : List ℕ = redundant (length message) in
      let within : Writes packet older flushed (calls_of inner) [] message (tagged ∷ outer) closed =
      writes_fields packet older flushed inner [] (tagged ∷ outer) closed in
      let here : NestedLength = record { at = length (flat open_length (tagged ∷ outer)); size = length message } in
      let ended : List ℕ = (tagged ++ four) ++ message in
      let tag_len = longer level (nested_tag field) outer in
      let four_len = longer tagged four outer in
      let ended_len = longer (tagged ++ four) message outer in
      let more : AreAccepted (at_text packet older flushed (message ∷ tagged ∷ outer) within.more) (Ended ∷ calls_of others) = (
        (rw going refl, omega arith),
        accepts_fields others ended outer (within.more ++ here ∷ []) (record {
          numbers = may.numbers.2;
          free = λ top. (reserved_none (is_reserved field) field (first_reserved others) (may.free top)).1;
          shallow = omega (arith, may.shallow);
          short = omega (arith, may.short, tag_len, four_len, ended_len, length-redundant (length message), encoding_as_long inner);
        }),
      ) in (
        (
          accepts_field level outer closed field (length (nested_tag field) + 4) (first_reserved others) may.numbers.0 may.free (omega (arith, may.short)),
          omega (arith, may.shallow),
        ),
        accepted_both (at_text packet older flushed ([] ∷ tagged ∷ outer) closed) (calls_of inner) (Ended ∷ calls_of others)
            (accepts_fields inner [] (tagged ∷ outer) closed (record {
              numbers = may.numbers.1;
              free = λ top. absurd (omega (arith, top));
              shallow = omega (arith, may.shallow);
              short = omega (arith, may.short, tag_len, begun_len tagged outer);
            }))
            (subst (λ (a : Account). AreAccepted a (Ended ∷ calls_of others)) (sym within.is) more),
      )
