-- A writer accepts what each accepted line asks of it.
use Rattle.std.proofs.Common.{◌≡◌, ◌≢◌, ◌∙◌, ℕ, zero, suc, ◌+◌, ◌<◌, ◌≤◌, nat_eq, nat_le, nat_lt, Bool, true, false, cond, not, ◌&&◌, List, [], ◌∷◌, ◌++◌, Option, Some, None, Result, Ok, Err, is_none, is_some, map, refl, sym, ap, arith}
use Rattle.std.proofs.lemmas.Grind.{common_steps}
use Rattle.trace_base.specs.declared.limits.TheConstants.{MAX_FIELD, MAX_NESTING, MAX_PACKET_LEN, MAX_SCENARIO_PACKET_BYTES}
use Rattle.trace_base.specs.Reserved.{is_reserved}
use Rattle.trace_model.specs.Calls as call
use Rattle.trace_model.specs.Calls.{Call}
use Rattle.trace_model.specs.Encoding.{Fields, NoFields, encoding_len, calls_of}
use Rattle.trace_model.specs.Packets.{Account}
use Rattle.trace_model.proofs.EncodingLemmas.{encoding_as_long}
use Rattle.field_tree.specs.declared.fault.FieldFault.{FieldFault}
use Rattle.field_tree.specs.declared.fault.FieldFault.TheVariants as faults
use Rattle.field_tree.specs.Nodes.{Shown, nodes_of}
use Rattle.field_tree.specs.Judged.{nodes_len}
use Rattle.field_tree.specs.Refusals.{reserved_fault, first_reserved}
use Rattle.field_tree.specs.Answers.{Means, outcome}
use Rattle.field_tree.proofs.AnswerLemmas.{outcome_means}
use Rattle.field_tree.proofs.NodeLaws.{nodes_as_long}
use Rattle.trace_base.specs.declared.numeral.Numeral.{Numeral}
use Rattle.scenario_text.specs.declared.form.Form.TheVariants.{OfWriter}
use Rattle.scenario_text.specs.declared.form.WriterStep.{WriterStep}
use Rattle.scenario_text.specs.declared.form.WriterStep.TheVariants.{Packet, Begin, Add, Nest, Unnest, End, Flush}
use Rattle.scenario_text.specs.declared.open_packet.OpenPacket.{OpenPacket}
use Rattle.scenario_text.specs.declared.reason.Reason.TheVariants as reasons
use Rattle.scenario_text.specs.Pieces.{fields_part}
use Rattle.scenario_text.specs.Ranges.{value, is_within}
use Rattle.scenario_text.specs.State.{State, packet_of, nesting_of, len_of}
use Rattle.scenario_text.specs.Reasons.{first, wants_none, meets_packet, lacks_packet, lacks_nesting, leaves_nesting, nested, given, given_by, step_len, bad_field, reserved_field, too_deep, too_long, too_many_bytes, before_fields, back_reasons, len_before}
use Rattle.scenario_text.specs.Effects.{packet_after}
use Rattle.scenario_text.specs.Accepted.{node_call}
use Rattle.scenario_text.proofs.FrontLemmas.{IsPassed, within_least, within_most}
use Rattle.scenario_text.proofs.TreeLemmas.{taken_free, spelled_numbers, within}
use Rattle.scenario_text.proofs.AcceptedFields.{MayFollow, AreWords, called_as, spelled_words}
use Rattle.scenario_text.proofs.AcceptedCalls.{Stands, LeadTo, begins, writes, writes_whole, nests, unnests, finishes, flushes}

-- ---- what a line gives its packet

-- FIELDS that are given are a tree's, and nothing speaks against it
record AreFields (depth : ℕ) (nodes : List Shown) : Type 0 where
  fields : Fields
  nodes_are : nodes ≡ nodes_of fields
  may : (len : ℕ) → len + nodes_len nodes ≤ MAX_PACKET_LEN → MayFollow depth len fields
  words : AreWords (calls_of fields)
  len_is : nodes_len nodes ≡ encoding_len fields

none_reserved : (depth : ℕ) (found : Option ℕ) → reserved_fault depth found ≡ None → depth ≡ 0 → found ≡ None
none_reserved zero None none top = refl
none_reserved zero (Some field) none top = cc
none_reserved (suc depth) found none top = absurd (omega (arith, top))

meant_fields : (depth : ℕ) (text : List ℕ) (result : Result (List Shown) FieldFault) (nodes : List Shown) → Means depth text result → result ≡ Ok nodes
    → AreFields depth nodes
meant_fields depth text (Ok found) nodes means is =
    let same : found ≡ nodes = cc in
    let nodes_are : nodes ≡ nodes_of means.fields = sym same ∙ means.nodes_are in
    let free = taken_free depth means.fields means.taken in
    let long : nodes_len nodes ≡ encoding_len means.fields = ap nodes_len nodes_are ∙ nodes_as_long means.fields ∙ encoding_as_long means.fields in
    record {
      fields = means.fields;
      nodes_are = nodes_are;
      may = λ len short. record {
        numbers = spelled_numbers means.fields false text means.text_of.spelled;
        free = none_reserved depth (first_reserved means.fields) free.free;
        shallow = free.shallow;
        short = omega (arith, short, long);
      };
      words = spelled_words means.fields false text means.text_of.spelled;
      len_is = long;
    }
meant_fields depth text (Err fault) nodes means is = cc

given_fields : (depth : ℕ) (text : List ℕ) (nodes : List Shown) → outcome depth text ≡ Ok nodes → AreFields depth nodes
given_fields depth text nodes is = meant_fields depth text (outcome depth text) nodes (outcome_means depth text) is

both_not : (a b : Bool) → (a && b) ≡ false → a ≡ true → b ≡ false
both_not true b none is = none
both_not false b none is = cc

-- an `n` line whose field is taken
record IsNested (depth field : ℕ) (nodes : List Shown) : Type 0 where
  least : 1 ≤ field
  most : field ≤ MAX_FIELD
  free : depth ≡ 0 → is_reserved field ≡ false
  shallow : depth < MAX_NESTING
  nodes_are : nodes ≡ []

nested_at : (numbered reserved deep : Bool) (depth : ℕ) (field : Numeral) (nodes : List Shown) → is_within 1 MAX_FIELD field ≡ numbered
    → (nat_eq depth 0 && is_reserved (value field)) ≡ reserved → nat_le MAX_NESTING depth ≡ deep
    → cond (not numbered) (Err (faults.BadField 1)) (cond reserved (Err (faults.Reserved (value field))) (cond deep (Err faults.TooDeep) (Ok []))) ≡ Ok nodes
    → IsNested depth (value field) nodes
nested_at true false false depth field nodes number own below is = record {
  least = within_least 1 MAX_FIELD field number;
  most = within_most 1 MAX_FIELD field number;
  free = λ top. both_not (nat_eq depth 0) (is_reserved (value field)) own (rw top refl);
  shallow = grind (arith, common_steps, below);
  nodes_are = cc;
}
nested_at false reserved deep depth field nodes number own below is = cc
nested_at true true deep depth field nodes number own below is = cc
nested_at true false true depth field nodes number own below is = cc

given_nested : (depth : ℕ) (field : Numeral) (nodes : List Shown) → nested depth field ≡ Ok nodes → IsNested depth (value field) nodes
unfolding nested
given_nested depth field nodes is = nested_at _ _ _ depth field nodes refl refl refl is

-- ---- what the reasons leave

pub record IsGiven (len bytes : ℕ) (step : WriterStep) (result : Result (List Shown) FieldFault) : Type 0 where
  pub nodes : List Shown
  pub is : result ≡ Ok nodes
  pub short : len + step_len step nodes ≤ MAX_PACKET_LEN
  pub few : bytes + step_len step nodes ≤ MAX_SCENARIO_PACKET_BYTES

given_at : (before len bytes : ℕ) (writer : Numeral) (step : WriterStep) (result : Result (List Shown) FieldFault)
    → first (bad_field before result ∷ reserved_field result ∷ too_deep result ∷ too_long len (OfWriter writer step) result
    ∷ too_many_bytes bytes (OfWriter writer step) result ∷ []) ≡ None → IsGiven len bytes step result
given_at before len bytes writer step (Ok nodes) none =
    let lengths = both_at (nat_lt MAX_PACKET_LEN (len + step_len step nodes)) (nat_lt MAX_SCENARIO_PACKET_BYTES (bytes + step_len step nodes)) refl refl none in
    record { nodes = nodes; is = refl; short = lengths.0; few = lengths.1 }
  where
    both_at : (long many : Bool) → nat_lt MAX_PACKET_LEN (len + step_len step nodes) ≡ long
        → nat_lt MAX_SCENARIO_PACKET_BYTES (bytes + step_len step nodes) ≡ many
        → first (None ∷ None ∷ None ∷ cond long (Some reasons.PacketTooLong) None ∷ cond many (Some reasons.TooManyBytes) None ∷ []) ≡ None
        → (len + step_len step nodes ≤ MAX_PACKET_LEN) × (bytes + step_len step nodes ≤ MAX_SCENARIO_PACKET_BYTES)
    both_at true many long_is many_is none = cc
    both_at false true long_is many_is none = cc
    both_at false false long_is many_is none =
        (within MAX_PACKET_LEN (len + step_len step nodes) long_is, within MAX_SCENARIO_PACKET_BYTES (bytes + step_len step nodes) many_is)
given_at before len bytes writer step (Err (faults.BadField column)) none = cc
given_at before len bytes writer step (Err (faults.Reserved field)) none = cc
given_at before len bytes writer step (Err faults.TooDeep) none = cc
given_at before len bytes writer step (Err faults.PacketTooLong) none = cc

-- the packet that the line's writer has begun, and what the line gives it
pub line_given : (state : State) (line : List ℕ) (writer : Numeral) (step : WriterStep) → first (back_reasons state line (OfWriter writer step)) ≡ None
    → IsGiven (len_of (packet_of state writer)) state.bytes step (given_by (nesting_of (packet_of state writer)) line step)
unfolding back_reasons given len_before
line_given state line writer step none =
    given_at (before_fields line) (len_of (packet_of state writer)) state.bytes writer step (given_by (nesting_of (packet_of state writer)) line step) none

-- ---- the calls of a line

abbrev pub step_calls : WriterStep → List Shown → List Call
step_calls (Packet has_fields) nodes = call.Begun true ∷ map node_call nodes ++ call.Finished ∷ []
step_calls Begin nodes = call.Begun true ∷ []
step_calls Add nodes = map node_call nodes
step_calls (Nest field) nodes = call.Nested (value field) ∷ []
step_calls Unnest nodes = call.Ended ∷ []
step_calls End nodes = call.Finished ∷ []
step_calls Flush nodes = call.Flushed ∷ []

-- the tests of a line's packet are false
record IsInPlace (packet : Option OpenPacket) (step : WriterStep) : Type 0 where
  none_begun : (wants_none step && is_some packet) ≡ false
  begun : (not (wants_none step) && is_none packet) ≡ false

none_there : (packet : Option OpenPacket) → is_some packet ≡ false → packet ≡ None
none_there None is = refl
none_there (Some packet) is = cc

same_call : (nodes : List Shown) (fields : Fields) → nodes ≡ nodes_of fields → map node_call nodes ≡ calls_of fields
same_call nodes fields is = ap (map node_call) is ∙ called_as fields

step_leads : (account : Account) (packet : Option OpenPacket) (number : ℕ) (line : List ℕ) (step : WriterStep) (nodes : List Shown)
    → Stands account packet → IsInPlace packet step
    → (step ≡ Unnest → nesting_of packet ≢ 0) → (step ≡ End → nesting_of packet ≡ 0)
    → given_by (nesting_of packet) line step ≡ Ok nodes → len_of packet + step_len step nodes ≤ MAX_PACKET_LEN
    → LeadTo account (step_calls step nodes) (packet_after number packet step (step_len step nodes))
unfolding wants_none given_by step_len packet_after nesting_of len_of
step_leads account None number line (Packet true) nodes stands place nested level is short =
    let f = given_fields 0 (fields_part line) nodes is in
    rw (same_call nodes f.fields f.nodes_are) (writes_whole account f.fields stands (f.may 0 short) f.words)
step_leads account None number line (Packet false) nodes stands place nested level is short =
    let none : nodes ≡ [] = cc in
    let may : MayFollow 0 0 NoFields = record { numbers = tt; free = λ top. refl; shallow = omega arith; short = omega arith } in
    rw none (writes_whole account NoFields stands may tt)
step_leads account (Some packet) number line (Packet has_fields) nodes stands place nested level is short = absurd cc
step_leads account None number line Begin nodes stands place nested level is short = begins account number stands
step_leads account (Some packet) number line Begin nodes stands place nested level is short = absurd cc
step_leads account (Some packet) number line Add nodes stands place nested level is short =
    let f = given_fields packet.depth (fields_part line) nodes is in
    rw (same_call nodes f.fields f.nodes_are, f.len_is) (writes account packet f.fields stands (f.may packet.len short) f.words)
step_leads account None number line Add nodes stands place nested level is short = absurd cc
step_leads account (Some packet) number line (Nest field) nodes stands place nested level is short =
    let n = given_nested packet.depth field nodes is in
    nests account packet (value field) stands (record { numbered = (n.least, n.most); free = n.free; shallow = n.shallow; short = short })
step_leads account None number line (Nest field) nodes stands place nested level is short = absurd cc
step_leads account (Some packet) number line Unnest nodes stands place nested level is short = unnests account packet stands (nested refl)
step_leads account None number line Unnest nodes stands place nested level is short = absurd cc
step_leads account (Some packet) number line End nodes stands place nested level is short = finishes account packet stands (level refl)
step_leads account None number line End nodes stands place nested level is short = absurd cc
step_leads account None number line Flush nodes stands place nested level is short = flushes account stands
step_leads account (Some packet) number line Flush nodes stands place nested level is short = absurd cc

some_open : (depth : ℕ) → nat_eq depth 0 ≡ false → depth ≢ 0
some_open depth is same = grind (arith, common_steps, is, same)

unnested_at : (state : State) (writer : Numeral) (step : WriterStep) → lacks_nesting state (OfWriter writer step) ≡ false → step ≡ Unnest
    → nesting_of (packet_of state writer) ≢ 0
unfolding lacks_nesting
unnested_at state writer Unnest none is = some_open (nesting_of (packet_of state writer)) none
unnested_at state writer (Packet has_fields) none is = cc
unnested_at state writer Begin none is = cc
unnested_at state writer Add none is = cc
unnested_at state writer (Nest field) none is = cc
unnested_at state writer End none is = cc
unnested_at state writer Flush none is = cc

ended_at : (state : State) (writer : Numeral) (step : WriterStep) → leaves_nesting state (OfWriter writer step) ≡ false → step ≡ End
    → nesting_of (packet_of state writer) ≡ 0
unfolding leaves_nesting
ended_at state writer End none is = grind (arith, common_steps, none)
ended_at state writer (Packet has_fields) none is = cc
ended_at state writer Begin none is = cc
ended_at state writer Add none is = cc
ended_at state writer (Nest field) none is = cc
ended_at state writer Unnest none is = cc
ended_at state writer Flush none is = cc

pub line_leads : (account : Account) (state : State) (number : ℕ) (line : List ℕ) (writer : Numeral) (step : WriterStep) (nodes : List Shown)
    → Stands account (packet_of state writer) → IsPassed state (OfWriter writer step)
    → given_by (nesting_of (packet_of state writer)) line step ≡ Ok nodes → len_of (packet_of state writer) + step_len step nodes ≤ MAX_PACKET_LEN
    → LeadTo account (step_calls step nodes) (packet_after number (packet_of state writer) step (step_len step nodes))
unfolding meets_packet lacks_packet
line_leads account state number line writer step nodes stands passed is short =
    step_leads account (packet_of state writer) number line step nodes stands (record { none_begun = passed.none_begun; begun = passed.begun })
    (unnested_at state writer step passed.nested) (ended_at state writer step passed.level) is short
