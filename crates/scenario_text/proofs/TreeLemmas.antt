-- What the lines of a scenario give their packets are trees.
use Rattle.std.proofs.Common.{◌≡◌, ℕ, ◌+◌, ◌≤◌, Bool, true, false, nat_lt, Option, Some, None, Result, Ok, Err, List, [], ◌∷◌, ◌++◌, refl, subst, sym, arith, lit≤}
use Rattle.std.proofs.lemmas.Grind.{common_steps}
use Rattle.trace_model.specs.Encoding.{Fields, NoFields, NumberField, BytesField, NestedField, encoding_len, depth_of}
use Rattle.trace_model.proofs.EncodingLemmas.{encoding_as_long}
use Rattle.field_tree.specs.declared.fault.FieldFault.{FieldFault}
use Rattle.field_tree.specs.declared.fault.FieldFault.TheVariants as faults
use Rattle.field_tree.specs.Nodes.{Shown, nodes_of}
use Rattle.field_tree.specs.Refusals as refusals
use Rattle.field_tree.specs.Refusals.{reserved_fault, first_reserved, or_else, when}
use Rattle.field_tree.specs.Answers.{Means, outcome}
use Rattle.field_tree.proofs.AnswerLemmas.{outcome_means}
use Rattle.trace_base.specs.declared.limits.TheConstants.{MAX_NESTING, MAX_PACKET_LEN}
use Rattle.trace_base.specs.declared.numeral.Numeral.{Numeral}
use Rattle.scenario_text.specs.declared.form.Form.{Form}
use Rattle.scenario_text.specs.declared.form.Form.TheVariants.{Buffer, Producer, Writer, OfWriter, OfProducer, Read, Request, CloneBuffer, Raw}
use Rattle.scenario_text.specs.declared.form.WriterStep.{WriterStep}
use Rattle.scenario_text.specs.declared.form.WriterStep.TheVariants.{Packet, Begin, Add, Nest, Unnest, End, Flush}
use Rattle.scenario_text.specs.declared.form.ProducerStep.{ProducerStep}
use Rattle.scenario_text.specs.declared.form.ProducerStep.TheVariants.{Collect, Scrape, Close}
use Rattle.scenario_text.specs.Pieces.{fields_part}
use Rattle.scenario_text.specs.Ranges.{value}
use Rattle.scenario_text.specs.State.{State, beginning, packet_of}
use Rattle.scenario_text.specs.State as state_words
use Rattle.scenario_text.specs.Reasons.{given, given_by}
use Rattle.scenario_text.specs.Effects.{writer_kind, producer_kind, nodes_given, with_line, with_packet, with_bytes, with_closed, served, written, moved, with_clone}
use Rattle.scenario_text.specs.declared.scenario.NumberedLine.{NumberedLine}
use Rattle.scenario_text.specs.declared.scenario.Scenario.{Scenario}
use Rattle.scenario_text.specs.Scenario.{Parts, IsScenario}
use Rattle.field_tree.specs.Grammar.{IsSpelling}
use Rattle.field_tree.specs.Trees.{HasFieldNumbers, IsTree}
use Rattle.field_tree.proofs.NodeLaws.{nodes_as_long}
use Rattle.scenario_text.specs.Trees.{GivesTree, GiveTrees}
use Rattle.scenario_text.proofs.StateLemmas.{scenario_holds}

no_fields_are : IsTree []
no_fields_are = record { tree = NoFields; nodes_are = refl; numbers = tt; nesting = lit≤ tt; most = lit≤ tt }

-- what the grammar spells has field numbers
pub spelled_numbers : (fields : Fields) (after : Bool) (text : List ℕ) → IsSpelling after fields text → HasFieldNumbers fields
spelled_numbers NoFields after text is = tt
spelled_numbers (NumberField field number others) after text (numbered, small, rest, cut, more) = (numbered, spelled_numbers others true rest more)
spelled_numbers (BytesField field bytes times others) after text (numbered, spelt, spelling, rest, cut, more) = (numbered, spelled_numbers others true rest more)
spelled_numbers (NestedField field inner others) after text (numbered, between, within, rest, cut, more) =
    (numbered, spelled_numbers inner false between within, spelled_numbers others true rest more)

-- ---- what a text gives

neither : (first later : Option FieldFault) → or_else first later ≡ None → (first ≡ None) × (later ≡ None)
neither None later is = (refl, is)
neither (Some fault) later is = cc

no_fault : (test : Bool) (fault : FieldFault) → when test fault ≡ None → test ≡ false
no_fault true fault is = cc
no_fault false fault is = refl

pub within : (most n : ℕ) → nat_lt most n ≡ false → n ≤ most
within most n is = grind (arith, common_steps, is)

-- nothing speaks against the fields inside so many messages
pub record IsFree (depth : ℕ) (fields : Fields) : Type 0 where
  pub free : reserved_fault depth (first_reserved fields) ≡ None
  pub shallow : depth + depth_of fields ≤ MAX_NESTING
  pub short : encoding_len fields ≤ MAX_PACKET_LEN

pub taken_free : (depth : ℕ) (fields : Fields) → refusals.refusal_of depth fields ≡ None → IsFree depth fields
unfolding refusals.refusal_of
taken_free depth fields is =
    let reserved = neither (reserved_fault depth (first_reserved fields))
    (or_else (when (nat_lt MAX_NESTING (depth + depth_of fields)) faults.TooDeep) (when (nat_lt MAX_PACKET_LEN (encoding_len fields)) faults.PacketTooLong)) is in
    let deep = neither (when (nat_lt MAX_NESTING (depth + depth_of fields)) faults.TooDeep) (when (nat_lt MAX_PACKET_LEN (encoding_len fields)) faults.PacketTooLong) reserved.1 in
    record {
      free = reserved.0;
      shallow = within MAX_NESTING (depth + depth_of fields) (no_fault _ _ deep.0);
      short = within MAX_PACKET_LEN (encoding_len fields) (no_fault _ _ deep.1);
    }

taken_tree : (depth : ℕ) (fields : Fields) → HasFieldNumbers fields → refusals.refusal_of depth fields ≡ None → IsTree (nodes_of fields)
taken_tree depth fields numbers is =
    let free = taken_free depth fields is in
    record {
      tree = fields;
      nodes_are = refl;
      numbers = numbers;
      nesting = omega (arith, free.shallow);
      most = rw (nodes_as_long fields, encoding_as_long fields) free.short;
    }

given_tree : (depth : ℕ) (text : List ℕ) (result : Result (List Shown) FieldFault) → Means depth text result → IsTree (nodes_given result)
given_tree depth text (Ok nodes) means =
    let P : List Shown → Type 0 = λ ns. IsTree ns in
    subst P (sym means.nodes_are) (taken_tree depth means.fields (spelled_numbers means.fields false text means.text_of.spelled) means.taken)
given_tree depth text (Err fault) means = no_fields_are

outcome_tree : (depth : ℕ) (text : List ℕ) → IsTree (nodes_given (outcome depth text))
outcome_tree depth text = given_tree depth text (outcome depth text) (outcome_means depth text)

-- ---- what a line gives

step_tree : (depth writer : ℕ) (line : List ℕ) (step : WriterStep) → GivesTree (writer_kind writer step (nodes_given (given_by depth line step)))
unfolding writer_kind given_by
step_tree depth writer line (Packet false) = no_fields_are
step_tree depth writer line (Packet true) = outcome_tree depth (fields_part line)
step_tree depth writer line Begin = tt
step_tree depth writer line Add = outcome_tree depth (fields_part line)
step_tree depth writer line (Nest field) = tt
step_tree depth writer line Unnest = tt
step_tree depth writer line End = tt
step_tree depth writer line Flush = tt

producer_tree : (producer : ℕ) (step : ProducerStep) → GivesTree (producer_kind producer step)
unfolding producer_kind
producer_tree producer Collect = tt
producer_tree producer Scrape = tt
producer_tree producer Close = tt

one_more : (lines : List NumberedLine) (line : NumberedLine) → GiveTrees lines → GivesTree line.what → GiveTrees (lines ++ line ∷ [])
one_more [] line all more = (more, tt)
one_more (first ∷ lines) line all more = (all.0, one_more lines line all.1 more)

pub served_lines : (state : State) (producer : Numeral) (step : ProducerStep) → (served state producer step).lines ≡ state.lines
unfolding served with_closed
served_lines state producer Collect = refl
served_lines state producer Scrape = refl
served_lines state producer Close = refl

moved_trees : (state : State) (number : ℕ) (line : List ℕ) (form : Form) → GiveTrees state.lines
    → GiveTrees (moved state number line form (nodes_given (given state line form))).lines
unfolding moved given written with_line with_packet with_bytes with_clone
moved_trees state number line (Buffer kb policy) all = all
moved_trees state number line (Producer pages page_size chunks) all = all
moved_trees state number line (Writer producer buffer policy from) all = all
moved_trees state number line (OfWriter writer step) all =
    one_more state.lines _ all (step_tree (state_words.nesting_of (packet_of state writer)) (value writer) line step)
moved_trees state number line (OfProducer producer step) all =
    let P : List NumberedLine → Type 0 = λ lines. GiveTrees lines in
    subst P (sym (served_lines (with_line state number (producer_kind (value producer) step)) producer step))
    (one_more state.lines _ all (producer_tree (value producer) step))
moved_trees state number line (Read buffer limit) all = one_more state.lines _ all tt
moved_trees state number line Request all = one_more state.lines _ all tt
moved_trees state number line (CloneBuffer buffer) all = one_more state.lines _ all tt
moved_trees state number line (Raw raw) all = one_more state.lines _ all tt

-- ---- every scenario

pub scenario_gives_trees : (scenario : Scenario) → IsScenario scenario → GiveTrees scenario.lines
scenario_gives_trees scenario is =
    let end =
    scenario_holds (λ (state : State). GiveTrees state.lines)
    (λ state number line form formed none all. moved_trees state number line form all) tt
    scenario is in
    subst (λ (parts : Parts). GiveTrees parts.lines) end.says end.holds
