-- The lines of a scenario are few, and the packets that they ask for short.
use Rattle.std.proofs.Common.{◌≡◌, ◌∙◌, ℕ, ◌+◌, ◌≤◌, nat_eq, Bool, true, false, cond, List, [], ◌∷◌, ◌++◌, Option, Some, None, Result, Ok, Err, length, refl, sym, ap, subst, arith, length-append}
use Rattle.std.specs.List.{slice_split}
use Rattle.std.proofs.lemmas.List.Splits.{length-slice_split}
use Rattle.std.proofs.lemmas.List.Sums.{count_by-le-length, sum_by_push}
use Rattle.trace_base.specs.declared.limits.TheConstants.{MAX_SCENARIO_PACKET_BYTES}
use Rattle.field_tree.specs.Nodes.{Shown}
use Rattle.trace_base.specs.declared.numeral.Numeral.{Numeral}
use Rattle.scenario_text.specs.declared.form.Form.{Form}
use Rattle.scenario_text.specs.declared.form.Form.TheVariants.{Buffer, Producer, Writer, OfWriter, OfProducer, Read, Request, CloneBuffer, Raw}
use Rattle.scenario_text.specs.declared.form.WriterStep.{WriterStep}
use Rattle.scenario_text.specs.declared.form.WriterStep.TheVariants.{Packet, Begin, Add, Nest, Unnest, End, Flush}
use Rattle.scenario_text.specs.declared.form.ProducerStep.{ProducerStep}
use Rattle.scenario_text.specs.declared.form.ProducerStep.TheVariants.{Collect, Scrape, Close}
use Rattle.scenario_text.specs.declared.reason.Reason.{Reason}
use Rattle.scenario_text.specs.declared.scenario.LineKind.{LineKind}
use Rattle.scenario_text.specs.declared.scenario.NumberedLine.{NumberedLine}
use Rattle.scenario_text.specs.declared.scenario.Scenario.{Scenario}
use Rattle.scenario_text.specs.Pieces.{pieces}
use Rattle.scenario_text.specs.Ranges.{value}
use Rattle.scenario_text.specs.State.{State, beginning, packet_of}
use Rattle.scenario_text.specs.State as state_words
use Rattle.scenario_text.specs.Reasons.{first, front_reasons, back_reasons, refusal_of, given, given_by, step_len}
use Rattle.scenario_text.specs.Effects.{moved, nodes_given, written, served, with_line, with_packet, with_closed, with_bytes, writer_kind, producer_kind, with_clone}
use Rattle.scenario_text.specs.Forms.{form_of}
use Rattle.scenario_text.specs.Grammar.{unless, after_form, says_nothing, after_line, first_left, unless_left, at_end, and_then, after_lines, state_after}
use Rattle.scenario_text.specs.Scenario.{Parts, parts_of, parts_said, said, scenario_of, IsScenario}
use Rattle.scenario_text.proofs.AcceptedLines.{line_given}
use Rattle.scenario_text.proofs.StateLemmas.{first_none, scenario_holds}
use Rattle.scenario_text.proofs.TreeLemmas.{served_lines}
use Rattle.scenario_text.specs.Lengths.{line_len, lines_len, AreShort}

-- ---- how long packets are

-- the state counts the bytes of its lines
record AreCounted (state : State) : Type 0 where
  sum_is : lines_len state.lines ≡ state.bytes
  most : state.bytes ≤ MAX_SCENARIO_PACKET_BYTES

pub lines_push : (lines : List NumberedLine) (line : NumberedLine) → lines_len (lines ++ line ∷ []) ≡ lines_len lines + line_len line.what
lines_push lines line = sum_by_push (λ (l : NumberedLine). line_len l.what) lines line

-- a line of a writer is as long as its step
kind_len : (depth writer : ℕ) (line : List ℕ) (step : WriterStep) → line_len (writer_kind writer step (nodes_given (given_by depth line step)))
    ≡ step_len step (nodes_given (given_by depth line step))
unfolding writer_kind given_by step_len
kind_len depth writer line (Packet true) = refl
kind_len depth writer line (Packet false) = refl
kind_len depth writer line Begin = refl
kind_len depth writer line Add = refl
kind_len depth writer line (Nest field) = refl
kind_len depth writer line Unnest = refl
kind_len depth writer line End = refl
kind_len depth writer line Flush = refl

producer_len : (producer : ℕ) (step : ProducerStep) → line_len (producer_kind producer step) ≡ 0
unfolding producer_kind
producer_len producer Collect = refl
producer_len producer Scrape = refl
producer_len producer Close = refl

line_bytes : (state : State) (line : List ℕ) (writer : Numeral) (step : WriterStep) → first (back_reasons state line (OfWriter writer step)) ≡ None
    → state.bytes + step_len step (nodes_given (given state line (OfWriter writer step))) ≤ MAX_SCENARIO_PACKET_BYTES
unfolding given
line_bytes state line writer step none =
    let gives = line_given state line writer step none in
    subst (λ (nodes : List Shown). state.bytes + step_len step nodes ≤ MAX_SCENARIO_PACKET_BYTES) (sym (ap nodes_given gives.is)) gives.few

counted_line : (state : State) (number : ℕ) (kind : LineKind) → line_len kind ≡ 0 → AreCounted state → AreCounted (with_line state number kind)
unfolding with_line
counted_line state number kind none counted = record {
  sum_is = lines_push state.lines (record { line = number; what = kind }) ∙ omega (arith, none, counted.sum_is);
  most = counted.most;
}

counted_service : (state : State) (producer : Numeral) (step : ProducerStep) → AreCounted state → AreCounted (served state producer step)
unfolding served with_closed
counted_service state producer Collect counted = counted
counted_service state producer Scrape counted = counted
counted_service state producer Close counted = record { sum_is = counted.sum_is; most = counted.most }

counted_writer : (state : State) (number : ℕ) (line : List ℕ) (writer : Numeral) (step : WriterStep) → refusal_of state line (OfWriter writer step) ≡ None
    → AreCounted state → AreCounted (moved state number line (OfWriter writer step) (nodes_given (given state line (OfWriter writer step))))
unfolding refusal_of moved given written with_line with_packet with_bytes
counted_writer state number line writer step none counted =
    let reasons = first_none (front_reasons state (OfWriter writer step)) (back_reasons state line (OfWriter writer step)) none in
    let depth = state_words.nesting_of (packet_of state writer) in
    let kind = writer_kind (value writer) step (nodes_given (given_by depth line step)) in
    record {
      sum_is = lines_push state.lines (record { line = number; what = kind }) ∙ omega (arith, kind_len depth (value writer) line step, counted.sum_is);
      most = line_bytes state line writer step reasons.1;
    }

counted_keeps : (state : State) (number : ℕ) (line : List ℕ) (form : Form) → refusal_of state line form ≡ None → AreCounted state
    → AreCounted (moved state number line form (nodes_given (given state line form)))
unfolding moved with_clone
counted_keeps state number line (Buffer kb policy) none counted = record { sum_is = counted.sum_is; most = counted.most }
counted_keeps state number line (Producer pages page_size chunks) none counted = record { sum_is = counted.sum_is; most = counted.most }
counted_keeps state number line (Writer producer buffer policy from) none counted = record { sum_is = counted.sum_is; most = counted.most }
counted_keeps state number line (OfWriter writer step) none counted = counted_writer state number line writer step none counted
counted_keeps state number line (OfProducer producer step) none counted =
    counted_service (with_line state number (producer_kind (value producer) step)) producer step
    (counted_line state number (producer_kind (value producer) step) (producer_len (value producer) step) counted)
counted_keeps state number line (Read buffer limit) none counted = counted_line state number _ refl counted
counted_keeps state number line Request none counted = counted_line state number _ refl counted
counted_keeps state number line (Raw raw) none counted = counted_line state number _ refl counted
counted_keeps state number line (CloneBuffer buffer) none counted =
    let with = counted_line state number _ refl counted in
    record { sum_is = with.sum_is; most = with.most }

-- ---- how many lines there are

-- one line more at most
abbrev pub OneMore : State → State → Type 0
OneMore state after = length after.lines ≤ length state.lines + 1

push_one : (lines : List NumberedLine) (line : NumberedLine) → length (lines ++ line ∷ []) ≤ length lines + 1
push_one lines line = omega (arith, length-append lines (line ∷ []))

moved_one : (state : State) (number : ℕ) (line : List ℕ) (form : Form) (nodes : List Shown)
    → OneMore state (moved state number line form nodes)
unfolding moved written with_line with_packet with_bytes with_clone
moved_one state number line (Buffer kb policy) nodes = omega arith
moved_one state number line (Producer pages page_size chunks) nodes = omega arith
moved_one state number line (Writer producer buffer policy from) nodes = omega arith
moved_one state number line (OfWriter writer step) nodes = push_one state.lines _
moved_one state number line (OfProducer producer step) nodes =
    subst (λ (lines : List NumberedLine). length lines ≤ length state.lines + 1)
    (sym (served_lines (with_line state number (producer_kind (value producer) step)) producer step)) (push_one state.lines _)
moved_one state number line (Read buffer limit) nodes = push_one state.lines _
moved_one state number line Request nodes = push_one state.lines _
moved_one state number line (CloneBuffer buffer) nodes = push_one state.lines _
moved_one state number line (Raw raw) nodes = push_one state.lines _

unless_one : (refusal : Option Reason) (state middle after : State) → OneMore state middle → unless refusal middle ≡ Ok after → OneMore state after
unfolding unless
unless_one None state middle after more leads = let same : middle ≡ after = cc in subst (OneMore state) same more
unless_one (Some reason) state middle after more leads = absurd cc

form_one : (form : Option Form) (state after : State) (number : ℕ) (line : List ℕ) → after_form state number line form ≡ Ok after → OneMore state after
unfolding after_form
form_one None state after number line leads = absurd cc
form_one (Some form) state after number line leads =
    unless_one (refusal_of state line form) state (moved state number line form (nodes_given (given state line form))) after
    (moved_one state number line form (nodes_given (given state line form))) leads

says_one : (nothing : Bool) (state after : State) (number : ℕ) (line : List ℕ)
    → cond nothing (Ok state) (after_form state number line (form_of line)) ≡ Ok after → OneMore state after
says_one true state after number line leads =
    let same : state ≡ after = cc in subst (OneMore state) same (omega arith)
says_one false state after number line leads = form_one (form_of line) state after number line leads

line_one : (state after : State) (number : ℕ) (line : List ℕ) → after_line state number line ≡ Ok after → OneMore state after
unfolding after_line
line_one state after number line leads = says_one (says_nothing line) state after number line leads

left_same : (left : Option ℕ) (state after : State) → unless_left left state ≡ Ok after → length after.lines ≤ length state.lines
unfolding unless_left
left_same None state after leads = let same : state ≡ after = cc in omega (arith, ap (λ (s : State). length s.lines) same)
left_same (Some line) state after leads = absurd cc

end_same : (state after : State) → at_end state ≡ Ok after → length after.lines ≤ length state.lines
unfolding at_end
end_same state after leads = left_same (first_left state None 1 state.writers) state after leads

then_few : (middle : Result State Reason) (state after : State) (number count : ℕ) (line : List ℕ) (others : State → Result State (ℕ × Reason))
    → after_line state number line ≡ middle
    → ((next : State) → others next ≡ Ok after → length after.lines ≤ length next.lines + count)
    → and_then number middle others ≡ Ok after → length after.lines ≤ length state.lines + (1 + count)
unfolding and_then
then_few (Ok next) state after number count line others is again leads =
    omega (arith, line_one state next number line is, again next leads)
then_few (Err reason) state after number count line others is again leads = absurd cc

lines_few : (lines : List (List ℕ)) (state after : State) (number : ℕ) → after_lines state number lines ≡ Ok after
    → length after.lines ≤ length state.lines + length lines
unfolding after_lines
lines_few [] state after number leads = omega (arith, end_same state after leads)
lines_few ([] ∷ []) state after number leads = omega (arith, end_same state after leads)
lines_few ((byte ∷ bytes) ∷ []) state after number leads = absurd cc
lines_few (line ∷ next ∷ others) state after number leads =
    let more = then_few (after_line state number line) state after number (length (next ∷ others)) line
    (λ middle. after_lines middle (number + 1) (next ∷ others)) refl
    (λ middle goes. lines_few (next ∷ others) middle after (number + 1) goes) leads in
    omega (arith, more)

said_few : (outcome : Result State (ℕ × Reason)) (text : List ℕ) (parts : Parts) → state_after text ≡ outcome → said outcome ≡ Ok parts
    → length parts.lines ≤ length (pieces 10 text)
unfolding said state_after
said_few (Ok state) text parts is same =
    let lines_are : parts_said state ≡ parts = cc in
    let few = lines_few (pieces 10 text) beginning state 1 is in
    omega (arith, few, ap (λ (p : Parts). length p.lines) lines_are)
said_few (Err fault) text parts is same = absurd cc

scenario_few : (scenario : Scenario) (is : IsScenario scenario) → length scenario.lines ≤ length (pieces 10 is.text)
unfolding scenario_of
scenario_few scenario is = said_few (state_after is.text) is.text (parts_of scenario) refl is.said_by

-- ---- every scenario

pub pieces_few : (test : ℕ → Bool) (bytes : List ℕ) → length (slice_split test bytes) ≤ length bytes + 1
pieces_few test bytes = omega (arith, length-slice_split test bytes, count_by-le-length test bytes)

pub scenario_is_short : (scenario : Scenario) → IsScenario scenario → AreShort scenario.lines
scenario_is_short scenario is =
    let end =
    scenario_holds AreCounted (λ state number line form formed none counted. counted_keeps state number line form none counted)
    (record { sum_is = refl; most = omega arith }) scenario is in
    record {
      few = omega (arith, is.short, scenario_few scenario is, pieces_few (λ b. nat_eq b 10) is.text);
      short = subst (λ (parts : Parts). lines_len parts.lines ≤ MAX_SCENARIO_PACKET_BYTES) end.says
          (omega (arith, end.holds.sum_is, end.holds.most));
    }
