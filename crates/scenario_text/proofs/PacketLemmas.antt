-- Lines `p W FIELDS` on their short way.
use Rattle.std.proofs.Common.{◌≡◌, ℕ, suc, zero, ◌+◌, ◌-◌, ◌*◌, ◌^◌, ◌<◌, ◌≤◌, nat_eq, nat_lt, Bool, true, false, cond, ◌&&◌, List, [], ◌∷◌, ◌++◌, Option, Some, None, Ok, Err, slice_get, slice_set, length, take, drop, get_or, refl, ap, subst, ◌∙◌, arith}
use Rattle.std.specs.Char.{is_ascii_digit}
use Rattle.std.specs.Option.{unwrap_or}
use Rattle.std.proofs.lemmas.List.{take_rest}
use Rattle.std.proofs.lemmas.Grind.{common_steps}
use Rattle.trace_base.specs.declared.limits.TheConstants.{MAX_PACKET_LEN, MAX_SCENARIO_PACKET_BYTES}
use Rattle.trace_base.specs.declared.policy.WriterSpec.{WriterSpec}
use Rattle.field_tree.specs.Answers.{outcome}
use Rattle.field_tree.specs.Nodes.{Shown}
use Rattle.trace_base.specs.declared.numeral.Numeral.TheVariants.{Fits}
use Rattle.scenario_text.specs.declared.form.Form.TheVariants.{OfWriter}
use Rattle.scenario_text.specs.declared.form.WriterStep.TheVariants.{Packet}
use Rattle.scenario_text.specs.declared.open_packet.OpenPacket.{OpenPacket}
use Rattle.scenario_text.specs.declared.reason.Reason.{Reason}
use Rattle.scenario_text.specs.declared.reason.Reason.TheVariants as reasons
use Rattle.scenario_text.specs.declared.scenario.LineKind.TheVariants as kinds
use Rattle.scenario_text.specs.Answers.{reason_given}
use Rattle.scenario_text.specs.Effects.{packet_after, with_bytes, with_line, with_packet, writer_kind, written}
use Rattle.scenario_text.specs.Forms.{long_form, with_number}
use Rattle.scenario_text.specs.Grammar.{after_form, after_line, says_nothing}
use Rattle.scenario_text.specs.Items.{item, with_item}
use Rattle.trace_base.specs.Numerals.{number_of, numeral_of, sized, sized_value, value_from}
use Rattle.scenario_text.specs.PacketLines.{IsPacketLine}
use Rattle.scenario_text.specs.Pieces.{pieces, pieces_behind, behind_space, fields_part}
use Rattle.scenario_text.specs.Ranges.{fits, value}
use Rattle.scenario_text.specs.Reasons.{before_fields, first, front_reasons, given_by, step_len, is_out_of_range, is_late, is_set_up, is_too_many, lacks_producer, lacks_buffer, lacks_writer, has_larger_chunks, has_closed_producer, is_closed_for, has_long_payload, meets_packet, wants_none, lacks_packet, lacks_nesting, leaves_nesting}
use Rattle.scenario_text.specs.State.{State, is_closed, is_played, packet_of, nesting_of, len_of}
use Rattle.scenario_text.proofs.FormLemmas.{several_words}
use Rattle.scenario_text.proofs.WriteLemmas as write

-- ---- what such a line says

digit_is : (digit : ℕ) → 48 ≤ digit → digit ≤ 57 → is_ascii_digit digit ≡ true
digit_is digit low high = grind (arith, common_steps, low, high)

no_space : (digit : ℕ) → 48 ≤ digit → nat_eq digit 32 ≡ false
no_space digit low = grind (arith, common_steps, low)

sized_is : (made number : ℕ) → made ≡ number → number < 100 → sized made ≡ Fits number
unfolding sized
sized_is made number is small =
    let fits : nat_lt number (2 ^ 64) ≡ true = grind (arith, common_steps, small) in
    rw (is, fits) refl

one_numeral : (ones : ℕ) → 49 ≤ ones → ones ≤ 57 → numeral_of (ones ∷ []) ≡ Some (Fits (ones - 48))
unfolding numeral_of number_of value_from sized_value
one_numeral ones low high =
    rw (digit_is ones (omega (arith, low)) high) (ap Some (sized_is (0 * 10 + (ones - 48)) (ones - 48) (omega arith) (omega (arith, high))))

two_numeral : (tens ones : ℕ) → 49 ≤ tens → tens ≤ 57 → 48 ≤ ones → ones ≤ 57
    → numeral_of (tens ∷ ones ∷ []) ≡ Some (Fits ((tens - 48) * 10 + (ones - 48)))
unfolding numeral_of number_of value_from sized_value
two_numeral tens ones low high from to =
    let first : nat_eq tens 48 ≡ false = grind (arith, common_steps, low) in
    rw (first, digit_is tens (omega (arith, low)) high, digit_is ones from to)
    (ap Some (sized_is ((0 * 10 + (tens - 48)) * 10 + (ones - 48)) ((tens - 48) * 10 + (ones - 48)) (omega arith) (omega (arith, high, to))))

packet_words : (second : List ℕ) (number : ℕ) (others : List (List ℕ)) → numeral_of second ≡ Some (Fits number)
    → long_form (112 ∷ []) second others ≡ Some (OfWriter (Fits number) (Packet true))
unfolding long_form with_number
packet_words second number others is = rw is refl

one_digit : (ones : ℕ) (fields : List ℕ) → 49 ≤ ones → ones ≤ 57
    → IsPacketLine (112 ∷ 32 ∷ ones ∷ 32 ∷ fields) (ones - 48) fields
unfolding says_nothing fields_part behind_space pieces_behind
one_digit ones fields low high =
    let other = no_space ones (omega (arith, low)) in
    record {
      says = refl;
      form = rw other (several_words (112 ∷ []) (ones ∷ []) fields
          ∙ packet_words (ones ∷ []) (ones - 48) (pieces 32 fields) (one_numeral ones low high));
      behind = rw other refl;
    }

two_digits : (tens ones : ℕ) (fields : List ℕ) → 49 ≤ tens → tens ≤ 57 → 48 ≤ ones → ones ≤ 57
    → IsPacketLine (112 ∷ 32 ∷ tens ∷ ones ∷ 32 ∷ fields) ((tens - 48) * 10 + (ones - 48)) fields
unfolding says_nothing fields_part behind_space pieces_behind
two_digits tens ones fields low high from to =
    let one = no_space tens (omega (arith, low)) in
    let two = no_space ones from in
    record {
      says = refl;
      form = rw (one, two) (several_words (112 ∷ []) (tens ∷ ones ∷ []) fields
          ∙ packet_words (tens ∷ ones ∷ []) ((tens - 48) * 10 + (ones - 48)) (pieces 32 fields) (two_numeral tens ones low high from to));
      behind = rw (one, two) refl;
    }

one_cut : (line : List ℕ) → 3 ≤ length line → get_or line 0 0 ≡ 112 → get_or line 1 0 ≡ 32 → 49 ≤ get_or line 2 0 → get_or line 2 0 ≤ 57
    → 1 ≤ length (drop 3 line) → get_or (drop 3 line) 0 0 ≡ 32 → IsPacketLine line (get_or line 2 0 - 48) (drop 1 (drop 3 line))
one_cut [] long p space low high some end = absurd (omega arith)
one_cut (a ∷ []) long p space low high some end = absurd (omega arith)
one_cut (a ∷ b ∷ []) long p space low high some end = absurd (omega arith)
one_cut (a ∷ b ∷ ones ∷ []) long p space low high some end = absurd (omega (arith, some))
one_cut (a ∷ b ∷ ones ∷ c ∷ fields) long p space low high some end = rw (p, space, end) (one_digit ones fields low high)

two_cut : (line : List ℕ) → 3 ≤ length line → get_or line 0 0 ≡ 112 → get_or line 1 0 ≡ 32 → 49 ≤ get_or line 2 0 → get_or line 2 0 ≤ 57
    → 2 ≤ length (drop 3 line) → 48 ≤ get_or (drop 3 line) 0 0 → get_or (drop 3 line) 0 0 ≤ 57 → get_or (drop 3 line) 1 0 ≡ 32
    → IsPacketLine line ((get_or line 2 0 - 48) * 10 + (get_or (drop 3 line) 0 0 - 48)) (drop 2 (drop 3 line))
two_cut [] long p space low high some from to end = absurd (omega arith)
two_cut (a ∷ []) long p space low high some from to end = absurd (omega arith)
two_cut (a ∷ b ∷ []) long p space low high some from to end = absurd (omega arith)
two_cut (a ∷ b ∷ tens ∷ []) long p space low high some from to end = absurd (omega (arith, some))
two_cut (a ∷ b ∷ tens ∷ ones ∷ []) long p space low high some from to end = absurd (omega (arith, some))
two_cut (a ∷ b ∷ tens ∷ ones ∷ c ∷ fields) long p space low high some from to end =
    rw (p, space, end) (two_digits tens ones fields low high from to)

-- what stands behind the first digit
abbrev rest_of : List ℕ → List ℕ
rest_of line = take (length line - 3) (drop 3 line)

pub one_at : (line : List ℕ) → 3 ≤ length line → get_or line 0 0 ≡ 112 → get_or line 1 0 ≡ 32 → 49 ≤ get_or line 2 0 → get_or line 2 0 ≤ 57
    → 1 ≤ length (rest_of line) → get_or (rest_of line) 0 0 ≡ 32
    → IsPacketLine line (get_or line 2 0 - 48) (take (length (rest_of line) - 1) (drop 1 (rest_of line)))
one_at line long p space low high some end =
    let all : rest_of line ≡ drop 3 line = take_rest line 3 in
    rw (take_rest (rest_of line) 1, all)
    (one_cut line long p space low high (subst (λ (rest : List ℕ). 1 ≤ length rest) all some)
    (subst (λ (rest : List ℕ). get_or rest 0 0 ≡ 32) all end))

pub two_at : (line : List ℕ) → 3 ≤ length line → get_or line 0 0 ≡ 112 → get_or line 1 0 ≡ 32 → 49 ≤ get_or line 2 0 → get_or line 2 0 ≤ 57
    → 2 ≤ length (rest_of line) → 48 ≤ get_or (rest_of line) 0 0 → get_or (rest_of line) 0 0 ≤ 57 → get_or (rest_of line) 1 0 ≡ 32
    → IsPacketLine line ((get_or line 2 0 - 48) * 10 + (get_or (rest_of line) 0 0 - 48)) (take (length (rest_of line) - 2) (drop 2 (rest_of line)))
two_at line long p space low high some from to end =
    let all : rest_of line ≡ drop 3 line = take_rest line 3 in
    rw (take_rest (rest_of line) 2, all)
    (two_cut line long p space low high (subst (λ (rest : List ℕ). 2 ≤ length rest) all some)
    (subst (λ (rest : List ℕ). 48 ≤ get_or rest 0 0) all from)
    (subst (λ (rest : List ℕ). get_or rest 0 0 ≤ 57) all to)
    (subst (λ (rest : List ℕ). get_or rest 1 0 ≡ 32) all end))

-- what it leads to
pub packet_form : (state : State) (number : ℕ) (line : List ℕ) (writer : ℕ) (fields : List ℕ) → IsPacketLine line writer fields
    → after_line state number line ≡ after_form state number line (Some (OfWriter (Fits writer) (Packet true)))
unfolding after_line
packet_form state number line writer fields is = rw (is.says, is.form) refl

-- ---- no reason of the front holds

and_no : (test : Bool) → test && false ≡ false
and_no true = refl
and_no false = refl

pub front_passed : (state : State) (number : ℕ) (writer : WriterSpec) → item state.writers (Fits number) ≡ Some writer
    → is_closed state (Fits writer.producer) ≡ false → packet_of state (Fits number) ≡ None
    → first (front_reasons state (OfWriter (Fits number) (Packet true))) ≡ None
unfolding front_reasons is_out_of_range fits is_late is_set_up is_too_many lacks_producer lacks_buffer lacks_writer has_larger_chunks has_closed_producer is_closed_for has_long_payload meets_packet wants_none lacks_packet lacks_nesting leaves_nesting
front_passed state number writer named opened none = rw (and_no (is_played state), named, opened, none) refl

-- ---- the packet that is begun, and isn't before and behind

set_none : (packets : List (Option OpenPacket)) (i : ℕ) → unwrap_or (slice_get packets i) None ≡ None → slice_set packets i None ≡ packets
set_none [] i none = refl
set_none (first ∷ others) zero none = rw none refl
set_none (first ∷ others) (suc i) none = rw (set_none others i none) refl

none_at : (is : Bool) (packets : List (Option OpenPacket)) (i : ℕ) → unwrap_or (cond is None (slice_get packets i)) None ≡ None
    → cond is packets (slice_set packets i None) ≡ packets
none_at true packets i none = refl
none_at false packets i none = set_none packets i none

same_packets : (state : State) (number : ℕ) → packet_of state (Fits number) ≡ None → with_item state.packets (Fits number) None ≡ state.packets
unfolding packet_of item with_item
same_packets state number none = none_at (nat_eq number 0) state.packets (number - 1) none

pub written_packet : (state : State) (line number : ℕ) (nodes : List Shown) (added : ℕ) → packet_of state (Fits number) ≡ None
    → record state { lines = state.lines ++ (record { line = line; what = kinds.Packet number nodes }) ∷ []; bytes = state.bytes + added }
    ≡ written state line (Fits number) (Packet true) nodes added
unfolding written with_bytes with_packet with_line writer_kind packet_after value
written_packet state line number nodes added none = rw (none, same_packets state number none) refl

-- ---- its FIELDS

given_packet : (state : State) (line fields : List ℕ) (number : ℕ) → packet_of state (Fits number) ≡ None → fields ≡ fields_part line
    → given_by (nesting_of (packet_of state (Fits number))) line (Packet true) ≡ outcome 0 fields
unfolding given_by nesting_of
given_packet state line fields number none behind = rw (none, behind) refl

pub packet_refused : (state : State) (number : ℕ) (line fields : List ℕ) (writer before : ℕ) (reason : Reason)
    → first (front_reasons state (OfWriter (Fits writer) (Packet true))) ≡ None → packet_of state (Fits writer) ≡ None
    → fields ≡ fields_part line → before ≡ before_fields line → reason_given before (outcome 0 fields) ≡ Some reason
    → after_form state number line (Some (OfWriter (Fits writer) (Packet true))) ≡ Err reason
packet_refused state number line fields writer before reason front none behind place said =
    write.refused_by_fields state number line (Fits writer) (Packet true) reason front
    (rw (given_packet state line fields writer none behind, ← place) said)

pub packet_too_many : (state : State) (number : ℕ) (line fields : List ℕ) (writer : ℕ) (nodes : List Shown) (added : ℕ)
    → first (front_reasons state (OfWriter (Fits writer) (Packet true))) ≡ None → packet_of state (Fits writer) ≡ None
    → fields ≡ fields_part line → outcome 0 fields ≡ Ok nodes → added ≡ step_len (Packet true) nodes → added ≤ MAX_PACKET_LEN
    → MAX_SCENARIO_PACKET_BYTES < state.bytes + added
    → after_form state number line (Some (OfWriter (Fits writer) (Packet true))) ≡ Err reasons.TooManyBytes
unfolding len_of
packet_too_many state number line fields writer nodes added front none behind is len short long =
    write.refused_as_too_many state number line (Fits writer) (Packet true) nodes added front
    (given_packet state line fields writer none behind ∙ is) len (rw none (omega (arith, short))) long

pub packet_taken : (state : State) (number : ℕ) (line fields : List ℕ) (writer : ℕ) (nodes : List Shown) (added : ℕ)
    → first (front_reasons state (OfWriter (Fits writer) (Packet true))) ≡ None → packet_of state (Fits writer) ≡ None
    → fields ≡ fields_part line → outcome 0 fields ≡ Ok nodes → added ≡ step_len (Packet true) nodes → added ≤ MAX_PACKET_LEN
    → state.bytes + added ≤ MAX_SCENARIO_PACKET_BYTES
    → after_form state number line (Some (OfWriter (Fits writer) (Packet true))) ≡ Ok (written state number (Fits writer) (Packet true) nodes added)
unfolding len_of
packet_taken state number line fields writer nodes added front none behind is len short few =
    write.taken state number line (Fits writer) (Packet true) nodes added front
    (given_packet state line fields writer none behind ∙ is) len (rw none (omega (arith, short))) few
