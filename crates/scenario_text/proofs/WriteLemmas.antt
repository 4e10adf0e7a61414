-- What becomes of a line that a writer is given.
use Rattle.std.proofs.Common.{◌≡◌, ℕ, ◌+◌, ◌^◌, ◌<◌, ◌≤◌, nat_eq, nat_lt, nat_le, Bool, true, false, cond, not, ◌&&◌, List, [], ◌∷◌, ◌++◌, Option, Some, None, Result, Ok, Err, refl, ◌∙◌, arith}
use Rattle.std.proofs.lemmas.Grind.{common_steps}
use Rattle.trace_base.specs.declared.limits.TheConstants.{MAX_FIELD, MAX_NESTING, MAX_PACKET_LEN, MAX_SCENARIO_PACKET_BYTES}
use Rattle.trace_base.specs.Reserved.{is_reserved}
use Rattle.field_tree.specs.declared.fault.FieldFault.{FieldFault}
use Rattle.field_tree.specs.declared.fault.FieldFault.TheVariants as faults
use Rattle.field_tree.specs.Nodes.{Shown}
use Rattle.trace_base.specs.declared.numeral.Numeral.{Numeral}
use Rattle.trace_base.specs.declared.numeral.Numeral.TheVariants.{Fits, TooLarge}
use Rattle.scenario_text.specs.declared.form.Form.{Form}
use Rattle.scenario_text.specs.declared.form.Form.TheVariants.{OfWriter}
use Rattle.scenario_text.specs.declared.form.WriterStep.{WriterStep}
use Rattle.scenario_text.specs.declared.form.WriterStep.TheVariants.{Packet, Begin, Add, Nest, Unnest, End, Flush}
use Rattle.scenario_text.specs.declared.open_packet.OpenPacket.{OpenPacket}
use Rattle.scenario_text.specs.declared.reason.Reason.{Reason}
use Rattle.scenario_text.specs.declared.reason.Reason.TheVariants as reasons
use Rattle.scenario_text.specs.Ranges.{is_within, value}
use Rattle.scenario_text.specs.State.{State, packet_of, nesting_of, len_of}
use Rattle.scenario_text.specs.Sound.{is_shallow}
use Rattle.scenario_text.specs.Reasons.{first, when, front_reasons, back_reasons, refusal_of, given, given_by, nested, before_fields, bad_field, reserved_field, too_deep, too_long, too_many_bytes, len_before, step_len}
use Rattle.scenario_text.specs.Effects.{moved, packet_after, written, FieldFits}
use Rattle.scenario_text.specs.Grammar.{after_form, unless}
use Rattle.scenario_text.specs.Answers.{reason_given, fault_reason}
use Rattle.scenario_text.proofs.SoundLemmas.{both}

first-append : (front back : List (Option Reason)) → first front ≡ None → first (front ++ back) ≡ first back
first-append [] back none = refl
first-append (None ∷ front) back none = first-append front back none
first-append (Some reason ∷ front) back none = cc

pub first-append_some : (front back : List (Option Reason)) (reason : Reason) → first front ≡ Some reason
    → first (front ++ back) ≡ Some reason
first-append_some [] back reason is = cc
first-append_some (None ∷ front) back reason is = first-append_some front back reason is
first-append_some (Some other ∷ front) back reason is = is

-- a line for a writer, once no reason of the front holds
pub back_left : (state : State) (line : List ℕ) (form : Form) → first (front_reasons state form) ≡ None
    → refusal_of state line form ≡ first (back_reasons state line form)
unfolding refusal_of
back_left state line form none = first-append (front_reasons state form) (back_reasons state line form) none

fault_first : (before len bytes : ℕ) (writer : Numeral) (step : WriterStep) (fault : FieldFault)
    → first (bad_field before (Err fault) ∷ reserved_field (Err fault) ∷ too_deep (Err fault)
    ∷ too_long len (OfWriter writer step) (Err fault) ∷ too_many_bytes bytes (OfWriter writer step) (Err fault) ∷ [])
    ≡ Some (fault_reason before fault)
unfolding fault_reason
fault_first before len bytes writer step (faults.BadField column) = refl
fault_first before len bytes writer step (faults.Reserved field) = refl
fault_first before len bytes writer step faults.TooDeep = refl
fault_first before len bytes writer step faults.PacketTooLong = refl

by_fault : (state : State) (line : List ℕ) (writer : Numeral) (step : WriterStep) (fault : FieldFault)
    → given_by (nesting_of (packet_of state writer)) line step ≡ Err fault
    → first (back_reasons state line (OfWriter writer step)) ≡ Some (fault_reason (before_fields line) fault)
unfolding back_reasons given
by_fault state line writer step fault is =
    rw is (fault_first (before_fields line) (len_before state (OfWriter writer step)) state.bytes writer step fault)

by_reason : (state : State) (number : ℕ) (line : List ℕ) (writer : Numeral) (step : WriterStep) (reason : Reason)
    → first (front_reasons state (OfWriter writer step)) ≡ None
    → first (back_reasons state line (OfWriter writer step)) ≡ Some reason
    → after_form state number line (Some (OfWriter writer step)) ≡ Err reason
unfolding after_form unless
by_reason state number line writer step reason none is =
    rw (back_left state line (OfWriter writer step) none, is) refl

refused_with : (given : Result (List Shown) FieldFault) (state : State) (number : ℕ) (line : List ℕ) (writer : Numeral) (step : WriterStep) (reason : Reason)
    → first (front_reasons state (OfWriter writer step)) ≡ None
    → given_by (nesting_of (packet_of state writer)) line step ≡ given
    → reason_given (before_fields line) given ≡ Some reason
    → after_form state number line (Some (OfWriter writer step)) ≡ Err reason
unfolding reason_given
refused_with (Ok nodes) state number line writer step reason none is fault = cc
refused_with (Err fault) state number line writer step reason none is said =
    by_reason state number line writer step reason none (by_fault state line writer step fault is ∙ said)

-- its FIELDS are at fault
pub refused_by_fields : (state : State) (number : ℕ) (line : List ℕ) (writer : Numeral) (step : WriterStep) (reason : Reason)
    → first (front_reasons state (OfWriter writer step)) ≡ None
    → reason_given (before_fields line) (given_by (nesting_of (packet_of state writer)) line step) ≡ Some reason
    → after_form state number line (Some (OfWriter writer step)) ≡ Err reason
refused_by_fields state number line writer step reason none said =
    refused_with (given_by (nesting_of (packet_of state writer)) line step) state number line writer step reason none refl said

-- the reasons where the FIELDS are read
lengths_left : (state : State) (line : List ℕ) (writer : Numeral) (step : WriterStep) (nodes : List Shown)
    → given_by (nesting_of (packet_of state writer)) line step ≡ Ok nodes
    → first (back_reasons state line (OfWriter writer step))
    ≡ first (when (nat_lt MAX_PACKET_LEN (len_of (packet_of state writer) + step_len step nodes)) reasons.PacketTooLong
    ∷ when (nat_lt MAX_SCENARIO_PACKET_BYTES (state.bytes + step_len step nodes)) reasons.TooManyBytes ∷ [])
unfolding back_reasons given len_before
lengths_left state line writer step nodes is = rw is refl

-- it makes its packet too long
pub refused_as_too_long : (state : State) (number : ℕ) (line : List ℕ) (writer : Numeral) (step : WriterStep) (nodes : List Shown) (added : ℕ)
    → first (front_reasons state (OfWriter writer step)) ≡ None
    → given_by (nesting_of (packet_of state writer)) line step ≡ Ok nodes
    → added ≡ step_len step nodes
    → MAX_PACKET_LEN < len_of (packet_of state writer) + added
    → after_form state number line (Some (OfWriter writer step)) ≡ Err reasons.PacketTooLong
refused_as_too_long state number line writer step nodes added none is len long =
    let past : nat_lt MAX_PACKET_LEN (len_of (packet_of state writer) + step_len step nodes) ≡ true =
    grind (arith, common_steps, long, len) in
    by_reason state number line writer step reasons.PacketTooLong none
    (lengths_left state line writer step nodes is ∙ rw past refl)

-- it makes all packets too long
pub refused_as_too_many : (state : State) (number : ℕ) (line : List ℕ) (writer : Numeral) (step : WriterStep) (nodes : List Shown) (added : ℕ)
    → first (front_reasons state (OfWriter writer step)) ≡ None
    → given_by (nesting_of (packet_of state writer)) line step ≡ Ok nodes
    → added ≡ step_len step nodes
    → len_of (packet_of state writer) + added ≤ MAX_PACKET_LEN
    → MAX_SCENARIO_PACKET_BYTES < state.bytes + added
    → after_form state number line (Some (OfWriter writer step)) ≡ Err reasons.TooManyBytes
refused_as_too_many state number line writer step nodes added none is len short long =
    let within : nat_lt MAX_PACKET_LEN (len_of (packet_of state writer) + step_len step nodes) ≡ false =
    grind (arith, common_steps, short, len) in
    let past : nat_lt MAX_SCENARIO_PACKET_BYTES (state.bytes + step_len step nodes) ≡ true =
    grind (arith, common_steps, long, len) in
    by_reason state number line writer step reasons.TooManyBytes none
    (lengths_left state line writer step nodes is ∙ rw (within, past) refl)

-- it is taken
pub taken : (state : State) (number : ℕ) (line : List ℕ) (writer : Numeral) (step : WriterStep) (nodes : List Shown) (added : ℕ)
    → first (front_reasons state (OfWriter writer step)) ≡ None
    → given_by (nesting_of (packet_of state writer)) line step ≡ Ok nodes
    → added ≡ step_len step nodes
    → len_of (packet_of state writer) + added ≤ MAX_PACKET_LEN
    → state.bytes + added ≤ MAX_SCENARIO_PACKET_BYTES
    → after_form state number line (Some (OfWriter writer step)) ≡ Ok (written state number writer step nodes added)
unfolding after_form unless given moved
taken state number line writer step nodes added none is len short few =
    let within : nat_lt MAX_PACKET_LEN (len_of (packet_of state writer) + step_len step nodes) ≡ false =
    grind (arith, common_steps, short, len) in
    let less : nat_lt MAX_SCENARIO_PACKET_BYTES (state.bytes + step_len step nodes) ≡ false =
    grind (arith, common_steps, few, len) in
    let no : refusal_of state line (OfWriter writer step) ≡ None =
    back_left state line (OfWriter writer step) none ∙ (lengths_left state line writer step nodes is ∙ rw (within, less) refl) in
    rw (no, is, len) refl

-- ---- nested messages

nested_inside : (low reserved deep : Bool) (depth : ℕ) (field : Numeral) (nodes : List Shown)
    → is_within 1 MAX_FIELD field ≡ low → nat_le MAX_NESTING depth ≡ deep
    → cond (not low) (Err (faults.BadField 1)) (cond reserved (Err (faults.Reserved (value field))) (cond deep (Err faults.TooDeep) (Ok []))) ≡ Ok nodes
    → (is_within 1 MAX_FIELD field ≡ true) × (depth < MAX_NESTING)
nested_inside true true deep depth field nodes low_is deep_is given = cc
nested_inside true false true depth field nodes low_is deep_is given = cc
nested_inside true false false depth field nodes low_is deep_is given = (low_is, grind (arith, common_steps, deep_is))
nested_inside false reserved deep depth field nodes low_is deep_is given = cc

of_nested : (depth : ℕ) (field : Numeral) (nodes : List Shown) → nested depth field ≡ Ok nodes
    → (is_within 1 MAX_FIELD field ≡ true) × (depth < MAX_NESTING)
unfolding nested
of_nested depth field nodes given =
    nested_inside _ (nat_eq depth 0 && is_reserved (value field)) _ depth field nodes refl refl given

nested_fits : (field : Numeral) → is_within 1 MAX_FIELD field ≡ true → value field < 2 ^ 32
unfolding is_within value
nested_fits (Fits n) h =
    let most : n ≤ MAX_FIELD = grind (arith, common_steps, (both (nat_le 1 n) (nat_le n MAX_FIELD) h).1) in
    omega arith
nested_fits TooLarge h = cc

-- its field can be counted
pub field_fits : (depth : ℕ) (line : List ℕ) (step : WriterStep) (nodes : List Shown) → given_by depth line step ≡ Ok nodes → FieldFits step
unfolding given_by
field_fits depth line (Packet has_fields) nodes is = tt
field_fits depth line Begin nodes is = tt
field_fits depth line Add nodes is = tt
field_fits depth line (Nest field) nodes is = nested_fits field (of_nested depth field nodes is).0
field_fits depth line Unnest nodes is = tt
field_fits depth line End nodes is = tt
field_fits depth line Flush nodes is = tt

-- so many messages may still be open in its packet
pub still_shallow : (number : ℕ) (packet : Option OpenPacket) (line : List ℕ) (step : WriterStep) (nodes : List Shown) (added : ℕ)
    → nesting_of packet ≤ MAX_NESTING → given_by (nesting_of packet) line step ≡ Ok nodes
    → is_shallow (packet_after number packet step added) ≡ true
unfolding given_by is_shallow packet_after nesting_of
still_shallow number None line (Packet has_fields) nodes added within is = refl
still_shallow number (Some packet) line (Packet has_fields) nodes added within is = grind (arith, common_steps, within)
still_shallow number packet line Begin nodes added within is = refl
still_shallow number None line Add nodes added within is = refl
still_shallow number (Some packet) line Add nodes added within is = grind (arith, common_steps, within)
still_shallow number None line (Nest field) nodes added within is = refl
still_shallow number (Some packet) line (Nest field) nodes added within is =
    let more = (of_nested packet.depth field nodes is).1 in
    grind (arith, common_steps, more)
still_shallow number None line Unnest nodes added within is = refl
still_shallow number (Some packet) line Unnest nodes added within is = grind (arith, common_steps, within)
still_shallow number packet line End nodes added within is = refl
still_shallow number None line Flush nodes added within is = refl
still_shallow number (Some packet) line Flush nodes added within is = grind (arith, common_steps, within)
