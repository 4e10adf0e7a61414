-- One line with a whole packet, of a writer that has begun none and whose producer is open.
use Rattle.std.proofs.Common.{◌≡◌, ℕ, ◌+◌, ◌-◌, ◌^◌, ◌<◌, ◌≤◌, nat_eq, Bool, true, false, cond, Some, None, Ok, List, [], ◌∷◌, ◌++◌, slice_get, slice_set, refl, sym, ap, ◌∙◌, arith}
use Rattle.std.specs.Prelude.{codes}
use Rattle.std.specs.Fmt.{decimal}
use Rattle.std.proofs.lemmas.List.{set-get_or}
use Rattle.std.proofs.lemmas.Option.{get_or_from_slice_get}
use Rattle.trace_base.specs.declared.limits.TheConstants.{MAX_SCENARIO_PACKET_BYTES}
use Rattle.trace_base.specs.declared.policy.WriterSpec.{WriterSpec}
use Rattle.field_tree.specs.Nodes.{Shown, nodes_of}
use Rattle.field_tree.specs.Judged.{nodes_len}
use Rattle.field_tree.specs.Answers.{outcome}
use Rattle.field_tree.proofs.NodeLaws.{nodes_len_tree}
use Rattle.trace_base.specs.declared.numeral.Numeral.TheVariants.{Fits}
use Rattle.scenario_text.specs.declared.form.Form.TheVariants.{OfWriter}
use Rattle.scenario_text.specs.declared.form.WriterStep.TheVariants.{Packet}
use Rattle.scenario_text.specs.declared.scenario.LineKind.TheVariants as kinds
use Rattle.scenario_text.specs.Pieces.{pieces, pieces_behind, behind_space, fields_part}
use Rattle.scenario_text.specs.Forms.{form_of, with_number, long_form, form_of_words}
use Rattle.scenario_text.specs.Items.{item, with_item}
use Rattle.scenario_text.specs.Ranges.{value}
use Rattle.scenario_text.specs.State.{State, is_closed, packet_of, nesting_of, len_of}
use Rattle.scenario_text.specs.Reasons.{first, front_reasons, given_by, step_len}
use Rattle.scenario_text.specs.Effects.{writer_kind, packet_after, with_line, with_packet, with_bytes, written}
use Rattle.scenario_text.specs.Grammar.{says_nothing, after_form, after_line}
use Rattle.scenario_text.proofs.FormLemmas.{several_words}
use Rattle.scenario_text.proofs.WriteLemmas.{taken}
use Rattle.scenario_text.proofs.PacketLemmas.{front_passed}
use Rattle.workload_laws.proofs.CutLemmas.{lacks_decimal, pieces-at, behind_space_at}
use Rattle.trace_base.proofs.DecimalLemmas.{numeral_read}
use Rattle.workload_laws.proofs.FieldsLemmas.{packet_tree, fields_text, AreNumbers, packet_read, packet_len_any}

-- ---- its words

-- `p W FIELDS`
abbrev pub packet_text : ℕ → List ℕ → List ℕ
packet_text writer fields = codes "p " ++ (decimal writer ++ (codes " " ++ fields))

packet_pieces : (writer : ℕ) (fields : List ℕ) → writer < 2 ^ 64
    → pieces 32 (packet_text writer fields) ≡ codes "p" ∷ decimal writer ∷ pieces 32 fields
packet_pieces writer fields small =
    pieces-at 32 (codes "p") (decimal writer ++ (codes " " ++ fields)) refl
    ∙ ap (λ (others : List (List ℕ)). codes "p" ∷ others) (pieces-at 32 (decimal writer) fields (lacks_decimal 32 writer (omega arith) small))

packet_words : (word : List ℕ) (others : List (List ℕ)) → long_form (codes "p") word others ≡ with_number (λ w. Some (OfWriter w (Packet true))) word
unfolding long_form
packet_words word others = refl

number_word : (writer : ℕ) → writer < 2 ^ 64
    → with_number (λ w. Some (OfWriter w (Packet true))) (decimal writer) ≡ Some (OfWriter (Fits writer) (Packet true))
unfolding with_number
number_word writer small = rw (numeral_read writer small) refl

packet_form : (writer : ℕ) (fields : List ℕ) → writer < 2 ^ 64
    → form_of (packet_text writer fields) ≡ Some (OfWriter (Fits writer) (Packet true))
unfolding pieces_behind
packet_form writer fields small =
    ap form_of_words (packet_pieces writer fields small)
    ∙ several_words (codes "p") (decimal writer) fields
    ∙ packet_words (decimal writer) (pieces 32 fields)
    ∙ number_word writer small

packet_fields_part : (writer : ℕ) (fields : List ℕ) → writer < 2 ^ 64 → fields_part (packet_text writer fields) ≡ fields
unfolding fields_part
packet_fields_part writer fields small =
    ap behind_space (behind_space_at (codes "p") (decimal writer ++ (codes " " ++ fields)) refl)
    ∙ behind_space_at (decimal writer) fields (lacks_decimal 32 writer (omega arith) small)

-- ---- its writer

-- the writer is there, has begun no packet, and its producer is open
pub record IsFree (state : State) (writer : ℕ) : Type 0 where
  pub spec : WriterSpec
  pub there : item state.writers (Fits writer) ≡ Some spec
  pub opened : is_closed state (Fits spec.producer) ≡ false
  pub free : item state.packets (Fits writer) ≡ Some None

none_begun : (state : State) (writer : ℕ) → IsFree state writer → packet_of state (Fits writer) ≡ None
unfolding packet_of
none_begun state writer is = let free : item state.packets (Fits writer) ≡ Some None = is.free in rw free refl

front_none : (state : State) (writer : ℕ) → IsFree state writer → first (front_reasons state (OfWriter (Fits writer) (Packet true))) ≡ None
front_none state writer is = front_passed state writer is.spec is.there is.opened (none_begun state writer is)

-- ---- what it leads to

set_same : {X : Type 0} (things : List X) (i : ℕ) (thing : X) → slice_get things i ≡ Some thing → slice_set things i thing ≡ things
set_same things i thing is =
    ap (slice_set things i) (sym (get_or_from_slice_get things i thing thing is)) ∙ set-get_or things i thing

same_by : {X : Type 0} (zero_is : Bool) (things : List X) (i : ℕ) (thing : X) → cond zero_is None (slice_get things i) ≡ Some thing
    → cond zero_is things (slice_set things i thing) ≡ things
same_by true things i thing is = refl
same_by false things i thing is = set_same things i thing is

with_same : {X : Type 0} (things : List X) (n : ℕ) (thing : X) → item things (Fits n) ≡ Some thing → with_item things (Fits n) thing ≡ things
unfolding item with_item
with_same things n thing is = same_by (nat_eq n 0) things (n - 1) thing is

-- the state with a packet's line more
abbrev pub with_packet_line : State → ℕ → ℕ → List Shown → State
with_packet_line state number writer nodes = record state {
  lines = state.lines ++ (record { line = number; what = kinds.Packet writer nodes }) ∷ [];
  bytes = state.bytes + nodes_len nodes;
}

written_is : (state : State) (number writer : ℕ) (nodes : List Shown) → IsFree state writer
    → written state number (Fits writer) (Packet true) nodes (nodes_len nodes) ≡ with_packet_line state number writer nodes
unfolding written with_bytes with_packet with_line writer_kind value packet_after
written_is state number writer nodes is =
    let none : packet_of state (Fits writer) ≡ None = none_begun state writer is in
    let same : with_item state.packets (Fits writer) None ≡ state.packets = with_same state.packets writer None is.free in
    rw (none, same) refl

packet_form_leads : (state : State) (number writer : ℕ) (line : List ℕ) (nodes : List Shown) → IsFree state writer
    → outcome 0 (fields_part line) ≡ Ok nodes → nodes_len nodes ≤ 42 → state.bytes + nodes_len nodes ≤ MAX_SCENARIO_PACKET_BYTES
    → after_form state number line (Some (OfWriter (Fits writer) (Packet true))) ≡ Ok (with_packet_line state number writer nodes)
unfolding given_by step_len nesting_of len_of
packet_form_leads state number writer line nodes is read short few =
    let none : packet_of state (Fits writer) ≡ None = none_begun state writer is in
    let given : given_by (nesting_of (packet_of state (Fits writer))) line (Packet true) ≡ Ok nodes = rw none read in
    let len : len_of (packet_of state (Fits writer)) ≡ 0 = rw none refl in
    taken state number line (Fits writer) (Packet true) nodes (nodes_len nodes) (front_none state writer is) given refl (omega arith) few
    ∙ ap (λ (after : State). Ok after) (written_is state number writer nodes is)

-- a packet's line is taken, and gives its writer the packet of this tree
pub packet_leads : (state : State) (number writer time letter times turn : ℕ) → writer < 2 ^ 64 → AreNumbers time letter times turn
    → IsFree state writer → state.bytes + nodes_len (nodes_of (packet_tree time letter times turn)) ≤ MAX_SCENARIO_PACKET_BYTES
    → after_line state number (packet_text writer (fields_text time letter times turn))
    ≡ Ok (with_packet_line state number writer (nodes_of (packet_tree time letter times turn)))
unfolding after_line says_nothing
packet_leads state number writer time letter times turn small are is few =
    let fields = fields_text time letter times turn in
    let len : nodes_len (nodes_of (packet_tree time letter times turn)) ≤ 42 =
    omega (arith, nodes_len_tree (packet_tree time letter times turn), packet_len_any time letter times turn are) in
    ap (after_form state number (packet_text writer fields)) (packet_form writer fields small)
    ∙ packet_form_leads state number writer (packet_text writer fields) (nodes_of (packet_tree time letter times turn)) is
    (ap (outcome 0) (packet_fields_part writer fields small) ∙ packet_read time letter times turn are) len few
