-- What a writer is asked for it accepts, and behind it what comes next.
use Rattle.std.proofs.Common.{◌≡◌, ◌∙◌, ℕ, zero, suc, ◌+◌, ◌<◌, ◌≤◌, ◌==◌, ◌&&◌, nat_lt, Bool, true, false, Option, None, List, [], ◌∷◌, ◌++◌, length, refl, sym, ap, subst, append_assoc, arith}
use Rattle.std.specs.Prelude.{if◌then◌else◌}
use Rattle.std.proofs.lemmas.Bool.{ne_eqb, le-ltb}
use Rattle.std.proofs.lemmas.Grind.{fold-append}
use Rattle.trace_base.specs.declared.limits.TheConstants.{MAX_NESTING, MAX_PACKET_LEN}
use Rattle.trace_base.specs.declared.policy.WriterPolicy.{WriterPolicy}
use Rattle.trace_base.specs.declared.policy.WriterPolicy.TheVariants.{Drops, Stalls, StallsThenDrops}
use Rattle.trace_base.specs.Reserved.{is_reserved}
use Rattle.trace_model.specs.Calls.{Call, Begun, Number, Bytes, Nested}
use Rattle.trace_model.specs.Encoding.{nested_tag}
use Rattle.trace_model.specs.Enough.{most_chunks}
use Rattle.trace_model.specs.Packets.{Account, AreCalls, nothing_yet, noted, packets_of, emissions_of, is_writing, open_count, newest_length}
use Rattle.model_laws.specs.Losses.{Loses, HasShapeOf, written_calls}
use Rattle.model_laws.proofs.LossLemmas.{losses_change_no_shape, written_append}
use Rattle.scenario_text.specs.Accepted.{AcceptsField, AreAccepted}
use Rattle.chunk_plain.specs.declared.tokens.TheConstants.{POSITION_LIMIT}
use Rattle.chunk_plain.specs.Views.{WriterView}
use Rattle.trace_writer.specs.declared.ids.TheConstants.{PACKET_IDS}
use Rattle.trace_writer.specs.declared.fault.CallFault.{CallFault}
use Rattle.trace_writer.specs.Asked.{written_as, begun_as}
use Rattle.trace_writer.specs.Helping.{loses}
use Rattle.trace_writer.specs.Core.{in_packet, newest_depth, open_depth, field_fault, nested_fault}
use Rattle.trace_writer.proofs.accounts.Possible.{open_many}
use Rattle.trace_writer.specs.Refusals.{field_refusal, nested_refusal}
use Rattle.replay_host.specs.Asking.{IsReadyFor}

-- ---- refusals

-- a field is free to come at this depth
abbrev IsFree : (depth field : ℕ) → Type 0
IsFree depth field = depth ≡ 0 → is_reserved field ≡ false

free_is : (depth field : ℕ) → IsFree depth field → ((depth == 0) && is_reserved field) ≡ false
free_is zero field free = free refl
free_is (suc depth) field free = ap (λ (b : Bool). b && is_reserved field) (ne_eqb (suc depth) 0 (λ same. omega (arith, same)))

choice_false : (b : Bool) (x y : Option CallFault) → b ≡ false → (if b then x else y) ≡ y
choice_false b x y is = ap (λ (c : Bool). if c then x else y) is

field_none : (depth len field more : ℕ) → IsFree depth field → len + more ≤ MAX_PACKET_LEN → field_refusal depth len field more ≡ None
field_none depth len field more free short =
    choice_false ((depth == 0) && is_reserved field) _ _ (free_is depth field free)
    ∙ choice_false (nat_lt MAX_PACKET_LEN (len + more)) _ _ (le-ltb MAX_PACKET_LEN (len + more) short)

nested_none : (depth len field tag : ℕ) → IsFree depth field → depth < MAX_NESTING → len + (tag + 4) ≤ MAX_PACKET_LEN → nested_refusal depth len field tag ≡ None
nested_none depth len field tag free shallow short =
    choice_false ((depth == 0) && is_reserved field) _ _ (free_is depth field free)
    ∙ choice_false (depth == MAX_NESTING) _ _ (ne_eqb depth MAX_NESTING (λ same. omega (arith, same, shallow)))
    ∙ choice_false (nat_lt MAX_PACKET_LEN (len + (tag + 4))) _ _ (le-ltb MAX_PACKET_LEN (len + (tag + 4)) short)

-- ---- the packet as it stands, by what was asked

module _ (asked : List Call) (view : WriterView) (loses : Loses asked view.calls) where
  shape : HasShapeOf asked view.calls
  shape = losses_change_no_shape asked view.calls loses

  pub writing_is : is_writing (packets_of asked) ≡ true → in_packet view ≡ true
  writing_is writes = shape.writing ∙ writes

  pub between_is : is_writing (packets_of asked) ≡ false → in_packet view ≡ false
  between_is between = shape.writing ∙ between

  pub depth_is : is_writing (packets_of asked) ≡ true → open_count (packets_of asked) ≡ newest_depth (packets_of view.calls) + 1
  depth_is writes = sym shape.depth ∙ open_many view.calls (packets_of view.calls) refl (writing_is writes)

  free_here : (field more : ℕ) → AcceptsField (packets_of asked) field more → IsFree (newest_depth (packets_of view.calls)) field
  free_here field more accepts none = accepts.free (let many = depth_is accepts.begun in omega (arith, many, none))

  short_here : (field more : ℕ) → AcceptsField (packets_of asked) field more → newest_length (packets_of view.calls) + more ≤ MAX_PACKET_LEN
  short_here field more accepts =
      let long = shape.long in
      let short = accepts.short in
      omega (arith, long, short)

  pub field_accepted : (field more : ℕ) → AcceptsField (packets_of asked) field more → field_fault view field more ≡ None
  field_accepted field more accepts =
      field_none (newest_depth (packets_of view.calls)) (newest_length (packets_of view.calls)) field more (free_here field more accepts) (short_here field more accepts)

  pub nested_accepted : (field : ℕ) → AcceptsField (packets_of asked) field (length (nested_tag field) + 4) → open_count (packets_of asked) ≤ MAX_NESTING
      → nested_fault view field ≡ None
  nested_accepted field accepts shallow =
      nested_none (newest_depth (packets_of view.calls)) (newest_length (packets_of view.calls)) field (length (nested_tag field))
      (free_here field (length (nested_tag field) + 4) accepts)
      (let many = depth_is accepts.begun in omega (arith, many, shallow))
      (short_here field (length (nested_tag field) + 4) accepts)

  pub deep_here : is_writing (packets_of asked) ≡ true → 1 < open_count (packets_of asked) → 0 < open_depth view
  deep_here writes deep =
      let is : open_depth view ≡ newest_depth (packets_of view.calls) = ap (λ (b : Bool). if b then newest_depth (packets_of view.calls) else 0) (writing_is writes) in
      let many = depth_is writes in omega (arith, is, many, deep)

  pub shallow_here : is_writing (packets_of asked) ≡ true → open_count (packets_of asked) ≡ 1 → open_depth view ≡ 0
  shallow_here writes one =
      let is : open_depth view ≡ newest_depth (packets_of view.calls) = ap (λ (b : Bool). if b then newest_depth (packets_of view.calls) else 0) (writing_is writes) in
      let many = depth_is writes in omega (arith, is, many, one)

-- ---- what comes next

-- the calls that were noted are the one that was asked, with its packet lost or not
abbrev pub NotesFor : Call → List Call → Type 0
NotesFor call done = written_calls done ≡ written_calls (call ∷ [])

pub loses_more : (asked : List Call) (old new : WriterView) (call : Call) (done : List Call) → Loses asked old.calls
    → new.calls ≡ old.calls ++ done → NotesFor call done → Loses (asked ++ call ∷ []) new.calls
loses_more asked old new call done loses notes is =
    ap written_calls notes ∙ written_append old.calls done ∙ ap (λ (cs : List Call). cs ++ written_calls done) loses
    ∙ ap (λ (cs : List Call). written_calls asked ++ cs) is ∙ sym (written_append asked (call ∷ []))

pub ready_behind : (size : ℕ) (old new : WriterView) (call : Call) (coming done : List Call) → IsReadyFor size old (call ∷ coming)
    → new.calls ≡ old.calls ++ done → NotesFor call done → IsReadyFor size new coming
ready_behind size old new call coming done ready notes is = record {
  asked = ready.asked ++ call ∷ [];
  loses = loses_more ready.asked old new call done ready.loses notes is;
  accepted = subst (λ (a : Account). AreAccepted a coming) (sym (fold-append noted nothing_yet ready.asked (call ∷ []))) ready.accepted.1;
  possible = subst AreCalls (sym (append_assoc ready.asked (call ∷ []) coming)) ready.possible;
  few = subst (λ (cs : List Call). most_chunks size (emissions_of cs) + PACKET_IDS ≤ POSITION_LIMIT) (sym (append_assoc ready.asked (call ∷ []) coming)) ready.few;
}

-- a view with the same calls is ready for the same
pub ready_still : (size : ℕ) (old new : WriterView) (coming : List Call) → new.calls ≡ old.calls → IsReadyFor size old coming → IsReadyFor size new coming
ready_still size old new coming same ready = record {
  asked = ready.asked;
  loses = ap written_calls same ∙ ready.loses;
  accepted = ready.accepted;
  possible = ready.possible;
  few = ready.few;
}

pub notes_begun : (stopped : Bool) (policy : WriterPolicy) → (stopped ≡ true → loses policy ≡ true) → NotesFor (Begun true) (begun_as stopped policy)
notes_begun false policy only = refl
notes_begun true Drops only = refl
notes_begun true Stalls only = absurd (let never : false ≡ true = only refl in cc)
notes_begun true (StallsThenDrops tries) only = refl

pub notes_number : (stopped : Bool) (policy : WriterPolicy) (field value : ℕ) → NotesFor (Number field value) (written_as stopped policy (Number field value))
notes_number false policy field value = refl
notes_number true Drops field value = refl
notes_number true Stalls field value = refl
notes_number true (StallsThenDrops tries) field value = refl

pub notes_bytes : (stopped : Bool) (policy : WriterPolicy) (field times : ℕ) (text : List ℕ) → NotesFor (Bytes field text times) (written_as stopped policy (Bytes field text times))
notes_bytes false policy field times text = refl
notes_bytes true Drops field times text = refl
notes_bytes true Stalls field times text = refl
notes_bytes true (StallsThenDrops tries) field times text = refl

pub notes_nested : (stopped : Bool) (policy : WriterPolicy) (field : ℕ) → NotesFor (Nested field) (written_as stopped policy (Nested field))
notes_nested false policy field = refl
notes_nested true Drops field = refl
notes_nested true Stalls field = refl
notes_nested true (StallsThenDrops tries) field = refl
