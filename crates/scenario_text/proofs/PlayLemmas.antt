-- What becomes of a line that gives no packet anything.
use Rattle.std.proofs.Common.{◌≡◌, ℕ, List, [], Option, Some, None, Ok, Err, refl, ◌∙◌}
use Rattle.trace_base.specs.declared.policy.FullPolicy.{FullPolicy}
use Rattle.scenario_text.specs.declared.scenario.LineKind.TheVariants as kinds
use Rattle.scenario_text.specs.Ranges.{value}
use Rattle.trace_base.specs.declared.numeral.Numeral.{Numeral}
use Rattle.scenario_text.specs.declared.form.NamedPolicy.{NamedPolicy}
use Rattle.scenario_text.specs.declared.form.NamedRaw.{NamedRaw}
use Rattle.scenario_text.specs.declared.form.Form.{Form}
use Rattle.scenario_text.specs.declared.form.Form.TheVariants.{Buffer, Producer, Writer, OfWriter, OfProducer, Read, Request, CloneBuffer, Raw}
use Rattle.scenario_text.specs.declared.form.ProducerStep.{ProducerStep}
use Rattle.scenario_text.specs.declared.reason.Reason.{Reason}
use Rattle.scenario_text.specs.State.{State}
use Rattle.scenario_text.specs.Reasons.{first, front_reasons, back_reasons, refusal_of, given}
use Rattle.scenario_text.specs.Effects.{moved, with_clone, with_line, producer_kind, served, limit_of}
use Rattle.scenario_text.specs.Grammar.{after_form, unless}
use Rattle.scenario_text.specs.RawForms.{payload_part}
use Rattle.scenario_text.specs.RawChunks.{chunk_by}
use Rattle.scenario_text.proofs.WriteLemmas.{back_left, first-append_some}

-- a line that no writer is given
abbrev IsNoWriters : Form → Type 0
IsNoWriters (OfWriter writer step) = ⊥
IsNoWriters form = Unit {0}

nothing_back : (state : State) (line : List ℕ) (form : Form) → IsNoWriters form
    → (given state line form ≡ Ok []) × (first (back_reasons state line form) ≡ None)
unfolding given back_reasons
nothing_back state line (Buffer kb policy) other = (refl, refl)
nothing_back state line (Producer pages page_size chunks) other = (refl, refl)
nothing_back state line (Writer producer buffer policy from) other = (refl, refl)
nothing_back state line (OfWriter writer step) other = absurd other
nothing_back state line (OfProducer producer step) other = (refl, refl)
nothing_back state line (Read buffer limit) other = (refl, refl)
nothing_back state line Request other = (refl, refl)
nothing_back state line (CloneBuffer buffer) other = (refl, refl)
nothing_back state line (Raw raw) other = (refl, refl)

-- once no reason of the front holds it is taken
taken_as_it_is : (state : State) (number : ℕ) (line : List ℕ) (form : Form) → IsNoWriters form
    → first (front_reasons state form) ≡ None
    → after_form state number line (Some form) ≡ Ok (moved state number line form [])
unfolding after_form unless
taken_as_it_is state number line form other none =
    let nothing = nothing_back state line form other in
    let refusal : refusal_of state line form ≡ None = back_left state line form none ∙ nothing.1 in
    rw (refusal, nothing.0) refl

pub taken_buffer : (state : State) (number : ℕ) (line : List ℕ) (kb : Numeral) (policy : FullPolicy)
    → first (front_reasons state (Buffer kb policy)) ≡ None
    → after_form state number line (Some (Buffer kb policy)) ≡ Ok (moved state 0 [] (Buffer kb policy) [])
unfolding moved
taken_buffer state number line kb policy none = taken_as_it_is state number line (Buffer kb policy) tt none

pub taken_producer : (state : State) (number : ℕ) (line : List ℕ) (pages page_size chunks : Numeral)
    → first (front_reasons state (Producer pages page_size chunks)) ≡ None
    → after_form state number line (Some (Producer pages page_size chunks)) ≡ Ok (moved state 0 [] (Producer pages page_size chunks) [])
unfolding moved
taken_producer state number line pages page_size chunks none = taken_as_it_is state number line (Producer pages page_size chunks) tt none

pub taken_writer : (state : State) (number : ℕ) (line : List ℕ) (producer buffer : Numeral) (policy : NamedPolicy) (from : Option Numeral)
    → first (front_reasons state (Writer producer buffer policy from)) ≡ None
    → after_form state number line (Some (Writer producer buffer policy from))
    ≡ Ok (moved state 0 [] (Writer producer buffer policy from) [])
unfolding moved
taken_writer state number line producer buffer policy from none = taken_as_it_is state number line (Writer producer buffer policy from) tt none

pub taken_step : (state : State) (number : ℕ) (line : List ℕ) (producer : Numeral) (step : ProducerStep)
    → first (front_reasons state (OfProducer producer step)) ≡ None
    → after_form state number line (Some (OfProducer producer step))
    ≡ Ok (served (with_line state number (producer_kind (value producer) step)) producer step)
unfolding moved
taken_step state number line producer step none = taken_as_it_is state number line (OfProducer producer step) tt none

pub taken_read : (state : State) (number : ℕ) (line : List ℕ) (buffer : Numeral) (limit : Option Numeral)
    → first (front_reasons state (Read buffer limit)) ≡ None
    → after_form state number line (Some (Read buffer limit)) ≡ Ok (with_line state number (kinds.Read (value buffer) (limit_of limit)))
unfolding moved
taken_read state number line buffer limit none = taken_as_it_is state number line (Read buffer limit) tt none

pub taken_request : (state : State) (number : ℕ) (line : List ℕ) → first (front_reasons state Request) ≡ None
    → after_form state number line (Some Request) ≡ Ok (with_line state number kinds.Request)
unfolding moved
taken_request state number line none = taken_as_it_is state number line Request tt none

pub taken_clone : (state : State) (number : ℕ) (line : List ℕ) (buffer : Numeral) → first (front_reasons state (CloneBuffer buffer)) ≡ None
    → after_form state number line (Some (CloneBuffer buffer)) ≡ Ok (with_clone (with_line state number (kinds.CloneBuffer (value buffer))))
unfolding moved
taken_clone state number line buffer none = taken_as_it_is state number line (CloneBuffer buffer) tt none

pub taken_raw : (state : State) (number : ℕ) (line : List ℕ) (raw : NamedRaw) → first (front_reasons state (Raw raw)) ≡ None
    → after_form state number line (Some (Raw raw))
    ≡ Ok (with_line state number (kinds.Raw (value raw.writer) (chunk_by raw (payload_part line))))
unfolding moved
taken_raw state number line raw none = taken_as_it_is state number line (Raw raw) tt none

by_front : (state : State) (line : List ℕ) (form : Form) (reason : Reason) → first (front_reasons state form) ≡ Some reason
    → refusal_of state line form ≡ Some reason
unfolding refusal_of
by_front state line form reason is = first-append_some (front_reasons state form) (back_reasons state line form) reason is

-- a reason of the front holds
pub refused_in_front : (state : State) (number : ℕ) (line : List ℕ) (form : Form) (reason : Reason)
    → first (front_reasons state form) ≡ Some reason → after_form state number line (Some form) ≡ Err reason
unfolding after_form unless
refused_in_front state number line form reason is = rw (by_front state line form reason is) refl
