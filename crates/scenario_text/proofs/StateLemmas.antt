-- What every accepted line keeps holds of every scenario.
use Rattle.std.proofs.Common.{◌≡◌, ℕ, ◌+◌, Bool, true, false, cond, Option, Some, None, Result, Ok, Err, List, [], ◌∷◌, ◌++◌, refl, subst}
use Rattle.scenario_text.specs.declared.form.Form.{Form}
use Rattle.scenario_text.specs.declared.reason.Reason.{Reason}
use Rattle.scenario_text.specs.declared.scenario.Scenario.{Scenario}
use Rattle.scenario_text.specs.Pieces.{pieces}
use Rattle.scenario_text.specs.State.{State, beginning}
use Rattle.scenario_text.specs.Reasons.{first, given, refusal_of}
use Rattle.scenario_text.specs.Effects.{moved, nodes_given}
use Rattle.scenario_text.specs.Forms.{form_of}
use Rattle.scenario_text.specs.Grammar.{unless, after_form, says_nothing, after_line, first_left, unless_left, at_end, and_then, after_lines, state_after}
use Rattle.scenario_text.specs.Scenario.{Parts, parts_of, parts_said, said, scenario_of, IsScenario}

-- ---- no reason holds

pub first_none : (front back : List (Option Reason)) → first (front ++ back) ≡ None → (first front ≡ None) × (first back ≡ None)
first_none [] back none = (refl, none)
first_none (None ∷ front) back none = first_none front back none
first_none (Some reason ∷ front) back none = cc

-- an accepted line keeps it
abbrev pub Keeps : (State → Type 0) → Type 0
Keeps P = (state : State) (number : ℕ) (line : List ℕ) (form : Form) → form_of line ≡ Some form → refusal_of state line form ≡ None
    → P state
    → P (moved state number line form (nodes_given (given state line form)))

-- a state in which it holds, and in which no packet is left
record IsEnd (P : State → Type 0) (state : State) : Type 0 where
  holds : P state
  none_left : first_left state None 1 state.writers ≡ None

-- ---- one line

unless_keeps : (P : State → Type 0) → Keeps P → (refusal : Option Reason) (state after : State) (number : ℕ) (line : List ℕ) (form : Form)
    → form_of line ≡ Some form → refusal_of state line form ≡ refusal → P state
    → unless refusal (moved state number line form (nodes_given (given state line form))) ≡ Ok after → P after
unfolding unless
unless_keeps P keeps None state after number line form formed is holds leads =
    let same : moved state number line form (nodes_given (given state line form)) ≡ after = cc in
    subst P same (keeps state number line form formed is holds)
unless_keeps P keeps (Some reason) state after number line form formed is holds leads = absurd cc

form_keeps : (P : State → Type 0) → Keeps P → (form : Option Form) (state after : State) (number : ℕ) (line : List ℕ)
    → form_of line ≡ form → P state
    → after_form state number line form ≡ Ok after → P after
unfolding after_form
form_keeps P keeps None state after number line formed holds leads = absurd cc
form_keeps P keeps (Some form) state after number line formed holds leads =
    unless_keeps P keeps (refusal_of state line form) state after number line form formed refl holds leads

says_keeps : (P : State → Type 0) → Keeps P → (nothing : Bool) (state after : State) (number : ℕ) (line : List ℕ) → P state
    → cond nothing (Ok state) (after_form state number line (form_of line)) ≡ Ok after → P after
says_keeps P keeps true state after number line holds leads = let same : state ≡ after = cc in subst P same holds
says_keeps P keeps false state after number line holds leads = form_keeps P keeps (form_of line) state after number line refl holds leads

line_keeps : (P : State → Type 0) → Keeps P → (state after : State) (number : ℕ) (line : List ℕ) → P state
    → after_line state number line ≡ Ok after → P after
unfolding after_line
line_keeps P keeps state after number line holds leads = says_keeps P keeps (says_nothing line) state after number line holds leads

-- ---- all lines

left_keeps : (P : State → Type 0) (left : Option ℕ) (state after : State) → first_left state None 1 state.writers ≡ left → P state
    → unless_left left state ≡ Ok after → IsEnd P after
unfolding unless_left
left_keeps P None state after is holds leads =
    let same : state ≡ after = cc in subst (IsEnd P) same (record { holds = holds; none_left = is })
left_keeps P (Some line) state after is holds leads = absurd cc

end_keeps : (P : State → Type 0) (state after : State) → P state → at_end state ≡ Ok after → IsEnd P after
unfolding at_end
end_keeps P state after holds leads = left_keeps P (first_left state None 1 state.writers) state after refl holds leads

then_keeps : (P : State → Type 0) → Keeps P → (middle : Result State Reason) (state after : State) (number : ℕ) (line : List ℕ)
    (others : State → Result State (ℕ × Reason)) → after_line state number line ≡ middle → P state
    → ((next : State) → P next → others next ≡ Ok after → IsEnd P after) → and_then number middle others ≡ Ok after → IsEnd P after
unfolding and_then
then_keeps P keeps (Ok next) state after number line others is holds again leads = again next (line_keeps P keeps state next number line holds is) leads
then_keeps P keeps (Err reason) state after number line others is holds again leads = absurd cc

lines_keep : (P : State → Type 0) → Keeps P → (lines : List (List ℕ)) (state after : State) (number : ℕ) → P state
    → after_lines state number lines ≡ Ok after → IsEnd P after
unfolding after_lines
lines_keep P keeps [] state after number holds leads = end_keeps P state after holds leads
lines_keep P keeps ([] ∷ []) state after number holds leads = end_keeps P state after holds leads
lines_keep P keeps ((byte ∷ bytes) ∷ []) state after number holds leads = absurd cc
lines_keep P keeps (line ∷ next ∷ others) state after number holds leads =
    then_keeps P keeps (after_line state number line) state after number line (λ middle. after_lines middle (number + 1) (next ∷ others)) refl holds
    (λ middle kept goes. lines_keep P keeps (next ∷ others) middle after (number + 1) kept goes) leads

-- ---- every scenario

-- It holds of a state that says these parts, and in which no packet is left.
pub record HoldsAtEnd (P : State → Type 0) (parts : Parts) : Type 0 where
  pub state : State
  pub holds : P state
  pub none_left : first_left state None 1 state.writers ≡ None
  pub says : parts_said state ≡ parts

said_holds : (P : State → Type 0) → Keeps P → P beginning → (outcome : Result State (ℕ × Reason)) (text : List ℕ) (parts : Parts)
    → state_after text ≡ outcome → said outcome ≡ Ok parts → HoldsAtEnd P parts
unfolding said state_after
said_holds P keeps first (Ok state) text parts is same =
    let end = lines_keep P keeps (pieces 10 text) beginning state 1 first is in
    record { state = state; holds = end.holds; none_left = end.none_left; says = cc }
said_holds P keeps first (Err fault) text parts is same = absurd cc

pub scenario_holds : (P : State → Type 0) → Keeps P → P beginning → (scenario : Scenario) → IsScenario scenario → HoldsAtEnd P (parts_of scenario)
unfolding scenario_of
scenario_holds P keeps first scenario is = said_holds P keeps first (state_after is.text) is.text (parts_of scenario) refl is.said_by
