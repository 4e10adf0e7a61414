-- What the byte behind a field comes to.
use Rattle.std.proofs.Common.{◌≡◌, ◌≢◌, ℕ, suc, ◌-◌, Bool, true, false, ◌&&◌, ◌||◌, ◌==◌, nat_lt, if◌then◌else◌, Option, Some, Result, Ok, Err, IfOk, List, [], ◌∷◌, ◌++◌, refl, sym, ap, ◌∙◌}
use Rattle.std.proofs.lemmas.Bool.{and_parts, eqb-true, ne_eqb}
use Rattle.field_tree.specs.declared.node.FieldNode.{FieldNode}
use Rattle.field_tree.specs.declared.node.FieldNode.TheVariants.{Begin, End}
use Rattle.field_tree.specs.declared.mode.Mode.TheVariants.{Start, Field, After}
use Rattle.field_tree.specs.Nodes.{Shown}
use Rattle.field_tree.specs.Machine.{TextReading, pending, settled, settled_as, ends_here, act, applied, moved, next, IsValid}
use Rattle.field_tree.specs.Scanning.{reading_with, RunsOver}
use Rattle.field_tree.proofs.Completes.{valid_run}

-- ---- the byte before which a field ends

weaker : (x y z : Bool) → (x || y && z) ≡ true → (x || z) ≡ true
weaker true y z is = refl
weaker false true z is = is
weaker false false z is = absurd (cc)

-- what is read at that byte is what is read there once the field has ended
pub ended_first : (r mid to : TextReading) (node : FieldNode) (b : ℕ) → pending r.mode ≡ Some node → ends_here r.depth b ≡ true
    → mid ≡ settled_as (Some node) r → next mid b ≡ Some to → next r b ≡ Some to
unfolding next settled
ended_first r mid to node b is here mid_is goes =
    let ends : (b == 32 || b == 125) ≡ true = weaker (b == 32) (nat_lt 0 r.depth) (b == 125) here in
    let q : TextReading = settled_as (Some node) r in
    ap (λ (test : Bool). moved b (if test then settled r else r)) ends
    ∙ ap (λ (o : Option FieldNode). moved b (settled_as o r)) is
    ∙ sym (ap (λ (test : Bool). moved b (if test then q else q)) ends)
    ∙ ap (λ (p : TextReading). next p b) (sym mid_is)
    ∙ goes

pub space_behind : (ns : List Shown) (d : ℕ) (t : List ℕ) → next (reading_with ns d t After) 32 ≡ Some (reading_with ns d t (Start false))
unfolding next act applied settled
space_behind ns d t = refl

pub brace_here : (d b : ℕ) → ends_here d b ≡ true → b ≢ 32 → (nat_lt 0 d ≡ true) × (b ≡ 125)
brace_here d b here other =
    let rest : (nat_lt 0 d && b == 125) ≡ true = ap (λ (test : Bool). test || nat_lt 0 d && b == 125) (sym (ne_eqb b 32 other)) ∙ here in
    let both = and_parts (nat_lt 0 d) (b == 125) rest in
    (both.0, eqb-true b 125 both.1)

pub brace_behind : (ns : List Shown) (d : ℕ) → nat_lt 0 d ≡ true → next (reading_with ns d [] After) 125 ≡ Some (reading_with (ns ++ (End, []) ∷ []) (d - 1) [] After)
unfolding next act applied settled
brace_behind ns d inside = ap (λ (inner : Bool). applied (act After inner 125) (reading_with ns d [] After)) inside

pub brace_opens : (ns : List Shown) (d n : ℕ) → next (reading_with ns d [] (Field n)) 123 ≡ Some (reading_with (ns ++ (Begin n, []) ∷ []) (suc d) [] (Start true))
unfolding next act applied
brace_opens ns d n = refl

-- ---- where a reading stands that began between two fields

pub valid_over : (r to : TextReading) (bytes behind : List ℕ) → IsValid r.mode r.text → RunsOver r bytes to behind → IsValid to.mode to.text
valid_over r to bytes behind valid over = valid_run over.0 r to valid over.2

-- ---- what holds of an answer, and what it says then

pub if_ok_more : {X E : Type 0} (result : Result X E) (P Q : X → Type 0) → ((x : X) → P x → Q x) → IfOk result P → IfOk result Q
if_ok_more (Ok x) P Q more given = more x given
if_ok_more (Err e) P Q more given = given
