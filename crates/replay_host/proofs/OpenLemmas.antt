-- Which writers and producers are open, one place behind another.
use Rattle.std.proofs.Common.{◌≡◌, ◌∙◌, ℕ, zero, suc, ◌<◌, ◌≤◌, Bool, true, false, not, cond, List, [], ◌∷◌, ◌++◌, length, drop, map, refl, sym, ap, arith, append_assoc, append-nil}
use Rattle.std.proofs.lemmas.List.{drop_all}
use Rattle.trace_base.specs.declared.policy.WriterSpec.{WriterSpec}
use Rattle.scenario_text.specs.declared.scenario.ProducerLine.{ProducerLine}
use Rattle.scenario_text.specs.declared.scenario.NumberedLine.{NumberedLine}
use Rattle.scenario_text.specs.Accepted.{is_closed_by}
use Rattle.service_core.specs.Agreement.{spec_at}
use Rattle.replay_model.specs.Schedule.{open_places, open_producers}

-- the rest of a list from a place on begins with what stands there
drop_spec : (specs : List WriterSpec) (place : ℕ) → place < length specs → drop place specs ≡ spec_at specs place ∷ drop (suc place) specs
drop_spec [] place below = absurd (omega (arith, below))
drop_spec (spec ∷ specs) zero below = refl
drop_spec (spec ∷ specs) (suc place) below = drop_spec specs place (omega (arith, below))

drop_line : (lines : List ProducerLine) (index : ℕ) → index < length lines
    → (line : ProducerLine) × (drop index lines ≡ line ∷ drop (suc index) lines)
drop_line [] index below = absurd (omega (arith, below))
drop_line (line ∷ lines) zero below = (line, refl)
drop_line (line ∷ lines) (suc index) below = drop_line lines index (omega (arith, below))

-- whether a producer is open decides whether it comes next
closed_is : (b said : Bool) → not b ≡ said → b ≡ not said
closed_is true said is = ap not is
closed_is false said is = ap not is

-- acts on the writers of open producers, of which one comes next
pub places_open : {A : Type 0} (act : ℕ → A) (before : List NumberedLine) (specs : List WriterSpec) (place : ℕ) → place < length specs
    → not (is_closed_by before (spec_at specs place).producer) ≡ true
    → map act (open_places before place (drop place specs)) ≡ act place ∷ map act (open_places before (suc place) (drop (suc place) specs))
places_open act before specs place below opened =
    ap (λ (ss : List WriterSpec). map act (open_places before place ss)) (drop_spec specs place below)
    ∙ ap (λ (b : Bool). map act (cond b (open_places before (suc place) (drop (suc place) specs))
    (place ∷ open_places before (suc place) (drop (suc place) specs))))
    (closed_is (is_closed_by before (spec_at specs place).producer) true opened)

pub places_closed : {A : Type 0} (act : ℕ → A) (before : List NumberedLine) (specs : List WriterSpec) (place : ℕ) → place < length specs
    → not (is_closed_by before (spec_at specs place).producer) ≡ false
    → map act (open_places before place (drop place specs)) ≡ map act (open_places before (suc place) (drop (suc place) specs))
places_closed act before specs place below closed =
    ap (λ (ss : List WriterSpec). map act (open_places before place ss)) (drop_spec specs place below)
    ∙ ap (λ (b : Bool). map act (cond b (open_places before (suc place) (drop (suc place) specs))
    (place ∷ open_places before (suc place) (drop (suc place) specs))))
    (closed_is (is_closed_by before (spec_at specs place).producer) false closed)

pub places_none : {A : Type 0} (act : ℕ → A) (before : List NumberedLine) (specs : List WriterSpec) (place : ℕ) → length specs ≤ place
    → map act (open_places before place (drop place specs)) ≡ []
places_none act before specs place most = ap (λ (ss : List WriterSpec). map act (open_places before place ss)) (drop_all place specs most)

-- and on open producers
pub producers_open : {A : Type 0} (act : ℕ → A) (before : List NumberedLine) (lines : List ProducerLine) (index : ℕ) → index < length lines
    → not (is_closed_by before (suc index)) ≡ true
    → map act (open_producers before (suc index) (drop index lines))
    ≡ act (suc index) ∷ map act (open_producers before (suc (suc index)) (drop (suc index) lines))
producers_open act before lines index below opened =
    ap (λ (ls : List ProducerLine). map act (open_producers before (suc index) ls)) (drop_line lines index below).1
    ∙ ap (λ (b : Bool). map act (cond b (open_producers before (suc (suc index)) (drop (suc index) lines))
    (suc index ∷ open_producers before (suc (suc index)) (drop (suc index) lines))))
    (closed_is (is_closed_by before (suc index)) true opened)

pub producers_closed : {A : Type 0} (act : ℕ → A) (before : List NumberedLine) (lines : List ProducerLine) (index : ℕ)
    → index < length lines
    → not (is_closed_by before (suc index)) ≡ false
    → map act (open_producers before (suc index) (drop index lines))
    ≡ map act (open_producers before (suc (suc index)) (drop (suc index) lines))
producers_closed act before lines index below closed =
    ap (λ (ls : List ProducerLine). map act (open_producers before (suc index) ls)) (drop_line lines index below).1
    ∙ ap (λ (b : Bool). map act (cond b (open_producers before (suc (suc index)) (drop (suc index) lines))
    (suc index ∷ open_producers before (suc (suc index)) (drop (suc index) lines))))
    (closed_is (is_closed_by before (suc index)) false closed)

pub producers_none : {A : Type 0} (act : ℕ → A) (before : List NumberedLine) (lines : List ProducerLine) (index : ℕ) → length lines ≤ index
    → map act (open_producers before (suc index) (drop index lines)) ≡ []
producers_none act before lines index most = ap (λ (ls : List ProducerLine). map act (open_producers before (suc index) ls))
    (drop_all index lines most)

-- one act more, of those that are to come
pub rest_more : {A : Type 0} (all done rest later : List A) (act : A) → all ≡ done ++ rest → rest ≡ act ∷ later
    → all ≡ (done ++ act ∷ []) ++ later
rest_more all done rest later act is next = is ∙ ap (λ (xs : List _). done ++ xs) next ∙ sym (append_assoc done (act ∷ []) later)

pub rest_same : {A : Type 0} (all done rest later : List A) → all ≡ done ++ rest → rest ≡ later → all ≡ done ++ later
rest_same all done rest later is next = is ∙ ap (λ (xs : List _). done ++ xs) next

pub rest_none : {A : Type 0} (all done rest : List A) → all ≡ done ++ rest → rest ≡ [] → done ≡ all
rest_none all done rest is none = sym (is ∙ ap (λ (xs : List _). done ++ xs) none ∙ append-nil done)
