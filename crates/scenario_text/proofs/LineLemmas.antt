-- The lines of a text, one after another.
use Rattle.std.proofs.Common.{◌≡◌, ℕ, ◌+◌, ◌<◌, ◌≤◌, List, [], ◌∷◌, length, drop, get_or, Option, Some, None, Ok, Err, refl, sym, subst, add-one, drop-cons, arith}
use Rattle.std.proofs.lemmas.List.{drop_all}
use Rattle.trace_base.specs.declared.policy.WriterSpec.{WriterSpec}
use Rattle.trace_base.specs.declared.numeral.Numeral.TheVariants.{Fits}
use Rattle.scenario_text.specs.declared.reason.Reason.{Reason}
use Rattle.scenario_text.specs.declared.reason.Reason.TheVariants.{UnfinishedLine}
use Rattle.scenario_text.specs.Pieces.{pieces, pieces_behind}
use Rattle.scenario_text.specs.State.{State, packet_of}
use Rattle.scenario_text.specs.Grammar.{after_line, after_lines, and_then, earlier, first_left, line_left}
use Rattle.scenario_text.proofs.PieceLemmas.{has_piece}

-- ---- packets that are left

pub left_more : (state : State) (line : Option ℕ) (writers : List WriterSpec) (i : ℕ) (default : WriterSpec) → i < length writers
    → first_left state (earlier line (line_left state (get_or writers i default) (packet_of state (Fits (i + 1))))) (i + 1 + 1) (drop (i + 1) writers)
    ≡ first_left state line (i + 1) (drop i writers)
unfolding first_left
left_more state line writers i default inside = rw (drop-cons writers i default inside) (rw (← add-one i) refl)

pub left_all : (state : State) (line : Option ℕ) (number : ℕ) (writers : List WriterSpec) (i : ℕ) → length writers ≤ i
    → first_left state line number (drop i writers) ≡ line
unfolding first_left
left_all state line number writers i past = rw (drop_all i writers past) refl

-- ---- lines

pub line_goes : (state after : State) (number : ℕ) (line behind : List ℕ) → after_line state number line ≡ Ok after
    → after_lines state number (line ∷ pieces_behind 10 (Some behind)) ≡ after_lines after (number + 1) (pieces 10 behind)
unfolding after_lines and_then pieces_behind
line_goes state after number line behind is =
    let has = has_piece 10 behind in
    subst (λ (lines : List (List ℕ)). after_lines state number (line ∷ lines) ≡ after_lines after (number + 1) lines)
    (sym has.are) (rw is refl)

pub line_stops : (state : State) (number : ℕ) (line behind : List ℕ) (reason : Reason) → after_line state number line ≡ Err reason
    → after_lines state number (line ∷ pieces_behind 10 (Some behind)) ≡ Err (number, reason)
unfolding after_lines and_then pieces_behind
line_stops state number line behind reason is =
    let has = has_piece 10 behind in
    subst (λ (lines : List (List ℕ)). after_lines state number (line ∷ lines) ≡ Err (number, reason)) (sym has.are) (rw is refl)

pub last_unfinished : (state : State) (number : ℕ) (line : List ℕ) → 0 < length line
    → after_lines state number (line ∷ pieces_behind 10 None) ≡ Err (number, UnfinishedLine)
unfolding after_lines pieces_behind
last_unfinished state number [] some = absurd (omega arith)
last_unfinished state number (byte ∷ bytes) some = refl
