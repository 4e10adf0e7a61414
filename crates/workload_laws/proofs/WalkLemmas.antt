-- From state to state over whole lines.
use Rattle.std.proofs.Common.{◌≡◌, ℕ, ◌+◌, true, Ok, List, [], ◌∷◌, ◌++◌, refl, ap, sym, ◌∙◌, append_assoc}
use Rattle.scenario_text.specs.Pieces.{pieces, pieces_behind}
use Rattle.scenario_text.specs.State.{State}
use Rattle.scenario_text.specs.Grammar.{after_line, after_lines}
use Rattle.scenario_text.proofs.LineLemmas.{line_goes}
use Rattle.workload_laws.proofs.CutLemmas.{lacks, pieces-at}

-- the text is whole lines that lead from one state to another, whatever stands behind them
pub record Leads (from : State) (first : ℕ) (text : List ℕ) (to : State) (next : ℕ) : Type 0 where
  pub on : (behind : List ℕ) → after_lines from first (pieces 10 (text ++ behind)) ≡ after_lines to next (pieces 10 behind)

pub leads_nowhere : (state : State) (first : ℕ) → Leads state first [] state first
leads_nowhere state first = record { on = λ behind. refl }

pub leads_further : {from middle to : State} {first second next : ℕ} {text more : List ℕ} → Leads from first text middle second
    → Leads middle second more to next → Leads from first (text ++ more) to next
leads_further {from} {middle} {to} {first} {second} {next} {text} {more} one other = record {
  on = λ behind.
      ap (λ (all : List ℕ). after_lines from first (pieces 10 all)) (append_assoc text more behind)
      ∙ one.on (more ++ behind)
      ∙ other.on behind;
}

-- one line
pub line_leads : (from to : State) (first next : ℕ) (line : List ℕ) → lacks 10 line ≡ true → after_line from first line ≡ Ok to
    → next ≡ first + 1 → Leads from first (line ++ 10 ∷ []) to next
unfolding pieces_behind
line_leads from to first next line free goes count = record {
  on = λ behind.
      ap (λ (all : List ℕ). after_lines from first (pieces 10 all)) (append_assoc line (10 ∷ []) behind)
      ∙ ap (λ (all : List (List ℕ)). after_lines from first all) (pieces-at 10 line behind free)
      ∙ line_goes from to first line behind goes
      ∙ ap (λ (n : ℕ). after_lines to n (pieces 10 behind)) (sym count);
}
