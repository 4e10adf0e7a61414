-- The pages of producers that are cut as a scenario asks.
use Rattle.std.proofs.Common.{ℕ, ◌≤◌, List, [], ◌∷◌, sym, subst}
use Rattle.std.specs.List.{All, AllByRecursion, AllZip}
use Rattle.std.proofs.lemmas.List.Elements.{All-nil, All-cons}
use Rattle.trace_base.specs.declared.limits.TheConstants.{MAX_PAGES}
use Rattle.scenario_text.specs.declared.scenario.ProducerLine.{ProducerLine}
use Rattle.scenario_text.specs.Limits.{IsProducer}
use Rattle.chunk_plain.specs.declared.setup.ProducerSpec.{ProducerSpec}
use Rattle.replay_model.specs.Played.{IsSpecOf}

pub some_page : (lines : List ProducerLine) (specs : List ProducerSpec) → AllByRecursion IsProducer lines → AllZip IsSpecOf lines specs
    → All (λ (p : ProducerSpec). 1 ≤ p.pages) specs
some_page [] [] are made = All-nil (λ (p : ProducerSpec). 1 ≤ p.pages)
some_page [] (spec ∷ specs) are made = absurd made
some_page (line ∷ lines) [] are made = absurd made
some_page (line ∷ lines) (spec ∷ specs) are made =
    All-cons (λ (p : ProducerSpec). 1 ≤ p.pages) spec specs (subst (λ (n : ℕ). 1 ≤ n) (sym made.0.pages) are.0.some_pages)
    (some_page lines specs are.1 made.1)

pub few_pages : (lines : List ProducerLine) (specs : List ProducerSpec) → AllByRecursion IsProducer lines → AllZip IsSpecOf lines specs
    → All (λ (p : ProducerSpec). p.pages ≤ MAX_PAGES) specs
few_pages [] [] are made = All-nil (λ (p : ProducerSpec). p.pages ≤ MAX_PAGES)
few_pages [] (spec ∷ specs) are made = absurd made
few_pages (line ∷ lines) [] are made = absurd made
few_pages (line ∷ lines) (spec ∷ specs) are made =
    All-cons (λ (p : ProducerSpec). p.pages ≤ MAX_PAGES) spec specs (subst (λ (n : ℕ). n ≤ MAX_PAGES) (sym made.0.pages) are.0.few_pages)
    (few_pages lines specs are.1 made.1)
