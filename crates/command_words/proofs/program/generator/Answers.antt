use Rattle.std.proofs.Common.{ap₂, ◌∙◌, ◌||◌}
use Rattle.std.proofs.lemmas.Result.{IfOk-weaker}
use Rattle.clap.specs.Words.{with_rule}
use Rattle.command_words.proofs.program.generator.Goals as goal

pub returns-clause-app : goal.returns-clause-app
returns-clause-app c =
    let first = c.in_ok-arg.ensures.shape c.number.ensures.local ∙ ap₂ with_rule c.plain.ensures.app c.number.ensures.rule in
    let second = c.in_ok-arg-2.ensures.shape c.number-2.ensures.local ∙ ap₂ with_rule first c.number-2.ensures.rule in
    IfOk-weaker c.arg-3.result _ _ (λ command added. added.shape c.number-3.ensures.local ∙ ap₂ with_rule second c.number-3.ensures.rule) c.arg-3.ensures

pub returns-clause-local : goal.returns-clause-local
returns-clause-local c =
    let first = c.in_ok-arg.ensures.globals ∙ ap₂ (λ a b. a || b) c.plain.ensures.local c.number.ensures.local in
    let second = c.in_ok-arg-2.ensures.globals ∙ ap₂ (λ a b. a || b) first c.number-2.ensures.local in
    IfOk-weaker c.arg-3.result _ _ (λ command added. added.globals ∙ ap₂ (λ a b. a || b) second c.number-3.ensures.local) c.arg-3.ensures
