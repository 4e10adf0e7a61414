use Rattle.std.proofs.Common.{ap₂, ◌∙◌, ◌||◌}
use Rattle.std.proofs.lemmas.Result.{IfOk-weaker}
use Rattle.clap.specs.Words.{with_rule}
use Rattle.command_words.proofs.program.tuner.Goals as goal

pub returns-clause-app : goal.returns-clause-app
returns-clause-app c =
    let first = c.in_ok-arg.ensures.shape c.number.ensures.local ∙ ap₂ with_rule c.plain.ensures.app c.number.ensures.rule in
    IfOk-weaker c.arg-2.result _ _ (λ command added. added.shape c.number-2.ensures.local ∙ ap₂ with_rule first c.number-2.ensures.rule) c.arg-2.ensures

pub returns-clause-local : goal.returns-clause-local
returns-clause-local c =
    let first = c.in_ok-arg.ensures.globals ∙ ap₂ (λ a b. a || b) c.plain.ensures.local c.number.ensures.local in
    IfOk-weaker c.arg-2.result _ _ (λ command added. added.globals ∙ ap₂ (λ a b. a || b) first c.number-2.ensures.local) c.arg-2.ensures
