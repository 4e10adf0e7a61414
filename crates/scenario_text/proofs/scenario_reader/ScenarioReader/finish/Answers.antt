use Rattle.std.proofs.Common.{ℕ, length, subst, ap, ◌∙◌, List, Result, arith}
use Rattle.scenario_text.specs.declared.reason.Reason.{Reason}
use Rattle.scenario_text.specs.Scenario.{GivesScenario, Parts}
use Rattle.scenario_text.specs.Behind.{line_bound, says_after}
use Rattle.scenario_text.proofs.BehindLemmas.{waits_alone}
use Rattle.scenario_text.proofs.scenario_reader.ScenarioReader.finish.Goals as goal

pub finish-requires : goal.finish-requires
unfolding line_bound
finish-requires c = record { room = omega (arith, c.requires, c.deref.ensures.value, ap (λ (xs : List ℕ). length xs) c.deref.ensures.value) }

pub returns : goal.returns
returns c =
    let says = ap (says_after c.args.self.lines) c.deref.ensures.value ∙ waits_alone c.args.self in
    subst (λ (given : Result Parts (ℕ × Reason)). GivesScenario c.finish.result given) says c.finish.ensures.exact
