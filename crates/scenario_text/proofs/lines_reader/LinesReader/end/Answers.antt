use Rattle.std.proofs.Common.{ℕ, sym, subst, Result}
use Rattle.scenario_text.specs.declared.reason.Reason.{Reason}
use Rattle.scenario_text.specs.Scenario.{GivesScenario, Parts}
use Rattle.scenario_text.proofs.BehindLemmas.{nothing_behind}
use Rattle.scenario_text.proofs.lines_reader.LinesReader.end.Goals as goal

pub returns : goal.returns
returns c = subst (λ (given : Result Parts (ℕ × Reason)). GivesScenario c.finish.result given) (sym (nothing_behind c.args.self)) c.finish.ensures
