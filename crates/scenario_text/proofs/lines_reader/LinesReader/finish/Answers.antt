use Rattle.std.proofs.Common.{◌≡◌, ℕ, ◌<◌, List, [], length, drop, sym, subst, ap, ◌∙◌, Result, arith}
use Rattle.std.proofs.lemmas.List.{drop_all, length-drop}
use Rattle.scenario_text.specs.declared.reason.Reason.{Reason}
use Rattle.scenario_text.specs.Scenario.{GivesScenario, Parts}
use Rattle.scenario_text.specs.Behind.{says_after}
use Rattle.scenario_text.proofs.BehindLemmas.{goes_on_alone, part_behind, refused_alone}
use Rattle.scenario_text.proofs.lines_reader.LinesReader.finish.Goals as goal

pub returns-in-Err : goal.returns-in-Err
returns-in-Err c = record { exact = refused_alone c.args.self c.args.bytes.now c.in-Err.fault c.in-Err.ensures.refuses }

pub returns-then-count-bytes : goal.returns-then-count-bytes
returns-then-count-bytes c =
    let rest : List ℕ = drop c.in-Ok.count c.args.bytes.now in
    let some : 0 < length rest = omega (arith, length-drop c.in-Ok.count c.args.bytes.now) in
    record {
      exact = goes_on_alone c.args.self c.read_lines.new.self c.args.bytes.now rest c.in-Ok.ensures.goes_on
          ∙ part_behind c.read_lines.new.self rest c.in-Ok.ensures.whole some;
    }

pub returns : goal.returns
returns c =
    let rest : List ℕ = drop c.in-Ok.count c.args.bytes.now in
    let none : rest ≡ [] = drop_all c.in-Ok.count c.args.bytes.now (omega arith) in
    let says = goes_on_alone c.args.self c.read_lines.new.self c.args.bytes.now rest c.in-Ok.ensures.goes_on
    ∙ ap (says_after c.read_lines.new.self) none in
    record { exact = subst (λ (given : Result Parts (ℕ × Reason)). GivesScenario c.end.result given) (sym says) c.end.ensures }
