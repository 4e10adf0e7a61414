use Rattle.std.proofs.Common.{◌∙◌, ◌++◌, ◌∷◌, [], ℕ, List, ap, subst, sym}
use Rattle.scenario_text.specs.declared.line_list.KeptLine.{KeptLine}
use Rattle.scenario_text.specs.declared.scenario.NumberedLine.{NumberedLine}
use Rattle.scenario_text.specs.KeptLines.{kind_of, lines_of, AreLaid}
use Rattle.scenario_text.proofs.KeptLemmas.{laid_more, lines_more}
use Rattle.scenario_text.proofs.line_list.LineList.push_head.Goals as goal

pub invariant_of-self-in-Ok : goal.invariant_of-self-in-Ok
invariant_of-self-in-Ok c =
    let heads = c.self.inside.heads.items in
    let code = c.self.inside.code.items in
    let head : KeptLine = c.args.head in
    let own : List ℕ = c.args.own.now in
    let laid = laid_more heads code head own c.self.invariant c.requires.len c.requires.own in
    subst (λ (bytes : List ℕ). AreLaid c.push.new.self.items bytes) (sym c.in-Ok.ensures.items)
    (subst (λ (hs : List KeptLine). AreLaid hs (code ++ own)) (sym c.in_ok-push.ensures.items) laid)

pub returns-in-Ok-clause-pushed : goal.returns-in-Ok-clause-pushed
returns-in-Ok-clause-pushed c =
    let heads = c.self.inside.heads.items in
    let code = c.self.inside.code.items in
    let head : KeptLine = c.args.head in
    let own : List ℕ = c.args.own.now in
    ap (lines_of c.push.new.self.items) c.in-Ok.ensures.items
    ∙ ap (λ (hs : List KeptLine). lines_of hs (code ++ own)) c.in_ok-push.ensures.items
    ∙ lines_more heads code head own c.self.invariant c.requires.len
    ∙ ap (λ (ls : List NumberedLine). ls ++ (record { line = head.line; what = kind_of head.what own }) ∷ []) c.self.view_is
