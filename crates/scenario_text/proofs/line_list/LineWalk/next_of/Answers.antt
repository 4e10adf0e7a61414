use Rattle.std.proofs.Common.{◌∙◌, List, length, sym, ap, subst, arith}
use Rattle.std.proofs.lemmas.Option.{IfSome_then}
use Rattle.scenario_text.specs.declared.scenario.NumberedLine.{NumberedLine}
use Rattle.scenario_text.specs.Accepted.{PassesOver}
use Rattle.scenario_text.proofs.KeptLemmas.{passes_none, passes_more, comes_next, none_more}
use Rattle.scenario_text.proofs.line_list.LineWalk.next_of.Goals as goal

pub loop-init : goal.loop-init
loop-init c = passes_none c.args.number c.args.self.now

pub loop-smaller : goal.loop-smaller
loop-smaller c =
    let passed = c.pass_other.ensures.passed c.loop-test.true in
    omega (arith, ap (λ (lines : List NumberedLine). length lines) passed.1)

pub loop-preserved : goal.loop-preserved
loop-preserved c =
    let passed = c.pass_other.ensures.passed c.loop-test.true in
    passes_more c.args.number c.args.self.now c.loop.self passed.0 c.pass_other.new.self passed.1 passed.2 c.loop.invariant

pub returns-clause-found : goal.returns-clause-found
returns-clause-found c =
    let stays = c.pass_other.ensures.stays c.loop-test.false in
    IfSome_then c.next.result c.next.ensures.first
    (λ (line : NumberedLine). λ is. comes_next c.args.number c.args.self.now c.loop.self c.next.new.self c.loop.invariant
    (c.pass_other.ensures.own c.loop-test.false) line (sym stays ∙ is))

pub returns-clause-none : goal.returns-clause-none
returns-clause-none c =
    let stays = c.pass_other.ensures.stays c.loop-test.false in
    none_more c.next.result
    (λ none. (subst (PassesOver c.args.number c.args.self.now) (sym stays ∙ none.0) c.loop.invariant, none.1)) c.next.ensures.none
