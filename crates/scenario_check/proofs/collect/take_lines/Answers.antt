use Rattle.std.proofs.Common.{◌≡◌, ◌∙◌, ℕ, List, length, refl, subst, sym, ap, arith, ◌++◌, ◌∷◌, []}
use Rattle.std.proofs.lemmas.List.{append-nil}
use Rattle.scenario_text.specs.declared.scenario.NumberedLine.{NumberedLine}
use Rattle.scenario_check.specs.Progress.{HaveTaken, MayCome}
use Rattle.scenario_check.proofs.LineLemmas.{may_front, append_first}
use Rattle.scenario_check.proofs.collect.take_lines.Goals as goal

pub lines-init : goal.lines-init
lines-init c = ([], c.walk-walk.ensures, c.requires.none, refl)

pub take_line-requires : goal.take_line-requires
take_line-requires c =
    let before : List NumberedLine = c.lines.invariant.0 in
    let line : NumberedLine = c.in-Some.line in
    let cut : (before ++ line ∷ []) ++ c.next.new.self ≡ c.args.lines.now =
    append_first before line c.next.new.self ∙ ap (λ (ls : List NumberedLine). before ++ ls) (sym c.in-Some.ensures.first) ∙ c.lines.invariant.1 in
    let may : MayCome (length c.args.emitters.now) (before ++ line ∷ []) =
    may_front (length c.args.emitters.now) (before ++ line ∷ []) c.next.new.self
    (subst (MayCome (length c.args.emitters.now)) (sym cut) c.requires.may) in
    (before, c.lines.invariant.2, subst (λ (n : ℕ). MayCome n (before ++ line ∷ [])) (sym c.lines.invariant.3) may)

pub lines-preserved : goal.lines-preserved
lines-preserved c =
    let before : List NumberedLine = c.lines.invariant.0 in
    let line : NumberedLine = c.in-Some.line in
    let cut : (before ++ line ∷ []) ++ c.next.new.self ≡ c.args.lines.now =
    append_first before line c.next.new.self ∙ ap (λ (ls : List NumberedLine). before ++ ls) (sym c.in-Some.ensures.first) ∙ c.lines.invariant.1 in
    let may : MayCome (length c.args.emitters.now) (before ++ line ∷ []) =
    may_front (length c.args.emitters.now) (before ++ line ∷ []) c.next.new.self
    (subst (MayCome (length c.args.emitters.now)) (sym cut) c.requires.may) in (
      before ++ line ∷ [],
      cut,
      c.in_ok-take_line.ensures before c.lines.invariant.2 (subst (λ (n : ℕ). MayCome n (before ++ line ∷ [])) (sym c.lines.invariant.3) may),
      omega (arith, c.lines.invariant.3),
    )

pub returns : goal.returns
returns c =
    let before : List NumberedLine = c.lines.invariant.0 in
    let none = rw c.in_default.is at c.next.ensures.none in
    let all : before ≡ c.args.lines.now =
    sym (append-nil before) ∙ ap (λ (ls : List NumberedLine). before ++ ls) (sym none.0) ∙ c.lines.invariant.1 in
    subst (λ (ls : List NumberedLine). HaveTaken ls c.lines.emitters) all c.lines.invariant.2
