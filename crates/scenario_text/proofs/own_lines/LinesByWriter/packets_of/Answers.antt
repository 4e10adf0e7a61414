use Rattle.std.proofs.Common.{List, subst}
use Rattle.scenario_text.specs.declared.own_lines.Row.{Row}
use Rattle.scenario_text.specs.OwnLines.{IsWholeRow}
use Rattle.scenario_text.proofs.OwnLineLemmas.{row_spans}
use Rattle.scenario_text.proofs.own_lines.LinesByWriter.packets_of.Goals as goal

pub invariant_of-result : goal.invariant_of-result
invariant_of-result c =
    (row_spans c.self.inside.heads.now c.self.inside.code.now c.self.inside.rows.items c.args.number c.in-Some.spans.now c.self.invariant.1
    (subst (λ (rows : List Row). IsWholeRow rows c.args.number c.in-Some.spans.now) c.deref.ensures.value c.in-Some.ensures)).0
