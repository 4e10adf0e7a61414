use Rattle.scenario_text.proofs.OwnLineLemmas.{all_noted}
use Rattle.scenario_text.proofs.own_lines.LinesByWriter.new.Goals as goal

pub invariant_of-t-7 : goal.invariant_of-t-7
invariant_of-t-7 c = (c.requires, all_noted c.args.heads.now c.args.code.now c.in-Ok.ensures.0 c.in-Ok.rows.items c.requires c.in-Ok.ensures.1)
