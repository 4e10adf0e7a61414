-- No row has a span.
use Rattle.scenario_text.specs.OwnLines.{AreEmpty}
use Rattle.scenario_text.proofs.own_lines.empty_rows.Given as goal

abbrev pub invariant-loop : goal.invariant-loop
invariant-loop l = AreEmpty l.rows.items
