-- The lines before those that are left were noted.
use Rattle.std.proofs.Common.{drop}
use Rattle.scenario_text.specs.OwnLines.{AreNoted}
use Rattle.scenario_text.proofs.own_lines.note_lines.Given as goal

abbrev pub invariant-lines : goal.invariant-lines
invariant-lines l = AreNoted l.heads (drop l.head-index l.heads) l.bytes l.rows.items
