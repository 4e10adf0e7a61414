use Rattle.std.proofs.Common.{List, subst, arith}
use Rattle.std.proofs.lemmas.List.{drop_all}
use Rattle.scenario_text.specs.declared.line_list.KeptLine.{KeptLine}
use Rattle.scenario_text.specs.OwnLines.{AreNoted}
use Rattle.scenario_text.proofs.OwnLineLemmas.{noted_none, noted_at}
use Rattle.scenario_text.proofs.own_lines.note_lines.Goals as goal

pub lines-init : goal.lines-init
lines-init c = noted_none c.args.heads.now c.args.rows.now.items c.requires

pub lines-preserved : goal.lines-preserved
lines-preserved c =
    noted_at c.args.heads.now c.lines.head-index _ c.lines.bytes c.in-Some.behind c.lines.rows.items c.note_line.new.rows.items
    c.lines-test.true c.lines.invariant c.in_ok-note_line.ensures c.in-Some.ensures

pub returns : goal.returns
returns c = (
  c.lines.bytes,
  subst (λ (left : List KeptLine). AreNoted c.args.heads.now left c.lines.bytes c.lines.rows.items)
      (drop_all c.lines.head-index c.args.heads.now (omega (arith, c.lines-test.false))) c.lines.invariant,
)
