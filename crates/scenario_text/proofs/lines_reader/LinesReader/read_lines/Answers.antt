use Rattle.std.proofs.Common.{◌≡◌, ◌+◌, length, drop, Err, refl, sym, ap, ◌∙◌, arith}
use Rattle.std.proofs.lemmas.List.{drop-drop}
use Rattle.scenario_text.specs.Grammar.{after_line}
use Rattle.scenario_text.specs.View.{state_of}
use Rattle.scenario_text.specs.Behind.{next_line}
use Rattle.scenario_text.proofs.BehindLemmas.{line_is_read, line_is_refused}
use Rattle.scenario_text.proofs.lines_reader.LinesReader.read_lines.Goals as goal

pub returns-in-Err-Refused-clause-refuses : goal.returns-in-Err-Refused-clause-refuses
returns-in-Err-Refused-clause-refuses c = λ more.
    let is : after_line (state_of c.lines.self.reader) c.lines.self.number c.in-Some.line.now ≡ Err c.in-Err-Refused.reason =
    rw c.in-Err-Refused.field-0-is at c.in-Err-Refused.ensures in
    let says = c.lines.invariant.0 more
    ∙ line_is_refused c.lines.self c.lines.rest.now c.in-Some.line.now c.in-Some.behind.now more c.in-Err-Refused.reason (c.in-Some.ensures.cut more) is in
    rw c.in-Err-Refused.field-0-is says

pub lines-preserved : goal.lines-preserved
unfolding next_line
lines-preserved c =
    let taken = length c.in-Some.line.now + 1 in (
      λ more. c.lines.invariant.0 more
          ∙ line_is_read c.lines.self _ c.lines.rest.now c.in-Some.line.now c.in-Some.behind.now more (c.in-Some.ensures.cut more) c.in-Ok.ensures refl,
      sym (drop-drop taken c.lines.count c.args.bytes.now) ∙ ap (drop taken) c.lines.invariant.1 ∙ sym c.in-Some.ensures.behind,
      omega (arith, c.in-Some.ensures.length, c.lines.invariant.2),
      omega (arith, c.lines.invariant.3),
    )
