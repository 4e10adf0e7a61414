-- A line that commits a chunk is one more, and another one none.
use Rattle.std.proofs.Common.{List, length, ap, arith}
use Rattle.scenario_text.specs.declared.scenario.NumberedLine.{NumberedLine}
use Rattle.replay_host.specs.Raws.{raws_in}
use Rattle.replay_host.proofs.RawLinesLemmas.{not_raw, numbers_raw, numbers_other}
use Rattle.replay_host.proofs.raws.count_raws.Goals as goal

pub lines-preserved-in-Raw : goal.lines-preserved-in-Raw
lines-preserved-in-Raw c =
    let first = c.in-Some.ensures.first in
    let counted = c.lines.invariant.counted in
    let few = c.lines.invariant.few in
    let one = ap (λ (ls : List NumberedLine). raws_in ls) first in
    let next = ap (λ (ns : List _). length ns) (numbers_raw c.in-Some.line c.next.new.self c.in-Raw.writer c.in-Raw.chunk c.in-Raw.is) in
    let long = ap (λ (ls : List NumberedLine). length ls) first in
    record { counted = omega (arith, counted, one, next); few = omega (arith, few, long) }

pub lines-preserved : goal.lines-preserved
lines-preserved c =
    let first = c.in-Some.ensures.first in
    let counted = c.lines.invariant.counted in
    let few = c.lines.invariant.few in
    let one = ap (λ (ls : List NumberedLine). raws_in ls) first in
    let none = not_raw c.in-Some.line.what (λ writer chunk same. c.in_default-what.not-Raw writer chunk same) in
    let next = ap (λ (ns : List _). length ns) (numbers_other c.in-Some.line c.next.new.self none) in
    let long = ap (λ (ls : List NumberedLine). length ls) first in
    record { counted = omega (arith, counted, one, next); few = omega (arith, few, long) }
