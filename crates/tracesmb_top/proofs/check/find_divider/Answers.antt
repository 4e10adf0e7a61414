use Rattle.std.specs.Prelude.{codes}
use Rattle.std.proofs.lemmas.Bool.Decides.{Decides-eqb}
use Rattle.std.proofs.lemmas.Slice.Eq.{starts_is}
use Rattle.tracesmb_top.proofs.DividerLemmas.{divider_front, divider_none, divider_behind}
use Rattle.tracesmb_top.proofs.check.find_divider.Goals as goal

pub returns-then-starts_with-clause-place : goal.returns-then-starts_with-clause-place
returns-then-starts_with-clause-place c =
    let starts = starts_is Decides-eqb c.args.input.now (codes "==\n") c.starts_with.result c.starts_with.ensures.value in
    divider_front c.args.input.now c.starts_with.result c.if-starts_with.true starts.0

pub returns-in-None-clause-place : goal.returns-in-None-clause-place
returns-in-None-clause-place c =
    let starts = starts_is Decides-eqb c.args.input.now (codes "==\n") c.starts_with.result c.starts_with.ensures.value in
    divider_none c.args.input.now c.starts_with.result c.if-starts_with.false starts.1 c.in-None.ensures

pub returns-in-Some-clause-place : goal.returns-in-Some-clause-place
returns-in-Some-clause-place c =
    let starts = starts_is Decides-eqb c.args.input.now (codes "==\n") c.starts_with.result c.starts_with.ensures.value in
    divider_behind c.args.input.now c.starts_with.result c.in-Some.at c.if-starts_with.false starts.1 c.in-Some.ensures
