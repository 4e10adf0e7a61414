use Rattle.std.proofs.Common.{[], ap}
use Rattle.scenario_text.specs.Accepted.{own_kinds}
use Rattle.scenario_text.proofs.OwnLineLemmas.{own_next, own_passed}
use Rattle.scenario_text.proofs.line_list.LineWalk.next_kind_of.Goals as goal

pub returns-in-Some-clause-first : goal.returns-in-Some-clause-first
returns-in-Some-clause-first c =
    own_next c.args.number c.args.self.now c.in-Some.line c.next_of.new.self c.in-Some.ensures.found.0 c.in-Some.ensures.found.1

pub returns-in-None-clause-none : goal.returns-in-None-clause-none
returns-in-None-clause-none c =
    (own_passed c.args.number c.args.self.now [] c.in-None.ensures.none.0, ap (own_kinds c.args.number) c.in-None.ensures.none.1)
