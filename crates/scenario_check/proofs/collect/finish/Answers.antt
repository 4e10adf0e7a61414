use Rattle.scenario_check.proofs.FinishLemmas.{finish_rising, finish_is, finish_many}
use Rattle.scenario_check.proofs.collect.finish.Goals as goal

pub new-requires : goal.new-requires
new-requires c = finish_rising c.requires.0 c.args.emitter c.requires.1

pub returns-clause-packets : goal.returns-clause-packets
returns-clause-packets c = λ account holds. finish_is account c.args.emitter c.new.result c.new.ensures holds

pub returns-clause-many : goal.returns-clause-many
returns-clause-many c = finish_many c.args.emitter c.new.result c.new.ensures
