use Rattle.scenario_text.specs.Scenario.{parts_of}
use Rattle.tracesmb_top.proofs.UnfitLemmas.{fit_closes_none, fit_raws_none}
use Rattle.tracesmb_top.proofs.commands.run.Goals as goal

-- lines that are for threads close no producer
pub run-requires-clause-closes : goal.run-requires-clause-closes
run-requires-clause-closes g c κs within = fit_closes_none c.in-Ok.scenario.lines (rw c.in_default.is at c.find_unfit.ensures.none)

pub run-requires-clause-raws : goal.run-requires-clause-raws
run-requires-clause-raws g c κs within = fit_raws_none c.in-Ok.scenario.lines (rw c.in_default.is at c.find_unfit.ensures.none)

pub returns-in-Err-WriteFault-clause-ends : goal.returns-in-Err-WriteFault-clause-ends
returns-in-Err-WriteFault-clause-ends g c = λ text said. record {
  parts = parts_of c.in-Ok.scenario;
  for_threads = record {
    scenario_is = rw c.in-Ok.is at said;
    fits = rw c.in_default.is at c.find_unfit.ensures.none;
  };
  takes = (rw c.in-Err-WriteFault.field-0-is at c.in-Err-WriteFault.ensures).ends;
}
