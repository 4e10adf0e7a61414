use Rattle.layout_tuner.specs.Sits.{Attends, known_by_collector}
use Rattle.tune_run.specs.Jobs.{CollectsRounds}
use Rattle.tune_run.proofs.jobs.collect_rounds.Given as goal

-- the rounds so far
abbrev pub invariant-loop-round : goal.invariant-loop-round
invariant-loop-round t l = record {
  collect : Attends l.fn.table l.collect;
  rounds : CollectsRounds l.round (known_by_collector l.fn.collect) (known_by_collector l.collect) l.taken;
}
