-- The report of a run counts every packet once, under its outcome.
use Rattle.replay_model.proofs.BalanceLemmas.{done_is_balanced}
use Rattle.replay_model.proofs.CountLemmas.{done_counts}
use Rattle.run_model.specs.Laws.{EveryRunIsBalanced, EveryRunCountsPackets}
use Rattle.run_model.proofs.RunLemmas.{laid_out, is_done}

pub every_run_is_balanced : EveryRunIsBalanced
every_run_is_balanced scenario setup world run few set_up =
    let done = run.before.done in
    done_is_balanced scenario setup world (is_done scenario setup world _ done (laid_out scenario setup done.setup_is set_up)) few set_up

pub every_run_counts_packets : EveryRunCountsPackets
every_run_counts_packets scenario setup world run few set_up =
    let done = run.before.done in
    done_counts scenario setup world (is_done scenario setup world _ done (laid_out scenario setup done.setup_is set_up)) few set_up
