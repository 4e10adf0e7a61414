use Rattle.tracesmb_top.proofs.UnfitLemmas.{fit_clones_none}
use Rattle.tracesmb_top.proofs.commands.replay.Goals as goal

-- lines that are for `replay` make no clones
pub play-requires-clause-clones : goal.play-requires-clause-clones
play-requires-clause-clones g c = fit_clones_none c.in-Ok.scenario.lines (rw c.in_default.is at c.find_unfit.ensures.none)
