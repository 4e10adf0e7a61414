-- The lines before those that are still to come are for the command.
use Rattle.std.proofs.Common.{◌≡◌, length}
use Rattle.tracesmb_top.specs.Refusals.{unfit_in}
use Rattle.tracesmb_top.proofs.unfit.find_unfit.Given as goal

abbrev pub invariant-lines : goal.invariant-lines
invariant-lines l = record { rest : unfit_in l.fn.command l.fn.lines ≡ unfit_in l.fn.command l.walk }

abbrev pub decreases-lines : goal.decreases-lines
decreases-lines l = length l.walk
