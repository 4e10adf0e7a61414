-- One writer fewer is left.
use Rattle.std.specs.Prelude.{vec_len}
use Rattle.tracesmb_c.proofs.session.let_go.Given as goal

abbrev pub decreases-loop-home : goal.decreases-loop-home
decreases-loop-home l = vec_len l.left
