use Rattle.std.proofs.Common.{true, false}
use Rattle.trace_writer.specs.Claims.{FindsNone}
use Rattle.trace_writer.specs.OwnSteps.{NoneHeld}
use Rattle.trace_writer.proofs.claims.Trying.{IsTrying}
use Rattle.trace_writer.proofs.claim.claim_trying.Given as goal

abbrev pub invariant-tries : goal.invariant-tries
invariant-tries g l = record {
  none : FindsNone (g.W.Words.means.view l.initial.table l.initial.seat) (g.W.Words.means.view l.table l.seat);
  trying : IsTrying g.W.Words.means g.H.HelperOn.needs g.H.HelperOn.helps false
      l.route l.tries l.initial.help l.initial.table l.initial.seat l.initial.steps l.left l.help l.table l.seat l.steps;
  begins : NoneHeld (g.W.Words.means.view l.initial.table l.initial.seat).begun → IsTrying g.W.Words.means g.H.HelperOn.needs g.H.HelperOn.helps true
      l.route l.tries l.initial.help l.initial.table l.initial.seat l.initial.steps l.left l.help l.table l.seat l.steps;
}

abbrev pub decreases-tries : goal.decreases-tries
decreases-tries g l = l.left
