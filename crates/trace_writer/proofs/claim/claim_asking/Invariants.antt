use Rattle.std.proofs.Common.{true, false}
use Rattle.trace_writer.specs.Claims.{FindsNone}
use Rattle.trace_writer.specs.Helping.{IsWork}
use Rattle.trace_writer.specs.Moments.{at_step}
use Rattle.trace_writer.proofs.claim.claim_asking.Given as goal

abbrev pub invariant-claims : goal.invariant-claims
invariant-claims g l = record {
  none : FindsNone (g.W.Words.means.view l.initial.table l.initial.seat) (g.W.Words.means.view l.table l.seat);
  work : IsWork g.W.Words.means g.H.HelperOn.needs g.H.HelperOn.helps false
      l.route (at_step l.initial.help l.initial.table l.initial.seat l.initial.steps) false (at_step l.help l.table l.seat l.steps);
  begins : IsWork g.W.Words.means g.H.HelperOn.needs g.H.HelperOn.helps true
      l.route (at_step l.initial.help l.initial.table l.initial.seat l.initial.steps) false (at_step l.help l.table l.seat l.steps);
}

abbrev pub decreases-claims : goal.decreases-claims
decreases-claims g l = g.H.HelperOn.turns l.help
