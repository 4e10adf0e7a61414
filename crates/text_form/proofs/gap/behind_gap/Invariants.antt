use Rattle.std.proofs.Common.{length}
use Rattle.text_form.specs.Walking.{PassesGap}
use Rattle.text_form.proofs.gap.behind_gap.Given as goal

abbrev pub invariant-bytes : goal.invariant-bytes
invariant-bytes l = PassesGap l.fn.here.line l.fn.here.rest.now l.line l.rest

abbrev pub decreases-bytes : goal.decreases-bytes
decreases-bytes l = length l.rest
