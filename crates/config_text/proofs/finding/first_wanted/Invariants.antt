use Rattle.std.proofs.Common.{◌≡◌, ℕ, ◌<◌, false, get_or}
use Rattle.config_text.specs.declared.kept.KeptProducer.{KeptProducer}
use Rattle.config_text.specs.Wanted.{is_wanted}
use Rattle.config_text.proofs.finding.first_wanted.Given as goal

abbrev pub invariant-loop-i : goal.invariant-loop-i
invariant-loop-i l = (k : ℕ) (d : KeptProducer) → k < l.i → is_wanted l.wanted (get_or l.producers k d) ≡ false
