use Rattle.std.proofs.Common.{◌∙◌}
use Rattle.config_text.proofs.FindingLemmas.{named_as}
use Rattle.config_text.proofs.finding.producer_place.Goals as goal

pub returns : goal.returns
returns c = c.first_wanted.ensures ∙ named_as c.in_ok-wanted.wanted c.args.producers.now c.args.filters.now c.in_ok-wanted.ensures
