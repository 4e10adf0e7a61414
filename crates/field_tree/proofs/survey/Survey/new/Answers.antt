use Rattle.std.proofs.Common.{refl}
use Rattle.field_tree.specs.Judged.{deepest, reserved_from}
use Rattle.field_tree.proofs.survey.Survey.new.Goals as goal

pub returns : goal.returns
unfolding deepest reserved_from
returns c = record { reserved = refl; deep = refl; len = refl }
