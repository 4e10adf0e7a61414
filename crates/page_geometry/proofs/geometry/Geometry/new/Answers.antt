use Rattle.std.proofs.Common.{rules}
use Rattle.page_geometry.proofs.SizeLemmas.{are_apart}
use Rattle.page_geometry.proofs.geometry.Geometry.new.Goals as goal

pub returns-clause-apart : goal.returns-clause-apart
returns-clause-apart c = are_apart _ _ (search rules) (search rules)
