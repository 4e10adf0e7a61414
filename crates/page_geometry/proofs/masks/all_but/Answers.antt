use Rattle.std.proofs.Common.{rules}
use Rattle.page_geometry.proofs.MaskLemmas.{all_but}
use Rattle.page_geometry.proofs.masks.all_but.Goals as goal

pub returns : goal.returns
returns c = all_but _ _ c.requires (search rules) c.bit.ensures
