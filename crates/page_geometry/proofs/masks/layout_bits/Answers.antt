use Rattle.page_geometry.proofs.MaskLemmas.{layout_mask}
use Rattle.page_geometry.proofs.masks.layout_bits.Goals as goal

pub returns : goal.returns
returns c = rw c.from.ensures (layout_mask _ c.requires)
