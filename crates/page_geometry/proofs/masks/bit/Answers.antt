use Rattle.page_geometry.proofs.MaskLemmas.{one_bit}
use Rattle.page_geometry.proofs.masks.bit.Goals as goal

pub returns : goal.returns
returns c = one_bit c.args.place c.requires
