use Rattle.service_core.proofs.ids.counts_fit.Goals as goal

pub returns : goal.returns
returns c place = (c.type_inv.counts place).fits
