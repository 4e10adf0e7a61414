use Rattle.page_geometry.proofs.MaskLemmas.{claim_mask}
use Rattle.page_geometry.proofs.Steps.{claims, keeps_others-claim}
use Rattle.page_geometry.proofs.masks.claim_mask.Goals as goal

pub returns-clause-bits : goal.returns-clause-bits
returns-clause-bits c = claim_mask _ _ _ _ c.claim_bit.ensures c.layout_bits.ensures

pub returns-clause-step : goal.returns-clause-step
returns-clause-step c = λ word. claims word _ _ _ (returns-clause-bits c)

pub returns-clause-others : goal.returns-clause-others
returns-clause-others c = λ word. keeps_others-claim word _ _ _ c.requires.chunk (returns-clause-bits c)
