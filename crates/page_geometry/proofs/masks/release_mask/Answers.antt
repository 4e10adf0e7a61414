use Rattle.page_geometry.proofs.MaskLemmas.{release_mask}
use Rattle.page_geometry.proofs.Steps.{releases, keeps_others-and}
use Rattle.page_geometry.proofs.masks.release_mask.Goals as goal

pub returns-clause-bits : goal.returns-clause-bits
returns-clause-bits c = release_mask _ _ _ c.all_but.ensures c.all_but-2.ensures

pub returns-clause-step : goal.returns-clause-step
returns-clause-step c = λ word fits was. releases word _ _ fits (returns-clause-bits c) was

pub returns-clause-others : goal.returns-clause-others
returns-clause-others c = λ word. keeps_others-and word _ _ c.requires (λ bit below _ high claim. (returns-clause-bits c).others bit below high claim)
