use Rattle.std.proofs.Common.{inr, refl}
use Rattle.page_geometry.proofs.Steps.{completes, keeps_others-or}
use Rattle.page_geometry.proofs.masks.complete_mask.Goals as goal

pub returns-clause-step : goal.returns-clause-step
returns-clause-step c = λ word was. completes word _ _ c.bit.ensures was

pub returns-clause-others : goal.returns-clause-others
returns-clause-others c = λ word. keeps_others-or word _ _ _ c.requires (inr refl) c.bit.ensures
