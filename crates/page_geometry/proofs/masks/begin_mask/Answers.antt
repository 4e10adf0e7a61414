use Rattle.std.proofs.Common.{inl, refl}
use Rattle.page_geometry.proofs.Steps.{begins, keeps_others-or}
use Rattle.page_geometry.proofs.masks.begin_mask.Goals as goal

pub returns-clause-step : goal.returns-clause-step
returns-clause-step c = λ word was. begins word _ _ c.bit.ensures was

pub returns-clause-others : goal.returns-clause-others
returns-clause-others c = λ word. keeps_others-or word _ _ _ c.requires (inl refl) c.bit.ensures
