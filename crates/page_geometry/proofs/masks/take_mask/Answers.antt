use Rattle.page_geometry.proofs.Steps.{takes, keeps_others-and}
use Rattle.page_geometry.proofs.masks.take_mask.Goals as goal

pub returns-clause-step : goal.returns-clause-step
returns-clause-step c = λ word fits was. takes word _ _ fits c.all_but.ensures was

pub returns-clause-others : goal.returns-clause-others
returns-clause-others c = λ word. keeps_others-and word _ _ c.requires (λ bit below low _ _. c.all_but.ensures.others bit below low)
