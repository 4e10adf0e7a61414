use Rattle.std.proofs.Common.{◌∙◌, rules}
use Rattle.page_geometry.proofs.States.{sets_state}
use Rattle.page_geometry.proofs.Steps.{keeps_others-set}
use Rattle.page_geometry.proofs.page_word.PageWord.with_state.Goals as goal

pub returns-clause-sets : goal.returns-clause-sets
returns-clause-sets c = sets_state _ _ _ _ c.requires (search rules) (c.from.ensures ∙ c.number.ensures)

pub returns-clause-others : goal.returns-clause-others
returns-clause-others c = keeps_others-set _ _ _ _ c.requires (returns-clause-sets c)
