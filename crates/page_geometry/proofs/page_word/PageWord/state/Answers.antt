use Rattle.std.proofs.Common.{sym}
use Rattle.page_geometry.proofs.States.{has_state, same_state}
use Rattle.page_geometry.proofs.page_word.PageWord.state.Goals as goal

pub returns-clause-bits : goal.returns-clause-bits
returns-clause-bits c = has_state _ _ _ (sym c.from_number.ensures)

pub returns-clause-only : goal.returns-clause-only
returns-clause-only c = λ state is. same_state _ _ _ state (returns-clause-bits c) is
