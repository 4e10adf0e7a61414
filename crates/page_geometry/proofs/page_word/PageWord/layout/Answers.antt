use Rattle.std.proofs.Common.{rules}
use Rattle.page_geometry.proofs.States.{layout_at, same_layout}
use Rattle.page_geometry.proofs.page_word.PageWord.layout.Goals as goal

pub returns-clause-bits : goal.returns-clause-bits
returns-clause-bits c = layout_at c.args.self.now.0

pub returns-clause-only : goal.returns-clause-only
returns-clause-only c = λ layout fits is. same_layout _ _ layout (search rules) fits (layout_at c.args.self.now.0) is
