use Rattle.std.proofs.Common.{refl}
use Rattle.std.specs.Fmt.{digits}
use Rattle.tune_lines.specs.Lines.{user_line, taken_line, page_line}
use Rattle.tune_lines.proofs.laws.worked_lines.Goals as goal

pub returns : goal.returns
unfolding user_line taken_line page_line digits
returns c = record { user = refl; taken = refl; page = refl; others = refl }
