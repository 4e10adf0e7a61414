use Rattle.std.proofs.Common.{refl}
use Rattle.std.specs.Fmt.{digits}
use Rattle.loss_report.specs.Lines.{entry_text}
use Rattle.loss_report.specs.Raws.{answer_words, raw_line}
use Rattle.loss_report.proofs.laws.worked_reports.Goals as goal

pub returns : goal.returns
unfolding entry_text answer_words raw_line digits
returns c = record { empty = refl; one = refl; two = refl; raws = refl }
