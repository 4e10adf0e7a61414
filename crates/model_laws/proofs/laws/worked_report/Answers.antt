use Rattle.model_laws.proofs.WorkedReportLemmas.{worked_report}
use Rattle.model_laws.proofs.laws.worked_report.Goals as goal

pub returns : goal.returns
returns c = worked_report
