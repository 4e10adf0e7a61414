use Rattle.model_laws.proofs.ReportLemmas.{reports_count_deliveries}
use Rattle.model_laws.proofs.laws.reports_count_deliveries.Goals as goal

pub returns : goal.returns
returns c = reports_count_deliveries
