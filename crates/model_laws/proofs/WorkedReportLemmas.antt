-- The worked history, computed.
use Rattle.std.proofs.Common.{refl, arith}
use Rattle.trace_model.proofs.WorkedLemmas.{worked_rows}
use Rattle.model_laws.specs.WorkedReports.{WorkedReport}

pub worked_report : WorkedReport
worked_report = record {
  cut = worked_rows.halved.cut;
  countable = omega arith;
  known = refl;
  start = refl;
  arrivals = (
    (λ e. record { page = _; there = refl; continues = refl; no_more = omega arith }),
    ((λ e. record { page = _; there = refl; continues = refl; no_more = omega arith }), tt),
  );
  closes = refl;
}
