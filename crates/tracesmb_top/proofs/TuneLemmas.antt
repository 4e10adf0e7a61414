-- The pages of a run that has ended.
use Rattle.std.proofs.Common.{ℕ, ◌<◌, subst}
use Rattle.tune_run.specs.declared.run.TuneReport.{TuneReport}
use Rattle.tune_run.specs.Told.{IsReport}
use Rattle.tune_lines.specs.Pages.{HasLayouts}

-- each of them has a layout
pub report_layouts : (users turns : ℕ) (report : TuneReport) → IsReport users turns report → HasLayouts report.words.items
report_layouts users turns report is page within =
    let page_is = is.unused page (subst (λ (n : ℕ). page < n) is.pages within) in
    record { least = page_is.layout_least; most = page_is.layout_most }
