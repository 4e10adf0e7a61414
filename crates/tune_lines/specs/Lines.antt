-- The lines of a run of users on pages that are partitioned anew, after their format (docs/FORMATS.md): a line for each user, one for what was
-- collected, and one for each page.
use Rattle.std.specs.Prelude.{ℕ, List, ◌++◌, codes, decimal}
use Rattle.loss_report.specs.Report.{lines_of}
use Rattle.layout_tuner.specs.PageWords.{layout_in, generation_in, chunks_of}
use Rattle.tune_run.specs.declared.counts.UserCounts.{UserCounts}
use Rattle.tune_run.specs.declared.run.TuneReport.{TuneReport}

-- a name with the spaces around it, and its number
abbrev pub field_text : List ℕ → ℕ → List ℕ
field_text name value = name ++ decimal value

-- `user U claimed C none N retiled R refused F`
unfoldable pub user_line : ℕ → UserCounts → List ℕ
user_line user counts = field_text (codes "user ") user ++ field_text (codes " claimed ") counts.claimed ++ field_text (codes " none ") counts.none
    ++ field_text (codes " retiled ") counts.retiled ++ field_text (codes " refused ") counts.refused ++ codes "\n"

-- `taken T`
unfoldable pub taken_line : ℕ → List ℕ
taken_line taken = field_text (codes "taken ") taken ++ codes "\n"

-- `page P generation G chunks K`, by the word of the page
unfoldable pub page_line : ℕ → ℕ → List ℕ
page_line page word = field_text (codes "page ") page ++ field_text (codes " generation ") (generation_in word)
    ++ field_text (codes " chunks ") (chunks_of (layout_in word)) ++ codes "\n"

-- users and pages count from 1
abbrev pub tune_text : TuneReport → List ℕ
tune_text report = lines_of user_line 1 report.users.items ++ (taken_line report.taken ++ lines_of page_line 1 report.words.items)
