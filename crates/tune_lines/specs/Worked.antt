-- Worked lines of runs of one user.
use Rattle.std.specs.Prelude.{◌≡◌, ◌∷◌, [], codes}
use Rattle.loss_report.specs.Report.{lines_of}
use Rattle.tune_lines.specs.Lines.{user_line, taken_line, page_line}

-- what the lines are of a user alone in two turns, of what was taken, and of pages
pub record WorkedLines : Type 0 where
  -- a user alone, in two turns
  pub user : user_line 1 (record { claimed = 1; none = 0; retiled = 1; refused = 0 }) ≡ codes "user 1 claimed 1 none 0 retiled 1 refused 0\n"
  pub taken : taken_line 1 ≡ codes "taken 1\n"
  -- and page 3 behind them: its word, and that of a page that was never partitioned anew
  pub page : page_line 3 140188806283264 ≡ codes "page 3 generation 1 chunks 7\n"
  pub others : lines_of page_line 1 (1342177280 ∷ 1342177280 ∷ []) ≡ codes "page 1 generation 0 chunks 14\npage 2 generation 0 chunks 14\n"
