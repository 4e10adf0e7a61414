-- What `tune` writes: numbers of users that partition pages anew, whose sums hold.
use Rattle.std.specs.Prelude.{◌≡◌, ℕ, List}
use Rattle.tune_run.specs.declared.run.TuneReport.{TuneReport}
use Rattle.tune_run.specs.Told.{IsReport}
use Rattle.tune_lines.specs.Lines.{tune_text}

-- The bytes are the lines of a run of so many users with so many turns each. The sums are in `IsReport`: of each user claims and claims in vain
-- together, and retiles and refusals together, are its turns of each kind; as many chunks were collected as all users claimed; and the
-- generations of the pages are together all users' retiles.
pub record IsTuned (users turns : ℕ) (bytes : List ℕ) : Type 0 where
  pub report : TuneReport
  pub is : IsReport users turns report
  pub bytes_are : bytes ≡ tune_text report
