-- How often turns came to what.
use Rattle.std.specs.Prelude.{ℕ, ◌+◌}
use Rattle.tune_run.specs.declared.counts.Deed.{Deed}
use Rattle.tune_run.specs.declared.counts.Deed.TheVariants.{Completed, FoundNone, Partitioned, Refused}
use Rattle.tune_run.specs.declared.counts.UserCounts.{UserCounts}

-- of no turn
abbrev pub no_counts : UserCounts
no_counts = record { claimed = 0; none = 0; retiled = 0; refused = 0 }

-- one turn more, which came to this
abbrev pub counted : UserCounts → Deed → UserCounts
counted counts Completed = record counts { claimed = counts.claimed + 1 }
counted counts FoundNone = record counts { none = counts.none + 1 }
counted counts Partitioned = record counts { retiled = counts.retiled + 1 }
counted counts Refused = record counts { refused = counts.refused + 1 }

-- how many turns were counted
abbrev pub counts_sum : UserCounts → ℕ
counts_sum counts = counts.claimed + counts.none + counts.retiled + counts.refused
