-- What a tally has counted.
use Rattle.std.specs.Prelude.{ℕ, Bool, false, nat_lt, Option, Some, unwrap_or, if◌then◌else◌}
use Rattle.std.specs.BTreeMap.{get, is_at}
use Rattle.std.specs.Ordering.{nat_cmp}
use Rattle.trace_summary.specs.declared.summary.Totals.{Totals}
use Rattle.trace_summary.specs.declared.tally.Tally.{Tally}

-- the totals of no packets
abbrev pub none : Totals
none = record { packets = 0; marked = 0; bytes = 0 }

-- whether the totals of a sequence are at hand
abbrev pub has_at_hand : Tally → ℕ → Bool
has_at_hand tally sequence = if nat_lt 0 tally.totals.packets then is_at (nat_cmp tally.at_hand) sequence else false

-- the totals of a sequence, where a packet of it was counted: those at hand stand for the map's
abbrev pub totals_in : Tally → ℕ → Option Totals
totals_in tally sequence = if has_at_hand tally sequence then Some tally.totals else get nat_cmp tally.sequences sequence

-- the totals of a sequence, before its next packet
abbrev pub totals_before : Tally → ℕ → Totals
totals_before tally sequence = unwrap_or (totals_in tally sequence) none
