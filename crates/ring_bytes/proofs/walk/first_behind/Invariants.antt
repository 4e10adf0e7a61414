use Rattle.std.proofs.Common.{◌≡◌, ◌-◌}
use Rattle.ring_bytes.specs.Rows.{IsRow, live_row}
use Rattle.ring_bytes.proofs.walk.first_behind.Given as goal

abbrev pub invariant-loop-at : goal.invariant-loop-at
invariant-loop-at l = record {
  row : IsRow l.bytes l.at l.end;
  same : live_row l.bytes l.at l.end ≡ live_row l.bytes l.fn.at l.end;
}

abbrev pub decreases-loop-at : goal.decreases-loop-at
decreases-loop-at l = l.limit - l.at
