use Rattle.std.specs.Prelude.{◌≡◌}
use Rattle.packet_check_rows.proofs.packets.byte_by_byte.Given as goal

abbrev pub invariant-loop-at : goal.invariant-loop-at
invariant-loop-at l = l.check.at ≡ l.at
