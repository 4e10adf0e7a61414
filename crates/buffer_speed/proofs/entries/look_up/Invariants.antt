use Rattle.std.proofs.Common.{◌≡◌, ◌≤◌}
use Rattle.std.specs.FinMap.{len}
use Rattle.buffer_speed.specs.declared.entries.TheConstants.{ENTRIES}
use Rattle.buffer_speed.proofs.entries.look_up.Given as goal

abbrev pub invariant-loop-entry : goal.invariant-loop-entry
invariant-loop-entry l = (len l.index.places ≤ l.entry) × (l.index.capacity ≡ ENTRIES)

abbrev pub invariant-loop-turn : goal.invariant-loop-turn
invariant-loop-turn l = (len l.index.places ≤ ENTRIES) × (l.index.capacity ≡ ENTRIES)
