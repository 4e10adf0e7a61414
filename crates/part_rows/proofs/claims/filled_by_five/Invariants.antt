use Rattle.std.proofs.Common.{◌≡◌, ℕ, ◌<◌, ◌≤◌, []}
use Rattle.chunk_plain.specs.World.{writer}
use Rattle.chunk_plain.specs.Words.{IsAtRest}
use Rattle.part_rows.proofs.claims.filled_by_five.Given as goal

-- the set-up stays, and the writers that haven't asked yet have begun nothing
abbrev pub invariant-loop-place : goal.invariant-loop-place
invariant-loop-place g l = record {
  setup : l.table.layout ≡ l.initial.table.layout;
  waits : (place : ℕ) → l.place ≤ place → place < 5 → IsAtRest l.table.layout place (writer l.table.told.world place) × ((writer l.table.told.world place).begun ≡ []);
}
