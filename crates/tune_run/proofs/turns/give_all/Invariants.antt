use Rattle.std.proofs.Common.{◌≡◌, ℕ, ◌+◌, ◌-◌, ◌<◌, ◌≤◌, length}
use Rattle.chunk_plain.specs.Owned.{times}
use Rattle.layout_tuner.specs.PageWords.{spot}
use Rattle.layout_tuner.specs.Sits.{Sits, known_by}
use Rattle.tune_run.proofs.turns.give_all.Given as goal

-- the chunks that were handed out were given back
abbrev pub invariant-loop-claimed : goal.invariant-loop-claimed
invariant-loop-claimed t l = record {
  seat : Sits l.table l.seat;
  number : l.seat.number ≡ l.fn.seat.number;
  page : l.tile.page ≡ l.initial.tile.page;
  chunks : l.tile.chunks ≡ l.initial.tile.chunks;
  left : length (known_by l.seat).claimed + l.tile.handed ≡ l.tile.chunks;
  has : (place : ℕ) → l.tile.handed ≤ place → place < l.tile.chunks → 0 < times (spot l.tile.page place) (known_by l.seat).claimed;
  view : known_by l.seat ≡ record (known_by l.fn.seat) { claimed = (known_by l.seat).claimed };
}

abbrev pub decreases-loop-claimed : goal.decreases-loop-claimed
decreases-loop-claimed t l = l.tile.chunks - l.tile.handed
