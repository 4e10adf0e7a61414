use Rattle.std.proofs.Common.{◌≡◌, ℕ, ◌+◌, ◌<◌, ◌≤◌, ◌++◌, List}
use Rattle.chunk_plain.specs.Owned.{times}
use Rattle.layout_tuner.specs.PageWords.{spot}
use Rattle.layout_tuner.specs.Knows.{first_spots}
use Rattle.layout_tuner.specs.Sits.{Sits, known_by}
use Rattle.layout_tuner.proofs.table.TuneTable.give_first.Given as goal

-- the chunks from `left` on were given back
abbrev pub invariant-loop-left : goal.invariant-loop-left
invariant-loop-left t l = record {
  seat : Sits l.self l.seat;
  number : l.seat.number ≡ l.fn.seat.number;
  most : l.left ≤ l.count;
  steps : l.steps + l.left ≡ l.fn.steps + l.count;
  has : (place : ℕ) → place < l.left → 0 < times (spot l.page place) (known_by l.seat).claimed;
  claimed : (kept : List ℕ) → (known_by l.fn.seat).claimed ≡ kept ++ first_spots l.page l.count → ((place : ℕ) → place < l.count → times (spot l.page place) kept ≡ 0)
      → (known_by l.seat).claimed ≡ kept ++ first_spots l.page l.left;
  asked : (known_by l.seat).asked ≡ (known_by l.fn.seat).asked;
  held : (known_by l.seat).held ≡ (known_by l.fn.seat).held;
  completed : (known_by l.seat).completed ≡ (known_by l.fn.seat).completed;
  retiled : (known_by l.seat).retiled ≡ (known_by l.fn.seat).retiled;
  sights : (known_by l.seat).sights ≡ (known_by l.fn.seat).sights;
}

abbrev pub decreases-loop-left : goal.decreases-loop-left
decreases-loop-left t l = l.left
