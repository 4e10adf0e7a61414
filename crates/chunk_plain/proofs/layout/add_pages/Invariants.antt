use Rattle.std.proofs.Common.{◌≡◌, ◌++◌}
use Rattle.chunk_plain.specs.Laying.{pages_spots}
use Rattle.chunk_plain.proofs.layout.add_pages.Given as goal

abbrev pub invariant-loop-k : goal.invariant-loop-k
invariant-loop-k l = l.spots.items ≡ l.initial.spots.items ++ pages_spots l.page l.geometry l.k
