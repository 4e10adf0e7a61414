use Rattle.std.proofs.Common.{◌≡◌, ◌++◌}
use Rattle.chunk_plain.specs.Laying.{page_spots}
use Rattle.chunk_plain.proofs.layout.add_page.Given as goal

abbrev pub invariant-loop-place : goal.invariant-loop-place
invariant-loop-place l = l.spots.items ≡ l.initial.spots.items ++ page_spots l.page l.geometry l.place
