use Rattle.std.proofs.Common.{◌≡◌, ◌+◌, ◌*◌, ◌≤◌, ◌++◌, drop}
use Rattle.chunk_plain.specs.Laying.{spots_of, ranges_of, pages_in}
use Rattle.chunk_plain.proofs.layout.add_producers.Given as goal

abbrev pub invariant-loop-producer : goal.invariant-loop-producer
invariant-loop-producer l = record {
  spots : l.spots.items ++ spots_of l.pages (drop l.producer-index l.producers) ≡ spots_of 0 l.producers;
  ranges : l.ranges.items ++ ranges_of l.first (drop l.producer-index l.producers) ≡ ranges_of 0 l.producers;
  pages : l.pages + pages_in (drop l.producer-index l.producers) ≡ pages_in l.producers;
  few_pages : l.pages ≤ 64 * l.producer-index;
  few_chunks : l.first ≤ 896 * l.producer-index;
}
