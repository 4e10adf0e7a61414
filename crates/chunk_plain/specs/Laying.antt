-- How the chunks of producers are laid out: all pages of the first producer, then those of the next, and so on; in each page its chunks in
-- order.
use Rattle.std.specs.Prelude.{ℕ, zero, suc, ◌+◌, ◌*◌, List, [], ◌∷◌, ◌++◌, map}
use Rattle.trace_base.specs.declared.policy.WriterSpec.{WriterSpec}
use Rattle.page_geometry.specs.Sizes.{layout_number, payload_size}
use Rattle.page_geometry.specs.declared.geometry.Geometry.{Geometry}
use Rattle.chunk_plain.specs.declared.setup.ProducerSpec.{ProducerSpec}
use Rattle.chunk_plain.specs.declared.setup.Spot.{Spot}
use Rattle.chunk_plain.specs.declared.setup.ChunkRange.{ChunkRange}
use Rattle.chunk_plain.specs.Setup.{Setup}

-- a chunk's spot, by its page and its place there
abbrev pub spot_at : ℕ → ℕ → Geometry → Spot
spot_at page place geometry = record {
  page = page;
  place = place;
  chunks = geometry.chunks;
  layout = layout_number geometry.chunks;
  payload_size = payload_size geometry.page_size geometry.chunks;
}

-- the first so many chunks of a page
abbrev pub page_spots : ℕ → Geometry → ℕ → List Spot
page_spots page geometry zero = []
page_spots page geometry (suc n) = page_spots page geometry n ++ spot_at page n geometry ∷ []

-- the chunks of so many pages from this one on
abbrev pub pages_spots : ℕ → Geometry → ℕ → List Spot
pages_spots page geometry zero = []
pages_spots page geometry (suc n) = pages_spots page geometry n ++ page_spots (page + n) geometry geometry.chunks

-- the chunks of the producers, whose pages have the numbers from this one on
abbrev pub spots_of : ℕ → List ProducerSpec → List Spot
spots_of page [] = []
spots_of page (producer ∷ producers) =
    pages_spots page producer.geometry producer.pages ++ spots_of (page + producer.pages) producers

-- how many chunks a producer has
abbrev pub chunks_in : ProducerSpec → ℕ
chunks_in producer = producer.pages * producer.geometry.chunks

-- the chunks of each producer, where those of the first one have the numbers from this one on
abbrev pub ranges_of : ℕ → List ProducerSpec → List ChunkRange
ranges_of first [] = []
ranges_of first (producer ∷ producers) =
    record { first = first; count = chunks_in producer } ∷ ranges_of (first + chunks_in producer) producers

-- the payload size of each producer's chunks
abbrev pub sizes_of : List ProducerSpec → List ℕ
sizes_of producers = map (λ (producer : ProducerSpec). payload_size producer.geometry.page_size producer.geometry.chunks) producers

-- how many pages the producers have
abbrev pub pages_in : List ProducerSpec → ℕ
pages_in [] = 0
pages_in (producer ∷ producers) = producer.pages + pages_in producers

-- the set-up of a table for these producers and writers
abbrev pub setup_of : List ProducerSpec → List WriterSpec → Setup
setup_of producers writers = record {
  pages = pages_in producers;
  spots = spots_of 0 producers;
  ranges = ranges_of 0 producers;
  sizes = sizes_of producers;
  writers = writers;
}
