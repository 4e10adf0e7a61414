-- A collector that takes the chunks of the first writer.
use Rattle.std.specs.Prelude.{◌≡◌, ℕ, ◌+◌, ◌<◌, ◌≤◌, [], length}
use Rattle.chunk_plain.specs.declared.setup.ChunkRange.{ChunkRange}
use Rattle.chunk_plain.specs.Views.{taken_of}
use Rattle.chunk_plain.specs.Words.{AllArrived}
use Rattle.chunk_plain.specs.Meaning.{Meaning}
use Rattle.chunk_plain.specs.Setup.{from_of}

-- the first writer's first id is 0, these chunks are there, and the service took so many of the first writer, all of which arrived and none of
-- which it still reads
pub record IsCollecting {T W S : Type 0} (means : Meaning T W S) (table : T) (seat : S) (range : ChunkRange) (taken : ℕ) : Type 0 where
  pub seat_is : means.serves table seat
  pub writers : 1 ≤ length (means.setup table).writers
  pub chunks : range.first + range.count ≤ length (means.setup table).spots
  pub listed : 0 < length (means.service_view table seat).taken
  pub none_out : (means.service_view table seat).reading ≡ []
  pub arrived : AllArrived (means.service_view table seat)
  pub from : from_of (means.setup table) 0 ≡ 0
  pub count : taken ≡ (taken_of (means.service_view table seat) 0).count
