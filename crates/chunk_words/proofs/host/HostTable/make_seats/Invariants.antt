use Rattle.std.proofs.Common.{◌≡◌, []}
use Rattle.chunk_plain.specs.Plain.{first_world}
use Rattle.chunk_words.specs.Knows.{Service, Nothing, first_desk}
use Rattle.chunk_words.specs.Made.{HasWriterSeats}
use Rattle.chunk_words.proofs.host.HostTable.make_seats.Given as goal

-- the seats so far were made
abbrev pub invariant-loop-place : goal.invariant-loop-place
invariant-loop-place l = record {
  seat : l.service.seat.table_id ≡ l.fn.service.seat.table_id;
  me : l.service.seat.me ≡ (Service 0 l.place first_desk Nothing (first_world l.self.layout).service, []);
  seats : HasWriterSeats l.self l.place l.seats.items;
}
