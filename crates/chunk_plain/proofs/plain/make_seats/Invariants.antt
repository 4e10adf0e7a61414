use Rattle.chunk_plain.specs.Made.{HasSeats}
use Rattle.chunk_plain.proofs.plain.make_seats.Given as goal

abbrev pub invariant-loop-place : goal.invariant-loop-place
invariant-loop-place l = HasSeats l.place l.seats.items
