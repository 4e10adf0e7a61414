use Rattle.std.proofs.Common.{arith, subst, sym}
use Rattle.chunk_words.specs.Made.{HasWriterSeats}
use Rattle.table_speed.proofs.TimedLemmas.{own_timed, four_drops, none_taken}
use Rattle.table_speed.proofs.places.make_own.Goals as goal

pub returns-clause-seats : goal.returns-clause-seats
returns-clause-seats c =
    let count = c.in-Ok.ensures.seats.count_is in
    record { few = omega (arith, count); all = subst (λ n. HasWriterSeats c.in-Ok.host n c.in-Ok.seats.items) (sym count) c.in-Ok.ensures.seats }

pub returns-clause-timed : goal.returns-clause-timed
returns-clause-timed c =
    own_timed c.in-Ok.host c.args.geometry _ c.in-Ok.ensures.setup
    (four_drops c.drops.result c.drops-2.result c.drops-3.result c.drops-4.result 1 2 3 4 c.drops.ensures c.drops-2.ensures c.drops-3.ensures c.drops-4.ensures)
    c.requires.page_size c.requires.chunks

pub returns-clause-none_taken : goal.returns-clause-none_taken
returns-clause-none_taken c = none_taken c.in-Ok.host c.in-Ok.service c.in-Ok.ensures.service_view
