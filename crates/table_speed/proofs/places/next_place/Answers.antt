use Rattle.std.proofs.Common.{arith}
use Rattle.table_speed.proofs.SeatLemmas.{last_seat, seats_left, one_less}
use Rattle.table_speed.proofs.places.next_place.Goals as goal

pub place_for-requires-clause-sits : goal.place_for-requires-clause-sits
place_for-requires-clause-sits c =
    (last_seat c.args.host.now c.args.seats.now.items c.pop.new.self.items c.in-Some.seat c.requires.seats.all c.in-Some.ensures.items).1

pub place_for-requires-clause-fresh : goal.place_for-requires-clause-fresh
place_for-requires-clause-fresh c =
    (last_seat c.args.host.now c.args.seats.now.items c.pop.new.self.items c.in-Some.seat c.requires.seats.all c.in-Some.ensures.items).2

pub place_for-requires-clause-place : goal.place_for-requires-clause-place
place_for-requires-clause-place c =
    let place = (last_seat c.args.host.now c.args.seats.now.items c.pop.new.self.items c.in-Some.seat c.requires.seats.all c.in-Some.ensures.items).0 in
    let count = c.len-before.ensures in let joined = c.pop.new.self.ok.0 in omega (arith, place, count, joined)

pub returns-clause-seats : goal.returns-clause-seats
returns-clause-seats c =
    let less = one_less c.args.seats.now.items c.pop.new.self.items c.in-Some.seat c.in-Some.ensures.items in let few = c.requires.seats.few in
    record { few = omega (arith, less, few); all = seats_left c.args.host.now c.args.seats.now.items c.pop.new.self.items c.in-Some.seat c.requires.seats.all c.in-Some.ensures.items }
