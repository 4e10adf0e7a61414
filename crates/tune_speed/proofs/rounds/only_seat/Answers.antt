use Rattle.tune_speed.proofs.Alone.{only_of}
use Rattle.tune_speed.proofs.rounds.only_seat.Goals as goal

pub returns-in-Some : goal.returns-in-Some
returns-in-Some c = only_of c.args.table.now c.args.seats.items c.pop.new.self.items c.in-Some.seat c.requires.four c.requires.seats c.in-Some.ensures.items
