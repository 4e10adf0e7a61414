use Rattle.tune_rows.proofs.Popped.{first_of, second_of}
use Rattle.tune_rows.proofs.pages.both.Goals as goal

pub returns-clause-first : goal.returns-clause-first
returns-clause-first c = first_of c.args.table.now c.args.seats.items c.pop.new.self.items c.pop-2.new.self.items c.in-Some-Some.first c.in-Some-Some.second
    c.requires.four c.requires.seats c.in-Some-Some.ensures.items c.in-Some-Some.ensures'.items

pub returns-clause-second : goal.returns-clause-second
returns-clause-second c = second_of c.args.table.now c.args.seats.items c.pop.new.self.items c.in-Some-Some.second c.requires.four c.requires.seats c.in-Some-Some.ensures.items
