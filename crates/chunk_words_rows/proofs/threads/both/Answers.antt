use Rattle.chunk_words_rows.proofs.Popped.{first_of, second_of}
use Rattle.chunk_words_rows.proofs.threads.both.Goals as goal

pub returns-clause-first : goal.returns-clause-first
returns-clause-first c = first_of c.args.host.now c.args.seats.items c.pop.new.self.items c.pop-2.new.self.items c.in-Some-Some.first c.in-Some-Some.second
    c.requires c.in-Some-Some.ensures.items c.in-Some-Some.ensures'.items

pub returns-clause-second : goal.returns-clause-second
returns-clause-second c = second_of c.args.host.now c.args.seats.items c.pop.new.self.items c.in-Some-Some.second c.requires c.in-Some-Some.ensures.items
