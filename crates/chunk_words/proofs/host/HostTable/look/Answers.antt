use Rattle.chunk_words.proofs.Rests.{attends_looked, looked_at}
use Rattle.chunk_words.proofs.host.HostTable.look.Goals as goal

pub returns-clause-view : goal.returns-clause-view
returns-clause-view c =
    let seat = c.args.seat.now in let peek = c.step_peek-word in let find = c.step_find-found in
    looked_at c.args.self.now.layout c.args.chunk peek.result find.result c.unpack.result seat.seat.me peek.new.seat.seat.me find.new.seat.seat.me
    peek.ensures.me find.ensures.me c.unpack.ensures.header

pub returns-clause-seat : goal.returns-clause-seat
returns-clause-seat c =
    let peek = c.step_peek-word in let find = c.step_find-found in
    attends_looked c.args.self.now c.args.seat.now peek.new.seat find.new.seat c.args.chunk peek.result find.result c.requires.seat peek.ensures.seat find.ensures.seat
    peek.ensures.me find.ensures.me
