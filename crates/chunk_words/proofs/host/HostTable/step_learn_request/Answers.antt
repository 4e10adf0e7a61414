use Rattle.chunk_words.specs.Knows.{view_of}
use Rattle.chunk_words.proofs.MailSteps.{learns_allowed}
use Rattle.chunk_words.proofs.host.HostTable.step_learn_request.Goals as goal

pub make_load-requires-clause-allowed : goal.make_load-requires-clause-allowed
make_load-requires-clause-allowed c =
    let self = c.args.self.now in let seat = c.args.seat.now in
    rw (self.key, self.request_is, c.requires.seat.idle)
    (learns_allowed self.layout _ seat.seat.id seat.place (view_of seat.seat.me.0))
