use Rattle.std.proofs.Common.{arith}
use Rattle.chunk_words.specs.Knows.{view_of}
use Rattle.chunk_words.proofs.MailSteps.{answer_allowed}
use Rattle.chunk_words.proofs.host.HostTable.step_answer.Goals as goal

pub make_store-requires-clause-allowed : goal.make_store-requires-clause-allowed
make_store-requires-clause-allowed c =
    let self = c.args.self.now in let seat = c.args.seat.now in
    rw (self.key, c.answer_index-index.ensures.here, c.requires.seat.idle)
    (answer_allowed self.layout _ seat.seat.id seat.place c.args.flush c.args.chunks (view_of seat.seat.me.0)
    (record { known = c.requires.known; newer = c.requires.newer; completed = c.requires.chunks; none_held = c.requires.none_held; no_claim = c.requires.no_claim; small = omega arith }))
