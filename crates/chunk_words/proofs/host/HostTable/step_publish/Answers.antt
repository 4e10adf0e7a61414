use Rattle.chunk_words.specs.Knows.{view_of}
use Rattle.chunk_words.proofs.WriterMoves.{publishes_allowed}
use Rattle.chunk_words.proofs.host.HostTable.step_publish.Goals as goal

pub make_store-requires-clause-allowed : goal.make_store-requires-clause-allowed
make_store-requires-clause-allowed c =
    let self = c.args.self.now in let seat = c.args.seat.now in
    rw (self.key, c.payload_index.ensures.here, c.requires.seat.idle)
    (publishes_allowed self.layout _ seat.seat.id seat.place c.args.chunk c.args.position c.args.index c.args.word (view_of seat.seat.me.0) c.requires.held c.requires.index c.requires.kept)
