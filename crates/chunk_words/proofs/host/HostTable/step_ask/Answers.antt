use Rattle.chunk_words.specs.Knows.{view_of}
use Rattle.chunk_words.proofs.Asking.{asks_allowed}
use Rattle.chunk_words.proofs.host.HostTable.step_ask.Goals as goal

pub make_load-requires-clause-allowed : goal.make_load-requires-clause-allowed
make_load-requires-clause-allowed c =
    let self = c.args.self.now in let seat = c.args.seat.now in
    rw (self.key, c.page_index.ensures.here, c.spot-spot.ensures.spot, c.requires.seat.idle)
    (asks_allowed self.layout _ seat.seat.id seat.place c.args.chunk (view_of seat.seat.me.0) c.requires.chunk)
