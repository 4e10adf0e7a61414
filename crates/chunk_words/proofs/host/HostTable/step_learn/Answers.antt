use Rattle.std.proofs.Common.{refl}
use Rattle.chunk_words.specs.Knows.{made_of, desk_of, watch_of, service_of}
use Rattle.chunk_words.specs.Moves.{body_in, watched}
use Rattle.chunk_words.proofs.ServiceEnds.{learns_allowed}
use Rattle.chunk_words.proofs.host.HostTable.step_learn.Goals as goal

pub make_load-requires-clause-allowed : goal.make_load-requires-clause-allowed
make_load-requires-clause-allowed c =
    let self = c.args.self.now in let seat = c.args.seat.now.seat in let k = seat.me.0 in
    rw (self.key, c.requires.out, c.requires.watch)
    (learns_allowed self.layout _ seat.id (made_of k) (desk_of k) c.args.writer c.args.chunk _ _ (watched (watch_of k)) (body_in seat.me.1) (service_of k) c.requires.writer c.requires.last refl)
