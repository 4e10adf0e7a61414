use Rattle.std.proofs.Common.{arith}
use Rattle.chunk_words.specs.Knows.{made_of, desk_of, watch_of, service_of}
use Rattle.chunk_words.proofs.MailSteps.{request_allowed}
use Rattle.chunk_words.proofs.host.HostTable.step_request.Goals as goal

pub make_store-requires-clause-allowed : goal.make_store-requires-clause-allowed
make_store-requires-clause-allowed c =
    let self = c.args.self.now in let seat = c.args.seat.now.seat in let k = seat.me.0 in
    rw (self.key, self.request_is, c.requires.seat.idle)
    (request_allowed self.layout _ seat.id (made_of k) (desk_of k) (watch_of k) c.args.flush (service_of k) c.requires.none_made c.requires.none_read c.requires.next (omega arith))
