use Rattle.chunk_words.specs.Knows.{made_of, desk_of, stage_of, staged, watch_of, service_of}
use Rattle.chunk_words.proofs.MailPass.{compares_allowed}
use Rattle.chunk_words.proofs.host.HostTable.step_compare.Goals as goal

pub make_load-requires-clause-allowed : goal.make_load-requires-clause-allowed
make_load-requires-clause-allowed c =
    let self = c.args.self.now in let seat = c.args.seat.now.seat in let k = seat.me.0 in
    rw (self.key, c.requires.seat.idle)
    (compares_allowed self.layout _ seat.id (made_of k) (desk_of k) (watch_of k) (service_of k) (staged (stage_of k)) c.requires.here _)
