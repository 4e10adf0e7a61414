use Rattle.chunk_words.specs.Knows.{made_of, desk_of, watch_of, service_of}
use Rattle.chunk_words.proofs.MailSteps.{reads_answer_allowed}
use Rattle.chunk_words.proofs.host.HostTable.step_read_answer.Goals as goal

pub make_load-requires-clause-allowed : goal.make_load-requires-clause-allowed
make_load-requires-clause-allowed c =
    let self = c.args.self.now in let seat = c.args.seat.now.seat in let k = seat.me.0 in
    rw (self.key, c.answer_index-index.ensures.here, c.requires.seat.idle)
    (reads_answer_allowed self.layout _ seat.id (made_of k) (desk_of k) (watch_of k) c.args.place (service_of k) c.requires.place)
