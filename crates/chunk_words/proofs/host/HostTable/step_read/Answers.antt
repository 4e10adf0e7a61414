use Rattle.chunk_words.specs.Knows.{made_of, desk_of, stage_of, staged, watch_of, service_of}
use Rattle.chunk_words.proofs.Leads.{plain_note, read_may_note}
use Rattle.chunk_words.proofs.Staging.{read_allowed}
use Rattle.chunk_words.proofs.host.HostTable.step_read.Goals as goal

pub make_load-requires-clause-allowed : goal.make_load-requires-clause-allowed
make_load-requires-clause-allowed c =
    let self = c.args.self.now in let seat = c.args.seat.now.seat in let k = seat.me.0 in
    rw (self.key, c.requires.seat.idle)
    (read_allowed self.layout seat.id (made_of k) (desk_of k) (watch_of k) (service_of k) _ _ (staged (stage_of k)) _ c.requires.here
    (λ w. (plain_note c.args.event, read_may_note c.args.event w.service c.requires.read)))
