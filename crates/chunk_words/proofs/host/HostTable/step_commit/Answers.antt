use Rattle.std.proofs.Common.{refl}
use Rattle.chunk_schedules.specs.Moves.{Commits}
use Rattle.chunk_words.specs.Knows.{made_of, desk_of, watch_of, service_of}
use Rattle.chunk_words.proofs.Passing.{goes_commit}
use Rattle.chunk_words.proofs.ServiceEnds.{notes_allowed}
use Rattle.chunk_words.proofs.host.HostTable.step_commit.Goals as goal

pub make_load-requires-clause-allowed : goal.make_load-requires-clause-allowed
make_load-requires-clause-allowed c =
    let self = c.args.self.now in let seat = c.args.seat.now.seat in let k = seat.me.0 in
    rw (self.key, c.requires.seat.idle)
    (notes_allowed self.layout _ seat.id (made_of k) (desk_of k) _ _ (watch_of k) (service_of k) (λ v. refl) (λ v. refl) (λ v. refl) (λ v. refl) (λ v _. goes_commit v _)
    (λ w _. (Commits _, tt, refl)))
