use Rattle.std.proofs.Common.{refl, subst}
use Rattle.chunk_plain.specs.Views.{ServiceView}
use Rattle.chunk_plain.specs.Words.{MayNote, event_of}
use Rattle.chunk_schedules.specs.Moves.{Notes}
use Rattle.chunk_words.specs.Rule.{IsMade}
use Rattle.chunk_words.specs.Knows.{made_of, desk_of, watch_of, service_of}
use Rattle.chunk_words.proofs.Leads.{plain_note}
use Rattle.chunk_words.proofs.Passing.{goes_note, read_noted}
use Rattle.chunk_words.proofs.ServiceEnds.{notes_allowed}
use Rattle.chunk_words.proofs.host.HostTable.step_event.Goals as goal

pub make_load-requires-clause-allowed : goal.make_load-requires-clause-allowed
make_load-requires-clause-allowed c =
    let self = c.args.self.now in let seat = c.args.seat.now.seat in let k = seat.me.0 in
    rw (self.key, c.requires.seat.idle)
    (notes_allowed self.layout _ seat.id (made_of k) (desk_of k) _ _ (watch_of k) (service_of k) (λ v. refl) (λ v. refl) (λ v. refl) (λ v. refl)
    (λ v made. goes_note v (event_of c.args.event) (λ read. subst IsMade (c.requires.read (read_noted c.args.event read)) made))
    (λ w is. (
      Notes (event_of c.args.event),
      (plain_note c.args.event, subst (λ (view : ServiceView). MayNote view (event_of c.args.event)) is c.requires.taken),
      refl,
    )))
