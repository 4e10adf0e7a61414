use Rattle.std.proofs.Common.{subst}
use Rattle.chunk_words.specs.declared.seats.ServiceSeat.{ServiceSeat}
use Rattle.chunk_words.specs.Closed.{IsAccount, views_of}
use Rattle.chunk_words.specs.Sits.{setup_in, known_by_service, desk_by_service}
use Rattle.tracesmb_c.proofs.closing.take_apart.Goals as goal

pub returns-clause-account : goal.returns-clause-account
returns-clause-account c =
    subst (λ (seat : ServiceSeat). IsAccount (setup_in c.args.table) (desk_by_service seat).marks (views_of c.args.seats.items)
    (known_by_service seat))
    c.into_parts-seat.ensures.seat c.close_with-closed.ensures.account
