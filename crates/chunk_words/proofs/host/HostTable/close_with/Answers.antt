use Rattle.std.proofs.Common.{◌≡◌, refl, ap, subst}
use Rattle.chunk_plain.specs.Views.{ServiceView}
use Rattle.chunk_words.specs.Closed.{IsAccount, views_of}
use Rattle.chunk_words.specs.GoesOn.{GoesOn}
use Rattle.chunk_words.specs.Knows.{Here, desk_of, stage_of, service_of, watch_of, passed_of, with_stage}
use Rattle.chunk_words.specs.Moves.{Mine}
use Rattle.chunk_words.proofs.Rests.{attends_as}
use Rattle.chunk_words.proofs.host.HostTable.close_with.Goals as goal

pub close_all-requires-clause-service : goal.close_all-requires-clause-service
close_all-requires-clause-service c =
    let service = c.args.service in let k = service.seat.me.0 in let waits = c.requires.service.waits in
    attends_as c.args.self service c.take_pass.new.seat (with_stage (desk_of k) (Here (passed_of c.args.pass.seat.me.0))) (watch_of k) (service_of k) c.requires.service c.take_pass.ensures.seat refl
    c.take_pass.ensures.me waits.serving waits.seen

pub returns-clause-account : goal.returns-clause-account
returns-clause-account c =
    let view_is : service_of c.take_pass.new.seat.seat.me.0 ≡ service_of c.args.service.seat.me.0 = ap (λ (m : Mine). service_of m.0) c.take_pass.ensures.me in
    let marks_are : (desk_of c.take_pass.new.seat.seat.me.0).marks ≡ (desk_of c.args.service.seat.me.0).marks = ap (λ (m : Mine). (desk_of m.0).marks) c.take_pass.ensures.me in
    subst (λ marks. IsAccount c.args.self.layout marks (views_of c.args.seats.items) (service_of c.args.service.seat.me.0)) marks_are
    (subst (IsAccount c.args.self.layout (desk_of c.take_pass.new.seat.seat.me.0).marks (views_of c.args.seats.items)) view_is c.close_all.ensures.account)

pub returns-clause-goes_on : goal.returns-clause-goes_on
returns-clause-goes_on c =
    let view_is : service_of c.take_pass.new.seat.seat.me.0 ≡ service_of c.args.service.seat.me.0 = ap (λ (m : Mine). service_of m.0) c.take_pass.ensures.me in
    subst (λ (v : ServiceView). GoesOn (passed_of c.args.pass.seat.me.0) v) view_is
    (c.close_all.ensures.goes_on (passed_of c.args.pass.seat.me.0) (ap (λ (m : Mine). stage_of m.0) c.take_pass.ensures.me))
