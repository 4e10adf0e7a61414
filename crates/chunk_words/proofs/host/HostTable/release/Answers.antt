use Rattle.std.proofs.Common.{◌∙◌, [], ap, sym, subst}
use Rattle.chunk_plain.specs.Steps.{lets_go}
use Rattle.chunk_plain.specs.Words.{AllArrived}
use Rattle.chunk_words.specs.Knows.{Knows, Nothing, service_of, by_service}
use Rattle.chunk_words.specs.Moves.{Mine, IsSeen}
use Rattle.chunk_words.proofs.Rests.{attends_now}
use Rattle.chunk_words.proofs.host.HostTable.release.Goals as goal

-- to take the slot and put the body back is no note
pub step_release-requires-clause-arrived : goal.step_release-requires-clause-arrived
step_release-requires-clause-arrived c =
    let known = ap (λ (m : Mine). m.0) c.body_in.ensures.me ∙ ap (λ (m : Mine). m.0) c.step_lift.ensures.me.new_is in
    subst (λ (k : Knows). AllArrived (service_of k)) (sym known) c.requires.arrived

pub returns-clause-seat : goal.returns-clause-seat
returns-clause-seat c =
    let self = c.args.self.now in let seat = c.args.seat.now in let serves = c.step_release.ensures.me in let serving = c.requires.seat.waits.serving in
    let chunk = c.args.taken.chunk in
    let known = ap (λ (m : Mine). m.0) c.body_in.ensures.me ∙ ap (λ (m : Mine). m.0) c.step_lift.ensures.me.new_is in
    attends_now self seat c.step_release.new.seat Nothing (lets_go (service_of seat.seat.me.0) chunk) c.requires.seat (c.step_release.ensures.seat ∙ (c.body_in.ensures.seat ∙ c.step_lift.ensures.seat))
    (serves.new_is ∙ ap (λ (k : Knows). let m : Mine = (by_service 0 Nothing (λ v. lets_go v chunk) k, []) in m) known)
    (record { writers = serving.writers; level = serving.level }) (subst (λ (k : Knows). IsSeen (lets_go (service_of k) chunk)) known serves.seen)
