use Rattle.std.proofs.Common.{ap, sym, subst}
use Rattle.chunk_words.specs.Knows.{Nothing, desk_of, service_of}
use Rattle.chunk_words.specs.Moves.{Mine}
use Rattle.chunk_words.specs.Told.{ShowsAllTold}
use Rattle.chunk_words.proofs.Rests.{attends_now}
use Rattle.chunk_words.proofs.host.HostTable.recall.Goals as goal

pub returns-clause-shown : goal.returns-clause-shown
returns-clause-shown c =
    let recalls = c.step_recall.ensures.me in let k = c.args.seat.now.seat.me.0 in let n = c.step_recall.new.seat.seat.me.0 in
    let self = c.args.self.now in
    subst (λ v. ShowsAllTold self.layout v (desk_of n)) (sym (ap (λ (m : Mine). service_of m.0) recalls.new_is))
    (subst (λ d. ShowsAllTold self.layout (service_of k) d) (sym (ap (λ (m : Mine). desk_of m.0) recalls.new_is)) recalls.shown)

pub returns-clause-seat : goal.returns-clause-seat
returns-clause-seat c =
    let seat = c.args.seat.now in let waits = c.requires.seat.waits in
    attends_now c.args.self.now seat c.step_recall.new.seat Nothing (service_of seat.seat.me.0) c.requires.seat c.step_recall.ensures.seat
    c.step_recall.ensures.me.new_is waits.serving waits.seen
