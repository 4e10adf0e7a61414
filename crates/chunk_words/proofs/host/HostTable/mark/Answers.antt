use Rattle.std.proofs.Common.{refl}
use Rattle.chunk_words.specs.Knows.{Nothing, desk_of, service_of, with_mark}
use Rattle.chunk_words.proofs.Rests.{attends_as}
use Rattle.chunk_words.proofs.host.HostTable.mark.Goals as goal

pub returns-clause-seat : goal.returns-clause-seat
returns-clause-seat c =
    let seat = c.args.seat.now in let k = seat.seat.me.0 in let waits = c.requires.seat.waits in let marks = c.step_mark.ensures.me in
    attends_as c.args.self.now seat c.step_mark.new.seat (with_mark (desk_of k) marks.marked.world) Nothing (service_of k) c.requires.seat c.step_mark.ensures.seat
    refl marks.new_is waits.serving waits.seen
