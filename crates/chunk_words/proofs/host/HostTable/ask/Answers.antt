use Rattle.chunk_plain.specs.Letters.{requests}
use Rattle.chunk_words.specs.Knows.{Nothing, service_of}
use Rattle.chunk_words.proofs.Rests.{attends_now}
use Rattle.chunk_words.proofs.host.HostTable.ask.Goals as goal

pub returns-clause-seat : goal.returns-clause-seat
returns-clause-seat c =
    let seat = c.args.seat.now in let serving = c.requires.seat.waits.serving in
    attends_now c.args.self.now seat c.step_request.new.seat Nothing (requests (service_of seat.seat.me.0)) c.requires.seat c.step_request.ensures.seat
    c.step_request.ensures.me.new_is (record { writers = serving.writers; level = serving.level }) c.step_request.ensures.me.seen
