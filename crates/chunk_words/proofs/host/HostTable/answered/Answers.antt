use Rattle.chunk_words.specs.Knows.{Nothing, service_of}
use Rattle.chunk_plain.specs.Letters.{hears_answer}
use Rattle.std.proofs.Common.{◌-◌, ◌/◌, ◌%◌}
use Rattle.chunk_words.proofs.Rests.{attends_now}
use Rattle.chunk_words.proofs.host.HostTable.answered.Goals as goal

pub returns-clause-seat : goal.returns-clause-seat
returns-clause-seat c =
    let seat = c.args.seat.now in let serving = c.requires.seat.waits.serving in let read = c.step_read_answer-found in
    attends_now c.args.self.now seat read.new.seat Nothing
    (hears_answer (service_of seat.seat.me.0) (c.args.writer - 1) (read.result / 4294967296) (read.result % 4294967296)) c.requires.seat read.ensures.seat
    read.ensures.me.serves.new_is (record { writers = serving.writers; level = serving.level }) read.ensures.me.serves.seen
