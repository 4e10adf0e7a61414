use Rattle.chunk_plain.specs.Steps.{notes_commit}
use Rattle.chunk_plain.specs.Words.{committed_of}
use Rattle.chunk_words.specs.Knows.{Nothing, service_of}
use Rattle.chunk_words.proofs.Rests.{attends_now}
use Rattle.chunk_words.proofs.host.HostTable.note_commit.Goals as goal

pub returns-clause-seat : goal.returns-clause-seat
returns-clause-seat c =
    let seat = c.args.seat.now in let serving = c.requires.seat.waits.serving in
    attends_now c.args.self.now seat c.step_commit.new.seat Nothing (notes_commit (service_of seat.seat.me.0) (committed_of c.args.self.now.layout c.args.header c.args.payload.now c.args.patches.now)) c.requires.seat c.step_commit.ensures.seat
    c.step_commit.ensures.me.new_is (record { writers = serving.writers; level = serving.level }) c.step_commit.ensures.me.seen
