use Rattle.chunk_plain.specs.Steps.{notes_call}
use Rattle.chunk_plain.specs.Words.{call_of}
use Rattle.chunk_plain.proofs.Resting.{notes_rest}
use Rattle.chunk_words.specs.Knows.{view_of}
use Rattle.chunk_words.proofs.Rests.{sits_now}
use Rattle.chunk_words.proofs.host.HostTable.note_call.Goals as goal

pub returns-clause-seat : goal.returns-clause-seat
returns-clause-seat c =
    let self = c.args.self.now in let seat = c.args.seat.now in let view = view_of seat.seat.me.0 in
    sits_now self seat c.step_call.new.seat (notes_call view (call_of c.args.call)) c.requires.seat c.step_call.ensures.seat c.step_call.ensures.place c.step_call.ensures.me
    (notes_rest self.layout seat.place view c.requires.seat.rests.rests (call_of c.args.call))
