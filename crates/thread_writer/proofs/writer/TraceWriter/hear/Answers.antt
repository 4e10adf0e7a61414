use Rattle.std.proofs.Common.{◌∙◌, refl, ap}
use Rattle.crossbeam_utils.specs.Padded.{padded_with_value}
use Rattle.chunk_plain.specs.Letters.{knows_request}
use Rattle.chunk_plain.specs.Views.{asked_in}
use Rattle.chunk_words.specs.declared.seats.WriterSeat.{WriterSeat}
use Rattle.chunk_words.specs.Knows.{later}
use Rattle.chunk_words.specs.Sits.{known_by, known_by_pass}
use Rattle.trace_writer.specs.declared.writer.WriterCore.{WriterCore}
use Rattle.thread_writer.specs.Writing.{view_in}
use Rattle.thread_writer.proofs.Polling.{heard_writes}
use Rattle.thread_writer.proofs.writer.TraceWriter.hear.Goals as goal

pub returns-clause-writes : goal.returns-clause-writes
returns-clause-writes c =
    let before = c.deref_mut.result.now in let is = c.deref_mut.ensures.value in let made = asked_in (known_by_pass c.args.pass.now).letters in
    heard_writes c.args.table.now c.args.self.now (record c.args.self.now { core = padded_with_value c.args.self.now.core (record before { seat = c.hear.new.seat }) })
    (later (view_in c.args.self.now).letters.known made) c.requires.writes refl refl (ap (λ (core : WriterCore WriterSeat). core.writer) is)
    (c.hear.ensures.place ∙ ap (λ (core : WriterCore WriterSeat). core.seat.place) is) c.hear.ensures.seat
    (c.hear.ensures.view ∙ ap (λ (core : WriterCore WriterSeat). knows_request (known_by core.seat) (later (known_by core.seat).letters.known made)) is)
