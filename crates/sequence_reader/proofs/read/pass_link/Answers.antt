use Rattle.std.proofs.Common.{◌≡◌, sym, ap, ◌∙◌, subst}
use Rattle.trace_model.specs.Buffers.{Buffer}
use Rattle.trace_model.specs.Sequences as model
use Rattle.trace_buffer.specs.Answers.{turn_value}
use Rattle.trace_buffer.specs.Calls.{with_advance}
use Rattle.sequence_reader.specs.Spots.{cursor_of}
use Rattle.sequence_reader.specs.Turns.{GoesOn}
use Rattle.sequence_reader.proofs.read.pass_link.Goals as goal

pub returns-in-Passed-clause-turns : goal.returns-in-Passed-clause-turns
returns-in-Passed-clause-turns g c =
    let b = c.args.buffer.now in
    let t = turn_value c.in-Passed.passed in
    let new : c.advance.new.self ≡ with_advance b c.args.bounds.sequence (cursor_of c.in-Passed.next.at) t =
    c.advance.ensures ∙ ap (λ (to : model.Cursor). with_advance b c.args.bounds.sequence to t) c.cursor.ensures in
    subst (λ (buffer : Buffer). GoesOn b buffer (g.O.Sink.taken c.args.out.now) (g.O.Sink.taken c.put_next.new.out) c.args.bounds c.args.limit c.args.progress c.in-Passed.next) (sym new)
    c.in-Passed.ensures.puts
