use Rattle.std.proofs.Common.{◌≡◌, ◌-◌, sym, ap, ◌∙◌, subst}
use Rattle.trace_model.specs.Buffers.{Buffer}
use Rattle.trace_model.specs.Sequences as model
use Rattle.trace_buffer.specs.Calls.{with_deliveries}
use Rattle.sequence_reader.specs.Runs.{Runs}
use Rattle.sequence_reader.specs.Spots.{cursor_of}
use Rattle.sequence_reader.proofs.run.pass_run.Goals as goal

pub returns-clause-runs : goal.returns-clause-runs
returns-clause-runs g c =
    let b = c.args.buffer.now in
    let ran = c.find_run-ran.result in
    let count = ran.progress.delivered - c.args.progress.delivered in
    let puts = c.find_run-ran.ensures.puts in
    let new : c.deliver.new.self ≡ with_deliveries b c.args.bounds.sequence (cursor_of ran.progress.at) count =
    c.deliver.ensures ∙ ap (λ (to : model.Cursor). with_deliveries b c.args.bounds.sequence to count) c.cursor.ensures in
    subst (λ (buffer : Buffer). Runs b buffer (g.O.Sink.taken c.args.out.now) (g.O.Sink.taken c.find_run-ran.new.out) c.args.bounds c.args.limit c.args.progress ran)
    (puts.told ∙ sym new) puts.runs
