-- Where the last pieces can't be written, a front part was.
use Rattle.std.proofs.Common.{◌≡◌, ◌∙◌, [], Err, subst, rules}
use Rattle.byte_io.specs.Buffered.{pending_bytes}
use Rattle.byte_io.specs.Bytes.{TakesUpTo}
use Rattle.byte_io.proofs.Lent.{handed_on}
use Rattle.byte_io.proofs.Told.{up_to_end}
use Rattle.stream_producer.specs.Whole.{stream_trace}
use Rattle.tracesmb_top.proofs.StreamLemmas.{played_part}
use Rattle.tracesmb_top.proofs.streaming.write_stream.Goals as goal

pub returns-in_err-done-clause-plays : goal.returns-in_err-done-clause-plays
returns-in_err-done-clause-plays g c config made =
    let found = c.in_err-done.field-0.0 in
    let result_is : c.from_residual.result ≡ Err found = search rules in
    played_part config (g.W.Words.means.setup c.args.producer.player.table) c.args.stream.now _ c.from_residual.result found _ result_is
    (c.in_err-done.ensures.gathers config made).part

pub returns-in-Ok-clause-plays : goal.returns-in-Ok-clause-plays
returns-in-Ok-clause-plays g c config made =
    let gathers = c.in_ok-done.ensures.gathers config made in
    let passed = subst (TakesUpTo _ _ _) c.in-Ok.ensures.all c.pass_on.ensures.passed in
    record { counts = gathers.counts; all = up_to_end _ _ _ passed ∙ gathers.all.all; part = tt }

pub returns-in-Err-clause-plays : goal.returns-in-Err-clause-plays
returns-in-Err-clause-plays g c config made = record {
  counts = tt;
  all = tt;
  part = handed_on (g.T.Sink.taken c.args.trace.now) (g.T.Sink.taken c.play_gathered.new.trace) (g.T.Sink.taken c.pass_on.new.inner)
      (stream_trace config (g.W.Words.means.setup c.args.producer.player.table) c.args.stream.now) (pending_bytes c.play_gathered.new.pending)
      (pending_bytes c.pass_on.new.self) (c.in_ok-done.ensures.gathers config made).all c.pass_on.ensures.passed;
}
