-- The flush comes behind the lines.
use Rattle.std.proofs.Common.{[], ◌∷◌}
use Rattle.trace_model.specs.Calls.{Flushed}
use Rattle.thread_host.proofs.Helped.{helps_both, helps_flushed}
use Rattle.thread_host.proofs.PlayedWriters.{between_now, has_played}
use Rattle.thread_host.proofs.playing.play_all.Goals as goal

pub flush-requires-clause-writes : goal.flush-requires-clause-writes
flush-requires-clause-writes g c = (c.play_lines-turn.ensures.asked c.requires.going.0 [] (Flushed ∷ []) c.requires.going.1).writes

pub flush-requires-clause-none_begun : goal.flush-requires-clause-none_begun
flush-requires-clause-none_begun g c =
    between_now g.H.Helper.helps g.H.Helper.of_table c.args.lines.now c.args.table c.requires.going.0 c.args.number
    c.play_lines-turn.new.help c.play_lines-turn.new.writer
    (c.play_lines-turn.ensures.asked c.requires.going.0 [] (Flushed ∷ []) c.requires.going.1)

pub returns : goal.returns
returns g c = record {
  played = λ place is going.
      has_played g.H.Helper.helps g.H.Helper.of_table c.args.lines.now c.args.table place c.args.number
      c.play_lines-turn.new.help c.play_lines-turn.new.writer
      (c.play_lines-turn.ensures.asked place [] (Flushed ∷ []) going)
      c.flush.new.self is c.flush.ensures.writes c.flush.ensures.call c.flush.ensures.none_held c.flush.ensures.in_packet;
  helped = helps_both g.H.Helper.helps c.args.help.now c.play_lines-turn.new.help c.play_lines-turn.new.help c.args.writer.now c.play_lines-turn.new.writer c.flush.new.self
      c.play_lines-turn.ensures.helped
      (helps_flushed g.H.Helper.helps c.play_lines-turn.new.help c.play_lines-turn.new.writer c.flush.new.self _
      (c.play_lines-turn.ensures.asked c.requires.going.0 [] (Flushed ∷ []) c.requires.going.1).going c.flush.ensures.call);
}
