use Rattle.std.proofs.Common.{arith}
use Rattle.trace_writer.proofs.seat_calls.CoreLemmas.{between_counts, writing_counts, idle_counts, dropping_counts, stalled_counts}
use Rattle.trace_writer.proofs.writer.WriterCore.ids_left.Goals.{in-Between, in-Writing, in-Idle, in-Dropping, in-Stalled}
use Rattle.trace_writer.proofs.writer.WriterCore.ids_left.Goals as goal

pub returns : goal.returns
returns g c = λ setup place view agrees. elim c.match-self.branch [
  | in-Between w ↦ omega (arith, c.from.ensures, w.next_position-is, (between_counts setup place view c.args.self.now.writer w.in-Between.chunk w.in-Between.is agrees.writes).begun_is)
  | in-Writing w ↦ omega (arith, c.from.ensures, w.next_position-is, (writing_counts setup place view c.args.self.now.writer w.in-Writing.fragment w.in-Writing.is agrees.writes).begun_is)
  | in-Idle w ↦ omega (arith, c.from.ensures, w.next_position-is, (idle_counts setup place view c.args.self.now.writer w.in-Idle.next_position w.in-Idle.is agrees.writes).begun_is)
  | in-Dropping w ↦ omega (arith, c.from.ensures, w.next_position-is, (dropping_counts setup place view c.args.self.now.writer w.in-Dropping.next_position w.in-Dropping.is agrees.writes).begun_is)
  | in-Stalled w ↦ omega (arith, c.from.ensures, w.next_position-is, (stalled_counts setup place view c.args.self.now.writer w.in-Stalled.next_position w.in-Stalled.is agrees.writes).begun_is)
]
