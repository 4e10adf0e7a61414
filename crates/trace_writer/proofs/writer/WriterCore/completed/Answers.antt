use Rattle.trace_writer.proofs.seat_calls.CoreLemmas.{between_counts, writing_counts, idle_counts, dropping_counts, stalled_counts}
use Rattle.trace_writer.proofs.writer.WriterCore.completed.Goals as goal

pub returns-in-Between : goal.returns-in-Between
returns-in-Between g c = λ setup place view agrees. (between_counts setup place view c.args.self.now.writer c.in-Between.chunk c.in-Between.is agrees.writes).completed_is

pub returns-in-Writing : goal.returns-in-Writing
returns-in-Writing g c = λ setup place view agrees. (writing_counts setup place view c.args.self.now.writer c.in-Writing.fragment c.in-Writing.is agrees.writes).completed_is

pub returns-in-Idle : goal.returns-in-Idle
returns-in-Idle g c = λ setup place view agrees. (idle_counts setup place view c.args.self.now.writer c.in-Idle.next_position c.in-Idle.is agrees.writes).completed_is

pub returns-in-Dropping : goal.returns-in-Dropping
returns-in-Dropping g c = λ setup place view agrees. (dropping_counts setup place view c.args.self.now.writer c.in-Dropping.next_position c.in-Dropping.is agrees.writes).completed_is

pub returns-in-Stalled : goal.returns-in-Stalled
returns-in-Stalled g c = λ setup place view agrees. (stalled_counts setup place view c.args.self.now.writer c.in-Stalled.next_position c.in-Stalled.is agrees.writes).completed_is
