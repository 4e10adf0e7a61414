use Rattle.std.proofs.Common.{refl}
use Rattle.crossbeam_utils.specs.Padded.{padded_with_value}
use Rattle.thread_writer.specs.Lent.{lent}
use Rattle.thread_writer.proofs.Calls.{quiet_writes, quiet_call}
use Rattle.thread_writer.proofs.writer.TraceWriter.end_nested.Goals as goal

pub returns-clause-writes : goal.returns-clause-writes
returns-clause-writes c = quiet_writes (lent c.args.table) c.end_nested.new.table c.args.self.now (record c.args.self.now { core = padded_with_value c.args.self.now.core c.end_nested.new.self })
    c.deref_mut.result.now c.deref_mut.ensures.value c.end_nested.ensures.call c.requires.writes refl refl

pub returns-clause-call : goal.returns-clause-call
returns-clause-call c = quiet_call (lent c.args.table) c.end_nested.new.table c.args.self.now (record c.args.self.now { core = padded_with_value c.args.self.now.core c.end_nested.new.self })
    c.deref_mut.result.now c.deref_mut.ensures.value c.end_nested.ensures.call
