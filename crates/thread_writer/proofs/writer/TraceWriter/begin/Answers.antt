use Rattle.std.proofs.Common.{refl}
use Rattle.crossbeam_utils.specs.Padded.{padded_with_value}
use Rattle.thread_writer.specs.Lent.{lent}
use Rattle.thread_writer.proofs.Calls.{call_is}
use Rattle.thread_writer.proofs.writer.TraceWriter.begin.Goals as goal

pub returns-clause-call : goal.returns-clause-call
returns-clause-call g c =
    let did = c.begin.ensures.call in
    call_is (lent c.args.table) c.begin.new.table c.args.self.now (record c.args.self.now { core = padded_with_value c.args.self.now.core c.begin.new.self })
    c.deref_mut.result.now c.args.help.now c.begin.new.help c.args.steps.now c.begin.new.steps c.deref_mut.ensures.value c.requires.may_call.writes refl refl did
