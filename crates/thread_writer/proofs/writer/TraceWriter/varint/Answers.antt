use Rattle.std.proofs.Common.{refl}
use Rattle.crossbeam_utils.specs.Padded.{padded_with_value}
use Rattle.thread_writer.specs.Lent.{lent}
use Rattle.thread_writer.proofs.Calls.{call_is}
use Rattle.thread_writer.proofs.writer.TraceWriter.varint.Goals as goal

pub returns-clause-call : goal.returns-clause-call
returns-clause-call g c =
    let did = c.varint.ensures.call in (
      did.0,
      call_is (lent c.args.table) c.varint.new.table c.args.self.now (record c.args.self.now { core = padded_with_value c.args.self.now.core c.varint.new.self })
          c.deref_mut.result.now c.args.help.now c.varint.new.help c.args.steps.now c.varint.new.steps c.deref_mut.ensures.value c.requires.may_call.writes refl refl did.1,
    )
