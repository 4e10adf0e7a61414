-- The call is asked of the writer's core, over the table as it is lent.
use Rattle.std.proofs.Common.{refl}
use Rattle.crossbeam_utils.specs.Padded.{padded_with_value}
use Rattle.chunk_plain.specs.Words.{call_of}
use Rattle.thread_host.proofs.Going.{core_ready, never_stalls, goes_on, helps_losses}
use Rattle.thread_host.proofs.asking.ask.Goals as goal

pub ask_one-requires-clause-ready : goal.ask_one-requires-clause-ready
ask_one-requires-clause-ready g c =
    core_ready g.H.Helper.helps g.H.Helper.of_table c.args.table c.requires.going.0 c.requires.going.1 c.requires.going.2 (call_of c.args.call)
    c.args.help.now c.args.writer.now c.deref_mut.result.now c.requires.going.3 c.deref_mut.ensures.value

pub unreachable-requires : goal.unreachable-requires
unreachable-requires g c =
    never_stalls g.H.Helper.helps g.H.Helper.of_table c.args.table c.requires.going.0 c.requires.going.1 c.requires.going.2 (call_of c.args.call)
    c.args.help.now c.args.writer.now c.deref_mut.result.now c.requires.going.3 c.deref_mut.ensures.value
    c.ask_one.new.help c.ask_one.new.table (record c.args.writer.now { core = padded_with_value c.args.writer.now.core c.ask_one.new.core })
    c.in-Err.ensures.stalled

pub returns : goal.returns
returns g c = record {
  asked = λ place asked coming going.
      goes_on g.H.Helper.helps g.H.Helper.of_table c.args.table place asked coming (call_of c.args.call)
      c.args.help.now c.args.writer.now c.deref_mut.result.now going c.deref_mut.ensures.value
      c.ask_one.new.help c.ask_one.new.table (record c.args.writer.now { core = padded_with_value c.args.writer.now.core c.ask_one.new.core })
      refl refl c.in-Ok.ensures.called;
  helped = helps_losses g.H.Helper.helps g.H.Helper.of_table c.args.table c.requires.going.0 c.requires.going.1 c.requires.going.2 (call_of c.args.call)
      c.args.help.now c.args.writer.now c.deref_mut.result.now c.requires.going.3 c.deref_mut.ensures.value
      c.ask_one.new.help c.ask_one.new.table (record c.args.writer.now { core = padded_with_value c.args.writer.now.core c.ask_one.new.core })
      refl refl c.in-Ok.ensures.called;
}
