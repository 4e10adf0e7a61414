use Rattle.trace_writer.specs.declared.writer.WriterCore.{WriterCore}
use Rattle.trace_writer.proofs.seat_calls.CoreHolding.{core_flushed, core_notes}
use Rattle.trace_writer.proofs.writer.WriterCore.flush.Goals as goal

pub returns-clause-call : goal.returns-clause-call
returns-clause-call g c =
    let after : WriterCore _ = record { seat = c.flush.new.seat; writer = c.flush.new.writer } in let notes = c.flush.ensures.notes in
    core_notes g.W.Words.means c.requires.stands notes
    (λ goes. core_flushed g.W.Words.means c.args.table.now c.args.self.now c.flush.new.table after c.requires.stands.agrees c.requires.none_begun
    notes.quiet notes.agrees (notes.calls goes) c.flush.ensures.none_held)
