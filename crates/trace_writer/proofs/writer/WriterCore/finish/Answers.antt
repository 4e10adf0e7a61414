use Rattle.trace_writer.specs.declared.writer.WriterCore.{WriterCore}
use Rattle.trace_writer.proofs.seat_calls.CoreHolding.{core_finished, core_notes}
use Rattle.trace_writer.proofs.writer.WriterCore.finish.Goals as goal

pub returns-clause-call : goal.returns-clause-call
returns-clause-call g c =
    let after : WriterCore _ = record { seat = c.finish.new.seat; writer = c.finish.new.writer } in let notes = c.finish.ensures.notes in
    core_notes g.W.Words.means c.requires.stands notes
    (λ goes. core_finished g.W.Words.means c.args.table.now c.args.self.now c.finish.new.table after c.requires.stands.agrees c.requires.begun c.requires.depth goes
    notes.quiet notes.agrees (notes.calls goes) (c.finish.ensures.held goes))
