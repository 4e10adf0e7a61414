use Rattle.std.proofs.Common.{◌∙◌, ap}
use Rattle.chunk_plain.specs.Views.{WriterView}
use Rattle.trace_writer.specs.Core.{in_packet}
use Rattle.trace_writer.specs.Empty.{is_stalled}
use Rattle.trace_writer.proofs.seat_calls.CoreCalls.{ended_in, deep_writing}
use Rattle.trace_writer.specs.declared.writer.WriterCore.{WriterCore}
use Rattle.trace_writer.proofs.seat_calls.CoreHolding.{core_ended, core_notes}
use Rattle.trace_writer.proofs.stops.Stopping.{either_way}
use Rattle.trace_writer.proofs.writer.WriterCore.end_nested.Goals as goal

pub returns-clause-in_packet : goal.returns-clause-in_packet
returns-clause-in_packet g c =
    let old = g.W.Words.means.view c.args.table.now c.args.self.now.seat in let new = g.W.Words.means.view c.end_message.new.table c.end_message.new.seat in
    either_way (is_stalled c.args.self.now.writer.state)
    (λ goes. (ended_in old new (c.end_message.ensures.notes.calls goes) c.requires.depth).0)
    (λ stalled. let stays = c.end_message.ensures.notes.stays stalled in
    ap (λ (view : WriterView). in_packet view)
    (ap (λ table. g.W.Words.means.view table c.end_message.new.seat) stays.1 ∙ ap (λ seat. g.W.Words.means.view c.args.table.now seat) stays.2)
    ∙ deep_writing old c.requires.depth)

pub returns-clause-depth_falls : goal.returns-clause-depth_falls
returns-clause-depth_falls g c = λ goes.
    (ended_in (g.W.Words.means.view c.args.table.now c.args.self.now.seat) (g.W.Words.means.view c.end_message.new.table c.end_message.new.seat) (c.end_message.ensures.notes.calls goes) c.requires.depth).1

pub returns-clause-call : goal.returns-clause-call
returns-clause-call g c =
    let after : WriterCore _ = record { seat = c.end_message.new.seat; writer = c.end_message.new.writer } in let notes = c.end_message.ensures.notes in
    core_notes g.W.Words.means c.requires.stands notes
    (λ goes. core_ended g.W.Words.means c.args.table.now c.args.self.now c.end_message.new.table after c.requires.stands.agrees c.requires.depth
    notes.quiet notes.agrees (notes.calls goes))
