use Rattle.std.proofs.Common.{◌≡◌, sym, ap, ◌∙◌, arith}
use Rattle.trace_model.specs.Buffers.{Buffer}
use Rattle.trace_model.specs.Sequences.{Sequence}
use Rattle.trace_buffer.specs.Answers.{cursor_value}
use Rattle.trace_buffer.specs.BufferFields.{buffer_view}
use Rattle.trace_buffer.specs.Calls.{with_deliveries, delivered_to}
use Rattle.trace_buffer.proofs.CountLemmas.{counted_after}
use Rattle.trace_buffer.proofs.DeliverLemmas.{delivered_is}
use Rattle.trace_buffer.proofs.PartLemmas.{parts_after, rows_after, keeps_delivered, sizes}
use Rattle.trace_buffer.proofs.buffer.TraceBuffer.deliver.Goals as goal

pub invariant_of-self : goal.invariant_of-self
invariant_of-self c =
    record {
      parts = parts_after c.self.inside.ring c.self.inside.index c.self.inside.rows c.deref_mut.result.now c.deliver.new.rows c.args.sequence
          (delivered_to (cursor_value c.args.to) c.args.count) (keeps_delivered (cursor_value c.args.to) c.args.count)
          c.self.invariant.parts c.deref_mut.ensures.value c.deliver.ensures;
      counted = counted_after c.self.inside.rows c.deref_mut.result.now c.deliver.new.rows c.args.sequence (delivered_to (cursor_value c.args.to) c.args.count) c.self.inside.ring.live c.self.inside.unfinished
          (sizes (keeps_delivered (cursor_value c.args.to) c.args.count)) c.self.invariant.counted c.deref_mut.ensures.value c.deliver.ensures;
    }

pub returns : goal.returns
returns c =
    let rows = rows_after c.self.inside.rows c.deref_mut.result.now c.deliver.new.rows c.args.sequence (delivered_to (cursor_value c.args.to) c.args.count)
    c.deref_mut.ensures.value c.deliver.ensures in
    (λ j. record (buffer_view c.self.inside) { sequences = rows j })
    ∙ delivered_is (buffer_view c.self.inside) c.args.sequence (cursor_value c.args.to) c.args.count (omega (arith, c.if-count-eq0.false))
    ∙ ap (λ (b : Buffer). with_deliveries b c.args.sequence (cursor_value c.args.to) c.args.count) c.self.view_is
