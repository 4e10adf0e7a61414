use Rattle.trace_buffer.specs.Clones.{none_delivered}
use Rattle.trace_buffer.proofs.CountLemmas.{counted_after}
use Rattle.trace_buffer.proofs.CopyLemmas.{keeps_reset}
use Rattle.trace_buffer.proofs.PartLemmas.{parts_after, sizes}
use Rattle.trace_buffer.proofs.buffer.TraceBuffer.reset_delivered.Goals as goal

pub invariant_of-self : goal.invariant_of-self
invariant_of-self c =
    record {
      parts = parts_after c.self.inside.ring c.self.inside.index c.self.inside.rows c.deref_mut.result.now c.reset_delivered.new.rows c.args.sequence
          none_delivered keeps_reset c.self.invariant.parts c.deref_mut.ensures.value c.reset_delivered.ensures;
      counted = counted_after c.self.inside.rows c.deref_mut.result.now c.reset_delivered.new.rows c.args.sequence none_delivered c.self.inside.ring.live c.self.inside.unfinished
          (sizes keeps_reset) c.self.invariant.counted c.deref_mut.ensures.value c.reset_delivered.ensures;
    }
