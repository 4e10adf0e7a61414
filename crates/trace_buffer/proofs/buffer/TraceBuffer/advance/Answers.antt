use Rattle.trace_model.specs.Reads.{advanced}
use Rattle.trace_buffer.specs.Answers.{cursor_value, turn_value}
use Rattle.trace_buffer.proofs.CountLemmas.{counted_after}
use Rattle.trace_buffer.proofs.PartLemmas.{parts_after, keeps_advanced, sizes}
use Rattle.trace_buffer.proofs.buffer.TraceBuffer.advance.Goals as goal

pub invariant_of-self : goal.invariant_of-self
invariant_of-self c =
    record {
      parts = parts_after c.self.inside.ring c.self.inside.index c.self.inside.rows c.deref_mut.result.now c.advance.new.rows c.args.sequence
          (advanced (cursor_value c.args.to) (turn_value c.args.passed)) (keeps_advanced (cursor_value c.args.to) (turn_value c.args.passed))
          c.self.invariant.parts c.deref_mut.ensures.value c.advance.ensures;
      counted = counted_after c.self.inside.rows c.deref_mut.result.now c.advance.new.rows c.args.sequence (advanced (cursor_value c.args.to) (turn_value c.args.passed)) c.self.inside.ring.live c.self.inside.unfinished
          (sizes (keeps_advanced (cursor_value c.args.to) (turn_value c.args.passed))) c.self.invariant.counted c.deref_mut.ensures.value c.advance.ensures;
    }
