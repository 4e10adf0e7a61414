use Rattle.std.proofs.Common.{◌≡◌, ◌⊎◌, ⊎_elim, true, refl, ap, ◌∙◌, ◌&&◌}
use Rattle.std.specs.List.{find}
use Rattle.trace_model.specs.Arrivals.{makes_arrive, with_arrived}
use Rattle.trace_buffer.specs.Answers.{arrived_value}
use Rattle.trace_buffer.specs.declared.answers.Arrived.{Arrived}
use Rattle.trace_buffer.specs.declared.answers.Arrived.TheVariants.{Kept, Rewritten, Discarded}
use Rattle.trace_model.specs.Buffers.{Buffer, BufferRecord, is_of}
use Rattle.trace_buffer.proofs.ArrivedLemmas.{parts_noted}
use Rattle.trace_buffer.proofs.CountLemmas.{counted_after}
use Rattle.trace_buffer.proofs.FindLemmas.{find_no_record}
use Rattle.trace_buffer.proofs.buffer.TraceBuffer.note_outcome.Goals as goal

arrives : (o : Arrived) → (o ≡ Kept) ⊎ ((o ≡ Rewritten) ⊎ (o ≡ Discarded)) → makes_arrive (arrived_value o) ≡ true
arrives o is =
    ⊎_elim (λ h. ap (λ a. makes_arrive (arrived_value a)) h)
    (λ more. ⊎_elim (λ h. ap (λ a. makes_arrive (arrived_value a)) h) (λ h. ap (λ a. makes_arrive (arrived_value a)) h) more)
    is

pub invariant_of-self : goal.invariant_of-self
invariant_of-self c =
    record {
      parts = parts_noted c.self.inside.ring c.self.inside.index c.self.inside.rows c.deref_mut.result.now c.note_arrived.new.rows c.args.key.sequence c.args.key.chunk_id c.args.key.count
          (find_no_record (λ (r : BufferRecord). is_of c.args.key.sequence c.args.key.chunk_id r && r.chunk.partial) c.self.inside.ring.live
          (ap (λ (b : Buffer). find (λ (r : BufferRecord). is_of c.args.key.sequence c.args.key.chunk_id r && r.chunk.partial) b.live) c.self.view_is ∙ c.requires.whole (arrives c.args.outcome c.in-Kept.is)))
          c.self.invariant.parts c.deref_mut.ensures.value c.note_arrived.ensures;
      counted = counted_after c.self.inside.rows c.deref_mut.result.now c.note_arrived.new.rows c.args.key.sequence (with_arrived c.args.key.chunk_id c.args.key.count) c.self.inside.ring.live c.self.inside.unfinished
          (record { number = λ s. refl; size = λ s. refl }) c.self.invariant.counted c.deref_mut.ensures.value c.note_arrived.ensures;
    }
