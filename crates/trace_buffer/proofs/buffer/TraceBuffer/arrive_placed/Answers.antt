use Rattle.std.proofs.Common.{◌&&◌, refl, sym, ap, ◌∙◌, subst}
use Rattle.std.specs.List.{find}
use Rattle.trace_model.specs.Arrivals.{makes_arrive}
use Rattle.trace_model.specs.Buffers.{Buffer, BufferRecord, is_of}
use Rattle.trace_buffer.specs.Answers.{arrived_value}
use Rattle.trace_buffer.proofs.SettledLemmas.{KeepsRows, settled_rows, known_still, open_still, fresh_still, near_still, there_before, fresh_before, near_before, no_part_after}
use Rattle.trace_buffer.proofs.buffer.TraceBuffer.arrive_placed.Goals as goal

pub settle-requires-clause-rewritten : goal.settle-requires-clause-rewritten
settle-requires-clause-rewritten c is = there_before c.args.self.now c.args.image.now.sequence c.args.image.now.chunk_id (sym c.complete_outcome-outcome.ensures ∙ is)

pub note_outcome-requires-clause-known : goal.note_outcome-requires-clause-known
note_outcome-requires-clause-known c = known_still c.args.self.now.sequences c.settle.new.self.sequences c.args.image.now.sequence (subst (KeepsRows c.args.self.now.sequences) (sym (ap (λ (b : Buffer). b.sequences) c.settle.ensures)) (settled_rows (arrived_value c.complete_outcome-outcome.result) c.args.self.now c.args.image.now.sequence c.args.image.now.chunk_id _)) c.requires.known

pub note_outcome-requires-clause-open : goal.note_outcome-requires-clause-open
note_outcome-requires-clause-open c = open_still c.args.self.now.sequences c.settle.new.self.sequences c.args.image.now.sequence (subst (KeepsRows c.args.self.now.sequences) (sym (ap (λ (b : Buffer). b.sequences) c.settle.ensures)) (settled_rows (arrived_value c.complete_outcome-outcome.result) c.args.self.now c.args.image.now.sequence c.args.image.now.chunk_id _)) c.requires.known c.requires.open

pub note_outcome-requires-clause-fresh : goal.note_outcome-requires-clause-fresh
note_outcome-requires-clause-fresh c makes =
    fresh_still c.args.self.now.sequences c.settle.new.self.sequences c.args.image.now.sequence c.args.image.now.chunk_id (subst (KeepsRows c.args.self.now.sequences) (sym (ap (λ (b : Buffer). b.sequences) c.settle.ensures)) (settled_rows (arrived_value c.complete_outcome-outcome.result) c.args.self.now c.args.image.now.sequence c.args.image.now.chunk_id _)) c.requires.known (fresh_before c.args.self.now c.args.image.now.sequence c.args.image.now.chunk_id (sym (ap makes_arrive c.complete_outcome-outcome.ensures) ∙ makes))

pub note_outcome-requires-clause-near : goal.note_outcome-requires-clause-near
note_outcome-requires-clause-near c makes =
    near_still c.args.self.now.sequences c.settle.new.self.sequences c.args.image.now.sequence c.args.image.now.chunk_id (subst (KeepsRows c.args.self.now.sequences) (sym (ap (λ (b : Buffer). b.sequences) c.settle.ensures)) (settled_rows (arrived_value c.complete_outcome-outcome.result) c.args.self.now c.args.image.now.sequence c.args.image.now.chunk_id _)) c.requires.known (near_before c.args.self.now c.args.image.now.sequence c.args.image.now.chunk_id (sym (ap makes_arrive c.complete_outcome-outcome.ensures) ∙ makes))

pub note_outcome-requires-clause-whole : goal.note_outcome-requires-clause-whole
note_outcome-requires-clause-whole c makes =
    ap (λ (b : Buffer). find (λ (r : BufferRecord). is_of c.args.image.now.sequence c.args.image.now.chunk_id r && r.chunk.partial) b.live) c.settle.ensures
    ∙ no_part_after (arrived_value c.complete_outcome-outcome.result) c.args.self.now c.args.image.now.sequence c.args.image.now.chunk_id _ c.complete_outcome-outcome.ensures makes refl
