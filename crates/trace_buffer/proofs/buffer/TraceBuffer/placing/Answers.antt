use Rattle.std.proofs.Common.{ap, arith}
use Rattle.trace_model.specs.Buffers.{Buffer}
use Rattle.trace_buffer.proofs.OutcomeLemmas.{is_there, placing_there, placing_refused, placing_kept}
use Rattle.trace_buffer.proofs.buffer.TraceBuffer.placing.Goals as goal

pub returns-then-is_some : goal.returns-then-is_some
returns-then-is_some c =
    let there = is_there c.self.inside.ring c.self.inside.index.places c.args.self.now.live c.args.sequence c.args.chunk_id c.find.result c.is_some.result c.self.invariant.parts.indexed
    (omega arith) (omega arith) (ap (λ (b : Buffer). b.live) c.self.view_is) c.find.ensures c.is_some.ensures in
    placing_there c.args.self.now c.args.sequence c.args.chunk_id c.is_some.result there c.if-is_some.true

pub returns-then-refuses : goal.returns-then-refuses
returns-then-refuses c =
    let there = is_there c.self.inside.ring c.self.inside.index.places c.args.self.now.live c.args.sequence c.args.chunk_id c.find.result c.is_some.result c.self.invariant.parts.indexed
    (omega arith) (omega arith) (ap (λ (b : Buffer). b.live) c.self.view_is) c.find.ensures c.is_some.ensures in
    placing_refused c.args.self.now c.args.sequence c.args.chunk_id c.is_some.result c.refuses.result there c.refuses.ensures c.if-is_some.false c.if-refuses.true

pub returns : goal.returns
returns c =
    let there = is_there c.self.inside.ring c.self.inside.index.places c.args.self.now.live c.args.sequence c.args.chunk_id c.find.result c.is_some.result c.self.invariant.parts.indexed
    (omega arith) (omega arith) (ap (λ (b : Buffer). b.live) c.self.view_is) c.find.ensures c.is_some.ensures in
    placing_kept c.args.self.now c.args.sequence c.args.chunk_id c.is_some.result c.refuses.result there c.refuses.ensures c.if-is_some.false c.if-refuses.false
