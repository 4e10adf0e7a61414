use Rattle.std.proofs.Common.{List, [], sym, ap, ◌∙◌}
use Rattle.ring_bytes.specs.Value.{RingValue}
use Rattle.trace_model.specs.Sequences.{Sequence}
use Rattle.trace_buffer.specs.Unfinished.{unfinished_of}
use Rattle.trace_buffer.proofs.MadeLemmas.{small_more, parts_made}
use Rattle.trace_buffer.proofs.buffer.TraceBuffer.make.Goals as goal

pub least_size-least-requires-clause-small : goal.least_size-least-requires-clause-small
least_size-least-requires-clause-small c = small_more c.args.spec.size 67108864 c.args.sequences.now c.requires.most c.requires.small

pub make_rows-requires : goal.make_rows-requires
make_rows-requires c = small_more c.args.spec.size 67108864 c.args.sequences.now c.requires.most c.requires.small

pub invariant_of-result : goal.invariant_of-result
invariant_of-result c = record {
  parts = parts_made c.in_ok-ring.ring c.in_ok-index.index c.in_ok-rows.rows.items c.args.spec.size c.least_size-least.result c.args.sequences.now
      c.in_ok-ring.ensures c.in_ok-index.ensures c.in_ok-rows.ensures c.least_size-least.ensures.some c.requires.small c.least_size-least.ensures.least c.requires.distinct;
  counted = c.in_ok-unfinished.ensures ∙ ap (λ (ss : List Sequence). unfinished_of ss []) c.deref.ensures.value
      ∙ ap (λ (r : RingValue). unfinished_of c.in_ok-rows.rows.items r.live) (sym c.in_ok-ring.ensures);
}
