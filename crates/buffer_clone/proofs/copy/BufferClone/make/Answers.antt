use Rattle.buffer_clone.proofs.NumberLemmas.{numbers_made}
use Rattle.buffer_clone.proofs.copy.BufferClone.make.Goals as goal

pub invariant_of-result : goal.invariant_of-result
invariant_of-result c = record {
  numbers = numbers_made c.in_ok-buffer.buffer c.args.spec.size c.args.spec.policy c.args.sequences.now c.in_ok-numbers.numbers.items
      c.in_ok-numbers.ensures c.in_ok-buffer.ensures;
}
