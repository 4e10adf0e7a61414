use Rattle.std.proofs.Common.{◌≡◌, map, take}
use Rattle.trace_buffer.specs.declared.answers.SequenceSpec.{SequenceSpec}
use Rattle.buffer_clone.proofs.closing.numbers_in.Given as goal

abbrev pub invariant-loop-spec : goal.invariant-loop-spec
invariant-loop-spec l = l.numbers.items ≡ map (λ (spec : SequenceSpec). spec.sequence) (take l.spec-index l.specs)
