use Rattle.stream_frames.proofs.LoopLemmas.{ReadsOn}
use Rattle.stream_frames.proofs.fields.patches_at.Given as goal

abbrev pub invariant-loop : goal.invariant-loop
invariant-loop l = ReadsOn l.count l.counter l.bytes l.rest
