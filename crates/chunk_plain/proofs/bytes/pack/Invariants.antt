use Rattle.chunk_plain.proofs.PackLemmas.{SetUpTo}
use Rattle.chunk_plain.proofs.bytes.pack.Given as goal

-- the bytes so far stand in their places
abbrev pub invariant-loop-m : goal.invariant-loop-m
invariant-loop-m l = SetUpTo l.rest l.eight l.m
