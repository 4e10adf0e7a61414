use Rattle.std.proofs.Common.{◌≡◌, ℕ, ◌*◌, ◌<◌, length}
use Rattle.chunk_plain.specs.Payload.{byte_at, byte_in}
use Rattle.chunk_plain.proofs.bytes.unpack.Given as goal

abbrev pub invariant-loop-k : goal.invariant-loop-k
invariant-loop-k l = record {
  size : length l.into ≡ length l.initial.into;
  done : (j : ℕ) → j < 8 * l.k → byte_in l.into j ≡ byte_at l.words j;
}

abbrev pub invariant-loop-j : goal.invariant-loop-j
invariant-loop-j l = record {
  size : length l.into ≡ length l.initial.into;
  done : (j : ℕ) → j < l.j → byte_in l.into j ≡ byte_at l.words j;
}
