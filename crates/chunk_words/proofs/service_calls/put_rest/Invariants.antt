use Rattle.std.proofs.Common.{◌≡◌, ℕ, ◌+◌, ◌*◌, ◌<◌, length}
use Rattle.chunk_plain.specs.Payload.{byte_of, byte_in}
use Rattle.chunk_words.proofs.service_calls.put_rest.Given as goal

abbrev pub invariant-loop-j : goal.invariant-loop-j
invariant-loop-j l = record {
  size : length l.into ≡ length l.initial.into;
  here : (m : ℕ) → m < 8 → 8 * l.index + m < l.j → byte_in l.into (8 * l.index + m) ≡ byte_of l.word m;
  before : (i : ℕ) → i < 8 * l.index → byte_in l.into i ≡ byte_in l.initial.into i;
}
