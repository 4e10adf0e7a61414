use Rattle.std.proofs.Common.{◌≡◌, ◌*◌, drop}
use Rattle.chunk_plain.specs.Payload.{StoredUpTo}
use Rattle.chunk_plain.proofs.bytes.pack_all.Given as goal

abbrev pub invariant-loop-index : goal.invariant-loop-index
invariant-loop-index l = record {
  stored : StoredUpTo l.from 0 l.index l.initial.words l.words;
  rest : l.rest ≡ drop (8 * l.index) l.from;
}
