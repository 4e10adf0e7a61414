use Rattle.std.proofs.Common.{◌≡◌, ◌+◌, ◌++◌, take, drop, length}
use Rattle.trace_writer.proofs.bytes.put_short.Given as goal

abbrev pub invariant-loop-i : goal.invariant-loop-i
invariant-loop-i l = record {
  front : take (l.at + l.i) l.payload ≡ take l.at l.initial.payload ++ take l.i l.piece;
  rest : drop (l.at + l.i) l.payload ≡ drop (l.at + l.i) l.initial.payload;
  size : length l.payload ≡ length l.initial.payload;
}
