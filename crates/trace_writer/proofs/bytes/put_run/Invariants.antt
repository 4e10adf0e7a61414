use Rattle.std.proofs.Common.{◌≡◌, ◌+◌, ◌++◌, [], ◌∷◌, take, drop, length}
use Rattle.std.specs.List.{repeat}
use Rattle.trace_writer.proofs.bytes.put_run.Given as goal

abbrev pub invariant-loop-turn : goal.invariant-loop-turn
invariant-loop-turn l = record {
  front : take (l.at + l.turn) l.payload ≡ take l.at l.initial.payload ++ repeat l.turn (l.byte ∷ []);
  rest : drop (l.at + l.turn) l.payload ≡ drop (l.at + l.turn) l.initial.payload;
  size : length l.payload ≡ length l.initial.payload;
}
