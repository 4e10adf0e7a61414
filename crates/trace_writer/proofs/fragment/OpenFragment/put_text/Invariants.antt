use Rattle.std.proofs.Common.{◌≡◌, ◌+◌, ◌*◌, length}
use Rattle.std.specs.List.{repeat}
use Rattle.trace_writer.specs.Fragment.{IsPutInto}
use Rattle.trace_writer.proofs.fragment.OpenFragment.put_text.Given as goal

abbrev pub invariant-loop-turn : goal.invariant-loop-turn
invariant-loop-turn l = record {
  puts : IsPutInto l.fn.self l.self l.fn.self.at (repeat l._turn l.text);
  at : l.self.at ≡ l.fn.self.at + l._turn * length l.text;
}
