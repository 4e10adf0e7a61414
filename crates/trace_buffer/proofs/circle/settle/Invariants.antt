use Rattle.std.proofs.Common.{◌≡◌, ◌-◌, ◌^◌, ◌≤◌, length}
use Rattle.trace_buffer.specs.Circle.{arrived_of}
use Rattle.trace_buffer.proofs.circle.settle.Given as goal

abbrev pub invariant-loop-bits : goal.invariant-loop-bits
invariant-loop-bits l = record {
  len : length l.bits ≡ 1024;
  same : arrived_of l.base l.bits ≡ arrived_of l.fn.base l.fn.bits;
  low : l.base ≤ 2 ^ 32;
}

abbrev pub decreases-loop-bits : goal.decreases-loop-bits
decreases-loop-bits l = length (arrived_of l.fn.base l.fn.bits) - l.base
