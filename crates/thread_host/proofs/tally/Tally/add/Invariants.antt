-- The sums of the requests that the writer hadn't answered are raised, one after another.
use Rattle.std.proofs.Common.{◌≡◌, ℕ, ◌+◌, ◌<◌, ◌≤◌, length, get_or}
use Rattle.thread_host.proofs.tally.Tally.add.Given as goal

abbrev pub invariant-loop-index : goal.invariant-loop-index
invariant-loop-index l = record {
  answered : l.self.answered ≡ l.fn.self.answered;
  long : length l.self.sums.items ≡ length l.fn.self.sums.items;
  same : (k : ℕ) → l.index ≤ k → get_or l.self.sums.items k 0 ≡ get_or l.fn.self.sums.items k 0;
  below : (k : ℕ) → k < get_or l.fn.self.answered.items l.place 0 → get_or l.self.sums.items k 0 ≡ get_or l.fn.self.sums.items k 0;
  raised : (k : ℕ) → get_or l.fn.self.answered.items l.place 0 ≤ k → k < l.index → get_or l.self.sums.items k 0 ≡ get_or l.fn.self.sums.items k 0 + l.chunks;
}
