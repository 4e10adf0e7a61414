-- The sums of the requests that the writer hadn't answered are raised, one after another.
use Rattle.std.proofs.Common.{◌≡◌, ℕ, ◌+◌, ◌<◌, ◌≤◌, length, get_or}
use Rattle.replay_host.proofs.flushes.Flushes.answer.Given as goal

abbrev pub invariant-loop-flush : goal.invariant-loop-flush
invariant-loop-flush l = record {
  made : l.self.made ≡ l.fn.self.made;
  answered : l.self.answered ≡ l.fn.self.answered;
  told : l.self.answers ≡ l.fn.self.answers;
  long : length l.self.chunks.items ≡ length l.fn.self.chunks.items;
  same : (k : ℕ) → l.flush ≤ k → get_or l.self.chunks.items k 0 ≡ get_or l.fn.self.chunks.items k 0;
  below : (k : ℕ) → k < get_or l.fn.self.answered.items l.place 0 → get_or l.self.chunks.items k 0 ≡ get_or l.fn.self.chunks.items k 0;
  raised : (k : ℕ) → get_or l.fn.self.answered.items l.place 0 ≤ k → k < l.flush → get_or l.self.chunks.items k 0 ≡ get_or l.fn.self.chunks.items k 0 + l.chunks;
}
