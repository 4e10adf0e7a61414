use Rattle.std.proofs.Common.{◌≡◌, ℕ, ◌+◌, ◌<◌, ◌≤◌, None}
use Rattle.chunk_index.specs.Value.{place_of}
use Rattle.chunk_index.proofs.index.Index.first_from.Given as goal

abbrev pub invariant-loop-ahead : goal.invariant-loop-ahead
invariant-loop-ahead l =
    (other : ℕ) → l.chunk_id ≤ other → other < l.chunk_id + l.ahead → place_of l.self l.sequence other ≡ None
