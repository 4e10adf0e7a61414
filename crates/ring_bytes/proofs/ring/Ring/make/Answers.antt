use Rattle.std.proofs.Common.{◌≡◌, ℕ, List, [], ◌++◌, ap₂, refl, arith}
use Rattle.ring_bytes.specs.Fields.{live_of}
use Rattle.ring_bytes.proofs.RowLemmas.{row_none, past_none}
use Rattle.ring_bytes.proofs.ring.Ring.make.Goals as goal

pub invariant_of-result : goal.invariant_of-result
invariant_of-result c =
    let bytes : List ℕ = c.in_ok-bytes.bytes.items in
    let none = past_none bytes 0 0 (row_none bytes 0).0 in
    record {
      small = c.requires.most;
      reached_in = omega arith;
      whole = omega (arith, c.in_ok-bytes.bytes.ok.0, c.in_ok-bytes.ensures.len);
      roomy = c.in_ok-bytes.ensures.capacity;
      next_in = omega arith;
      size_units = c.requires.units;
      reached_units = refl;
      next_units = refl;
      clear = none;
      front = none;
    }

pub returns : goal.returns
returns c =
    let bytes : List ℕ = c.in_ok-bytes.bytes.items in
    let live : live_of bytes 0 0 ≡ [] = ap₂ (λ xs ys. xs ++ ys) (row_none bytes 0).1 (row_none bytes 0).1 in
    λ i. record { room = c.args.size; next = 0; live = live i }
