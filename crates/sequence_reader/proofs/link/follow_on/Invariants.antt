use Rattle.std.proofs.Common.{◌≡◌, ◌-◌, ◌+◌, ◌^◌, cond}
use Rattle.sequence_reader.specs.Links.{IsWalked}
use Rattle.sequence_reader.specs.Spots.{reach_of}
use Rattle.sequence_reader.proofs.link.follow_on.Given as goal

abbrev pub invariant-loop-chain : goal.invariant-loop-chain
invariant-loop-chain l = record {
  walked : IsWalked l.buffer l.bounds l.chain;
  at : l.chain.at ≡ l.fn.chain.at;
}

abbrev pub decreases-loop-chain : goal.decreases-loop-chain
decreases-loop-chain l = cond l.chain.goes_on (2 ^ 59 + 1 - reach_of l.chain.next) 0
