use Rattle.std.proofs.Common.{◌≡◌, ◌+◌, ◌-◌, Some}
use Rattle.chunk_plain.specs.World.{World}
use Rattle.chunk_plain.specs.Steps.{with_writer_view}
use Rattle.chunk_plain.specs.Meaning.{IsWriterStep}
use Rattle.claim_arbiter.specs.Claiming.{AsksInVain, NoneFree}
use Rattle.claim_arbiter.proofs.arbiter.claim_over.Given as goal

-- the chunks so far were asked for in vain, one step each
abbrev pub invariant-loop-chunk : goal.invariant-loop-chunk
invariant-loop-chunk g l = record {
  step : IsWriterStep g.W.Words.means l.fn.table l.fn.seat l.table l.seat;
  vain : AsksInVain (g.W.Words.means.setup l.fn.table) l.arbiter.first (l.chunk - l.arbiter.first) (g.W.Words.means.view l.fn.table l.fn.seat) (g.W.Words.means.view l.table l.seat);
  counted : l.steps + l.arbiter.first ≡ l.fn.steps + l.chunk;
  told : (world : World) → g.W.Words.means.told l.fn.table ≡ Some world → NoneFree world l.arbiter.first l.chunk
      × (g.W.Words.means.told l.table ≡ Some (with_writer_view world (g.W.Words.means.place l.fn.seat) (g.W.Words.means.view l.table l.seat)));
}
