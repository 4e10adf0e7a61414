use Rattle.std.proofs.Common.{◌≡◌, Some}
use Rattle.chunk_plain.specs.Views.{taken_of}
use Rattle.chunk_plain.specs.World.{World}
use Rattle.service_core.specs.Scraping.{TakesNoPartOf, FindsNoPartOf}
use Rattle.service_core.specs.Calls.{ServesOn}
use Rattle.service_core.proofs.service.ServiceCore.scrape_writer.Given as goal

abbrev pub invariant-loop-chunk : goal.invariant-loop-chunk
invariant-loop-chunk g l = record {
  on : ServesOn g.W.Words.means l.fn.table l.fn.self l.table l.self;
  told : (world : World) → g.W.Words.means.told l.fn.table ≡ Some world
      → FindsNoPartOf l.place (taken_of (g.W.Words.means.service_view l.fn.table l.fn.self.seat) l.place).count l.first l.chunk world
      (g.W.Words.means.told l.table) (g.W.Words.means.service_view l.table l.self.seat);
  seen : TakesNoPartOf (g.W.Words.means.setup l.fn.table) l.place l.first l.chunk (g.W.Words.means.service_view l.fn.table l.fn.self.seat) (g.W.Words.means.service_view l.table l.self.seat);
}
