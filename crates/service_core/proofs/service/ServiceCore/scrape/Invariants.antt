use Rattle.std.proofs.Common.{◌≡◌, ◌<◌, ℕ, Some, length, take}
use Rattle.chunk_plain.specs.Setup.{producer_of}
use Rattle.chunk_plain.specs.World.{World}
use Rattle.service_core.specs.Scraping.{TakesAndScrapesSome, ScrapesWorldYet, HoldsOwn}
use Rattle.service_core.specs.Calls.{ServesOn}
use Rattle.service_core.proofs.service.ServiceCore.scrape.Given as goal

abbrev pub invariant-loop-place : goal.invariant-loop-place
invariant-loop-place g l = record {
  on : ServesOn g.W.Words.means l.fn.table l.fn.self l.table l.self;
  scrapes : TakesAndScrapesSome (g.W.Words.means.setup l.fn.table) l.producer l.count (take l.place (g.W.Words.means.setup l.fn.table).writers)
      (g.W.Words.means.service_view l.fn.table l.fn.self.seat) (g.W.Words.means.service_view l.table l.self.seat);
  told : (world : World) → g.W.Words.means.told l.fn.table ≡ Some world
      → ((place : ℕ) → place < length (g.W.Words.means.setup l.fn.table).writers → producer_of (g.W.Words.means.setup l.fn.table) place ≡ l.producer
      → HoldsOwn (g.W.Words.means.setup l.fn.table) place world)
      → ScrapesWorldYet (g.W.Words.means.setup l.fn.table) l.producer l.count (take l.place (g.W.Words.means.setup l.fn.table).writers) world
      (g.W.Words.means.service_view l.fn.table l.fn.self.seat) (g.W.Words.means.told l.table) (g.W.Words.means.service_view l.table l.self.seat);
}
