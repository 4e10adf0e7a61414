use Rattle.std.proofs.Common.{◌≡◌, Some}
use Rattle.chunk_plain.specs.World.{World}
use Rattle.service_core.specs.Told.{LeavesNone}
use Rattle.std.proofs.Common.{take}
use Rattle.chunk_plain.specs.Meaning.{IsServiceStep}
use Rattle.service_core.specs.Agreement.{ServiceAgrees}
use Rattle.service_core.specs.Closing.{TakesAndClosesSome, ClosesSome}
use Rattle.service_core.proofs.service.ServiceCore.close_producer.Given as goal

abbrev pub invariant-loop-place : goal.invariant-loop-place
invariant-loop-place g l = record {
  agrees : ServiceAgrees (g.W.Words.means.setup l.fn.table) (g.W.Words.means.service_view l.table l.self.seat) l.self;
  closes : ClosesSome (g.W.Words.means.setup l.fn.table) l.producer l.place l.fn.self l.self;
  step : IsServiceStep g.W.Words.means l.fn.table l.fn.self.seat l.table l.self.seat;
  told : (world : World) → g.W.Words.means.told l.fn.table ≡ Some world
      → LeavesNone (g.W.Words.means.setup l.fn.table) l.producer world (g.W.Words.means.told l.table) (g.W.Words.means.service_view l.table l.self.seat);
  takes : TakesAndClosesSome (g.W.Words.means.setup l.fn.table) l.producer l.count (take l.place (g.W.Words.means.setup l.fn.table).writers)
      (g.W.Words.means.service_view l.fn.table l.fn.self.seat) (g.W.Words.means.service_view l.table l.self.seat);
}
