use Rattle.std.proofs.Common.{◌≡◌, Some}
use Rattle.chunk_plain.specs.World.{World}
use Rattle.service_core.specs.Told.{LeavesNoneYet}
use Rattle.std.proofs.Common.{◌≤◌, ◌*◌, ◌^◌, take}
use Rattle.service_core.specs.Taking.{Takes, places_of}
use Rattle.service_core.specs.Calls.{ServesOn}
use Rattle.service_core.proofs.service.ServiceCore.collect.Given as goal

abbrev pub invariant-loop-place : goal.invariant-loop-place
invariant-loop-place g l = record {
  on : ServesOn g.W.Words.means l.fn.table l.fn.self l.table l.self;
  takes : Takes (g.W.Words.means.setup l.fn.table) (places_of l.producer 0 (take l.place (g.W.Words.means.setup l.fn.table).writers)) l.count
      (g.W.Words.means.service_view l.fn.table l.fn.self.seat) (g.W.Words.means.service_view l.table l.self.seat);
  told : (world : World) → g.W.Words.means.told l.fn.table ≡ Some world
      → LeavesNoneYet (g.W.Words.means.setup l.fn.table) l.producer l.place world (g.W.Words.means.told l.table) (g.W.Words.means.service_view l.table l.self.seat);
  small : l.count ≤ l.place * 2 ^ 32;
}
