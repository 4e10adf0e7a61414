use Rattle.std.proofs.Common.{◌≡◌, ◌≤◌, ◌+◌, Some}
use Rattle.chunk_plain.specs.World.{World}
use Rattle.service_core.specs.Told.{FreesSome}
use Rattle.service_core.specs.Taking.{TakesSome}
use Rattle.service_core.specs.Calls.{ServesOn}
use Rattle.service_core.proofs.service.ServiceCore.take_all.Given as goal

abbrev pub invariant-loop-taken : goal.invariant-loop-taken
invariant-loop-taken g l = record {
  on : ServesOn g.W.Words.means l.fn.table l.fn.self l.table l.self;
  told : (world : World) → g.W.Words.means.told l.fn.table ≡ Some world
      → FreesSome (g.W.Words.means.setup l.fn.table) l.place l.taken world (g.W.Words.means.told l.table) (g.W.Words.means.service_view l.table l.self.seat);
  from : (l.first ≤ l.from) × (l.from ≤ l.first + l.count);
  some : TakesSome l.place l.taken (g.W.Words.means.service_view l.fn.table l.fn.self.seat) (g.W.Words.means.service_view l.table l.self.seat);
}
