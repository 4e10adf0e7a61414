use Rattle.std.proofs.Common.{◌≡◌, List, ◌++◌, length}
use Rattle.chunk_plain.specs.Views.{Look}
use Rattle.chunk_words.specs.Sits.{setup_in}
use Rattle.service_core.specs.Agreement.{KeepsRest}
use Rattle.thread_service.specs.Serving.{core_of, view_in, ServesStill}
use Rattle.thread_service.specs.Settling.{AreSeenOut, TakesAllOut}
use Rattle.thread_service.proofs.service.Service.collect_all_out.Given as goal

abbrev pub invariant-producers : goal.invariant-producers
invariant-producers l = record {
  stays : ServesStill l.table l.fn.self l.self;
  keeps : KeepsRest (setup_in l.table) (core_of l.fn.self) (core_of l.self);
  takes : TakesAllOut (setup_in l.table) l.index (view_in l.fn.self) (view_in l.self);
  looks : (looks : List Look) × ((view_in l.self).looks ≡ (view_in l.fn.self).looks ++ looks);
  seen : AreSeenOut (setup_in l.table) (length (view_in l.fn.self).looks) l.index (view_in l.self);
}
