use Rattle.std.proofs.Common.{ℕ, ◌<◌, List}
use Rattle.std.specs.List.{All}
use Rattle.chunk_words.specs.Sits.{setup_in}
use Rattle.service_core.specs.Agreement.{KeepsRest, ids_left}
use Rattle.thread_service.specs.Serving.{core_of, view_in, ServesStill}
use Rattle.thread_service.specs.Settling.{TakesRounds}
use Rattle.thread_service.proofs.service.Service.collect_out.Given as goal

abbrev pub invariant-rounds : goal.invariant-rounds
invariant-rounds l = record {
  stays : ServesStill l.table l.initial.self l.self;
  keeps : KeepsRest (setup_in l.table) (core_of l.initial.self) (core_of l.self);
  rounds : (rounds : List ℕ) × All (λ taken. 0 < taken) rounds
      × TakesRounds (setup_in l.table) l.producer rounds (view_in l.initial.self) (view_in l.self);
}

-- each round but the last one takes a chunk, and so uses up an id
abbrev pub decreases-rounds : goal.decreases-rounds
decreases-rounds l = ids_left (core_of l.self)
