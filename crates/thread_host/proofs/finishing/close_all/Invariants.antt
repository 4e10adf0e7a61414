-- The producers before the next one are closed, and those from it on are open.
use Rattle.std.proofs.Common.{◌≡◌, ℕ, ◌<◌, false, length}
use Rattle.chunk_plain.specs.Setup.{producer_of}
use Rattle.chunk_words.specs.Sits.{setup_in}
use Rattle.service_core.specs.Agreement.{first_of, is_closed}
use Rattle.run_model.specs.Settled.{ClosesTo}
use Rattle.thread_service.specs.Serving.{core_of, view_in, desk_in, Serves}
use Rattle.thread_host.specs.Finishing.{AreClosedTo}
use Rattle.thread_host.proofs.finishing.close_all.Given as goal

abbrev pub invariant-producers : goal.invariant-producers
invariant-producers l = record {
  serves : Serves l.table l.service;
  first : first_of (setup_in l.table) (core_of l.service) ≡ first_of (setup_in l.table) (core_of l.fn.service);
  closes : ClosesTo (setup_in l.table) l.index (view_in l.fn.service) (view_in l.service);
  desk : desk_in l.service ≡ desk_in l.fn.service;
  closed : AreClosedTo (setup_in l.table) l.index l.service;
  opened : (place : ℕ) → place < length (setup_in l.table).writers → l.index < producer_of (setup_in l.table) place
      → is_closed (setup_in l.table) (core_of l.service) place ≡ false;
}
