-- The producers before the next one are closed, and those from it on are open.
use Rattle.std.proofs.Common.{◌≡◌, ℕ, ◌+◌, ◌<◌, ◌≤◌, true, false, length}
use Rattle.chunk_plain.specs.Setup.{producer_of}
use Rattle.chunk_plain.specs.Views.{taken_of}
use Rattle.chunk_words.specs.Sits.{setup_in}
use Rattle.service_core.specs.Agreement.{is_closed}
use Rattle.thread_service.specs.Serving.{core_of, view_in, Serves}
use Rattle.tracesmb_c.proofs.stopping.close_all.Given as goal

abbrev pub invariant-producers : goal.invariant-producers
invariant-producers l = record {
  serves : Serves l.table l.service;
  specs : (core_of l.service).specs.items ≡ (core_of l.fn.service).specs.items;
  commits : (view_in l.service).commits ≡ (view_in l.fn.service).commits;
  rises : (place : ℕ) → (taken_of (view_in l.fn.service) place).count ≤ (taken_of (view_in l.service) place).count;
  opened : (place : ℕ) → place < length (setup_in l.table).writers → l.index < producer_of (setup_in l.table) place
      → is_closed (setup_in l.table) (core_of l.service) place ≡ false;
  closed : (index : ℕ) → index < l.index → (place : ℕ) → place < length (setup_in l.table).writers
      → producer_of (setup_in l.table) place ≡ index + 1 → is_closed (setup_in l.table) (core_of l.service) place ≡ true;
}
