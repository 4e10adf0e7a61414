-- The last answers of the writers before this one were read, in rising number.
use Rattle.std.proofs.Common.{ℕ, ◌<◌}
use Rattle.thread_service.specs.Serving.{view_in, desk_in, Serves}
use Rattle.thread_host.specs.Growing.{IsHearing}
use Rattle.thread_host.specs.Tally.{HearsOf}
use Rattle.thread_host.specs.Terms.{LeavesTally}
use Rattle.thread_host.proofs.reading.read_answers.Given as goal

abbrev pub invariant-writers : goal.invariant-writers
invariant-writers l = record {
  serves : Serves l.table l.service;
  hears : IsHearing l.place (view_in l.fn.service) (view_in l.service);
  leaves : LeavesTally l.table l.fn.service l.service l.fn.tally l.tally;
  heard : (place : ℕ) → place < l.place → HearsOf (view_in l.service) (desk_in l.service) place;
}
