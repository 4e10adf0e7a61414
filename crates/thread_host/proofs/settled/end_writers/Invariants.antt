-- The writers before this one have left their seats, and the service has heard of them.
use Rattle.std.proofs.Common.{◌≡◌, ◌≤◌, List, ◌++◌, length, map}
use Rattle.std.specs.Prelude.{vec_capacity}
use Rattle.chunk_words.specs.Closed.{views_of}
use Rattle.chunk_words.specs.Sits.{setup_in}
use Rattle.run_model.specs.Settled.{last_flushes}
use Rattle.scenario_text.specs.declared.scenario.NumberedLine.{NumberedLine}
use Rattle.thread_service.specs.Serving as serving
use Rattle.thread_writer.specs.declared.writer.TraceWriter.{TraceWriter}
use Rattle.thread_writer.specs.Writing.{view_in}
use Rattle.thread_host.specs.Ending.{AreDoneSeats, HasHeardAll}
use Rattle.thread_host.specs.Hosts.{HavePlayed}
use Rattle.thread_host.specs.Terms.{OnlyLearns}
use Rattle.thread_host.proofs.settled.end_writers.Given as goal

abbrev pub invariant-writers : goal.invariant-writers
invariant-writers l = record {
  gone : List TraceWriter;
  all : gone ++ l.left.items ≡ l.fn.writers.items;
  many : length gone ≡ l.place;
  seats_many : length l.seats.items ≡ l.place;
  know : views_of l.seats.items ≡ map view_in gone;
  room : length (setup_in l.table).writers ≤ vec_capacity l.seats;
  sequences : length l.sequences ≡ length (setup_in l.table).writers;
  learns : OnlyLearns l.table l.fn.service l.service;
  heard : HasHeardAll (length (serving.view_in l.service).looks) (serving.desk_in l.service) l.seats.items;
  ended : (lines : List NumberedLine) → HavePlayed lines last_flushes l.table l.fn.writers.items → AreDoneSeats lines l.table l.seats.items l.sequences;
}
