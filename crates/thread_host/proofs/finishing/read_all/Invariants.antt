-- The buffers before the next one are read.
use Rattle.std.proofs.Common.{◌≡◌}
use Rattle.chunk_words.specs.Sits.{setup_in, known_by_pass}
use Rattle.service_core.specs.Agreement.{first_of}
use Rattle.thread_service.specs.Serving.{core_of, view_in}
use Rattle.thread_host.specs.Finishing.{ReadsOut}
use Rattle.thread_host.specs.Jobs.{KeepsLoans}
use Rattle.thread_host.specs.Terms.{KnowsWhole, StaysServing}
use Rattle.thread_host.proofs.finishing.read_all.Given as goal

abbrev pub invariant-buffers : goal.invariant-buffers
invariant-buffers g l = record {
  stays : StaysServing l.table l.fn.service l.service;
  pass : KnowsWhole l.table l.pass;
  reads : ReadsOut (setup_in l.table) (first_of (setup_in l.table) (core_of l.fn.service)) l.index (view_in l.fn.service) (view_in l.service)
      (known_by_pass l.fn.pass) (known_by_pass l.pass) (g.T.Sink.taken l.fn.out) (g.T.Sink.taken l.out);
  stands : KeepsLoans (g.T.Sink.taken l.fn.out) (g.T.Sink.taken l.out);
  steady : g.T.Sink.faults l.out ≡ g.T.Sink.faults l.fn.out;
  may : g.T.Sink.may_write l.out;
}
