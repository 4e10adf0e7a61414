-- The lines before those that are still to come were played.
use Rattle.std.proofs.Common.{◌≡◌, List, ◌+◌, ◌++◌, length}
use Rattle.chunk_words.specs.Sits.{known_by_pass}
use Rattle.scenario_text.specs.declared.scenario.NumberedLine.{NumberedLine}
use Rattle.run_model.specs.Lines.{service_lines}
use Rattle.thread_host.specs.Jobs.{KeepsLoans, TellsLines}
use Rattle.thread_host.specs.Terms.{KnowsWhole}
use Rattle.thread_host.proofs.job.service_job.Given as goal

abbrev pub invariant-lines : goal.invariant-lines
invariant-lines g l = record {
  before : List NumberedLine;
  all : before ++ l.walk ≡ l.fn.lines;
  pass : KnowsWhole l.table l.pass;
  told : TellsLines g.N.HostName.setup g.N.HostName.first before (known_by_pass l.fn.pass) (known_by_pass l.pass)
      (g.O.Sink.taken l.fn.out) (g.O.Sink.taken l.out);
  stands : KeepsLoans (g.O.Sink.taken l.fn.out) (g.O.Sink.taken l.out);
  turns : l.turns ≡ length (service_lines before) + length (service_lines before);
  reads : l.readings ≡ l.fn.readings + length (service_lines before);
  steady : g.O.Sink.faults l.out ≡ g.O.Sink.faults l.fn.out;
  may : g.O.Sink.may_write l.out;
}

abbrev pub decreases-lines : goal.decreases-lines
decreases-lines g l = length l.walk
