use Rattle.std.proofs.Common.{false}
use Rattle.std.specs.List.{repeat}
use Rattle.trace_writer.specs.Site.{site_of}
use Rattle.trace_writer.specs.Helping.{IsWork}
use Rattle.trace_writer.specs.Moments.{at_step}
use Rattle.trace_writer.specs.Flows.{PutsOn}
use Rattle.trace_writer.proofs.stream.put_times.Given as goal

abbrev pub invariant-loop-turn : goal.invariant-loop-turn
invariant-loop-turn g l = record {
  work : IsWork g.W.Words.means g.H.HelperOn.needs g.H.HelperOn.helps false
      l.route (at_step l.fn.help l.fn.table l.fn.seat l.fn.steps) false (at_step l.help l.table l.seat l.steps);
  puts : PutsOn (site_of (g.W.Words.means.setup l.fn.table) (g.W.Words.means.place l.fn.seat) l.route) (g.W.Words.means.view l.fn.table l.fn.seat)
      (g.W.Words.means.view l.table l.seat) l.fn.pending l.pending l.fn.fragment l.fragment (repeat l._turn l.piece);
}
