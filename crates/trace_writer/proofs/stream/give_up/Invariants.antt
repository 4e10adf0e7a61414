use Rattle.std.proofs.Common.{length}
use Rattle.trace_writer.specs.Site.{site_of}
use Rattle.trace_writer.proofs.packets.GivenUp.{ClosesIn}
use Rattle.trace_writer.proofs.stream.give_up.Given as goal

abbrev pub invariant-holes : goal.invariant-holes
invariant-holes g l =
    ClosesIn (site_of (g.W.Words.means.setup l.table) (g.W.Words.means.place l.seat) l.route) (g.W.Words.means.view l.table l.seat)
    l.initial.pending l.pending l.initial.fragment l.fragment

abbrev pub decreases-holes : goal.decreases-holes
decreases-holes g l = length l.pending.holes
