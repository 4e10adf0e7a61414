use Rattle.std.proofs.Common.{◌+◌, ◌-◌, ◌*◌, false, length, vec_len}
use Rattle.trace_writer.specs.Site.{site_of}
use Rattle.trace_writer.specs.Helping.{IsWork}
use Rattle.trace_writer.specs.Moments.{at_step}
use Rattle.trace_writer.proofs.packets.Putting.{PutsSoFar}
use Rattle.trace_writer.proofs.stream.put_piece.Given as goal

abbrev pub invariant-chunks : goal.invariant-chunks
invariant-chunks g l = record {
  work : IsWork g.W.Words.means g.H.HelperOn.needs g.H.HelperOn.helps false
      l.route (at_step l.fn.help l.fn.table l.fn.seat l.fn.steps) false (at_step l.help l.table l.seat l.steps);
  so_far : PutsSoFar (site_of (g.W.Words.means.setup l.fn.table) (g.W.Words.means.place l.fn.seat) l.route) (g.W.Words.means.view l.fn.table l.fn.seat)
      (g.W.Words.means.view l.table l.seat) l.fn.pending l.pending l.fn.fragment l.fragment l.piece l.rest;
}

-- each turn writes a byte, but for one in a chunk that is full
abbrev pub decreases-chunks : goal.decreases-chunks
decreases-chunks g l = length l.rest * 2 + (1 - (vec_len l.fragment.held.body.payload - l.fragment.at))
