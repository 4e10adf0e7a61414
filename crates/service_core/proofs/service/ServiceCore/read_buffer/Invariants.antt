use Rattle.std.proofs.Common.{◌≡◌}
use Rattle.service_core.specs.Reading.{ReadsSome, read_moment, read_yet}
use Rattle.service_core.specs.Calls.{NotesOn}
use Rattle.service_core.proofs.service.ServiceCore.read_buffer.Given as goal

abbrev pub invariant-loop-place : goal.invariant-loop-place
invariant-loop-place g l = record {
  on : NotesOn g.W.Words.means l.fn.table l.fn.self l.table l.self;
  reads : ReadsSome (g.W.Words.means.setup l.fn.table) l.fn.self l.buffer l.limit (read_yet l.self l.place l.left)
      (read_moment (g.W.Words.means.service_view l.fn.table l.fn.self.seat) (g.O.Sink.taken l.fn.out))
      (read_moment (g.W.Words.means.service_view l.table l.self.seat) (g.O.Sink.taken l.out));
  faults : g.O.Sink.faults l.out ≡ g.O.Sink.faults l.fn.out;
  may : g.O.Sink.may_write l.out;
}
