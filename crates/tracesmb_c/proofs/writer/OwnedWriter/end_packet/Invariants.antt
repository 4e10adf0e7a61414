use Rattle.std.proofs.Common.{◌≡◌, ℕ, ◌+◌, true}
use Rattle.trace_writer.specs.Core.{in_packet, open_depth}
use Rattle.tracesmb_c.specs.Eventing.{NotesAll, ended_calls}
use Rattle.tracesmb_c.specs.Lending.{IsReady, view_of}
use Rattle.tracesmb_c.proofs.writer.OwnedWriter.end_packet.Given as goal

abbrev pub invariant-messages : goal.invariant-messages
invariant-messages l = record {
  ready : IsReady l.self;
  inside : in_packet (view_of l.self) ≡ true;
  gone : ℕ;
  left : gone + open_depth (view_of l.self) ≡ open_depth (view_of l.fn.self);
  noted : NotesAll l.fn.self l.self (ended_calls gone);
}

abbrev pub decreases-messages : goal.decreases-messages
decreases-messages l = open_depth (view_of l.self)
