use Rattle.trace_writer.proofs.seat_calls.CoreDone.{makes_begun, begun_inside}
use Rattle.trace_writer.proofs.writer.WriterCore.begin.Goals as goal

pub returns-clause-call : goal.returns-clause-call
returns-clause-call g c =
    makes_begun g.W.Words.means g.H.HelperOn.needs g.H.HelperOn.helps c.requires.may_call c.requires.none_begun c.begin.ensures.begins

pub returns-clause-in_packet : goal.returns-clause-in_packet
returns-clause-in_packet g c = (begun_inside g.W.Words.means g.H.HelperOn.needs g.H.HelperOn.helps c.begin.result c.begin.ensures.begins).0

pub returns-clause-depth : goal.returns-clause-depth
returns-clause-depth g c = (begun_inside g.W.Words.means g.H.HelperOn.needs g.H.HelperOn.helps c.begin.result c.begin.ensures.begins).1
