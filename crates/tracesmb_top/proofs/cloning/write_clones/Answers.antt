use Rattle.std.proofs.Common.{rules}
use Rattle.byte_io.specs.Buffered.{pending_bytes}
use Rattle.byte_io.proofs.Lent.{handed_on}
use Rattle.tracesmb_top.specs.Cloned.{clones_trace}
use Rattle.tracesmb_top.proofs.cloning.write_clones.Goals as goal

pub returns-clause-part : goal.returns-clause-part
returns-clause-part g c =
    let back = handed_on (g.T.Sink.taken c.args.trace.now) (g.T.Sink.taken c.read_gathered.new.trace) (g.T.Sink.taken c.pass_on.new.inner)
    (clones_trace c.args.clones.now) (pending_bytes c.read_gathered.new.pending) (pending_bytes c.pass_on.new.self)
    c.in_ok-read_gathered.ensures.all c.pass_on.ensures.passed in
    search (rules, back)
