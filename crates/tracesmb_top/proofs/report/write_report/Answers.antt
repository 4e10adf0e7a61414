use Rattle.std.proofs.Common.{rules}
use Rattle.byte_io.specs.Buffered.{pending_bytes}
use Rattle.byte_io.proofs.Lent.{handed_on}
use Rattle.tracesmb_top.specs.Cloned.{report_of}
use Rattle.tracesmb_top.proofs.report.write_report.Goals as goal

pub returns-clause-part : goal.returns-clause-part
returns-clause-part g c =
    let back = handed_on (g.O.Sink.taken c.args.text.now) (g.O.Sink.taken c.write_gathered.new.text) (g.O.Sink.taken c.pass_on.new.inner)
    (report_of c.args.report.now) (pending_bytes c.write_gathered.new.pending) (pending_bytes c.pass_on.new.self)
    c.in_ok-write_gathered.ensures.all c.pass_on.ensures.passed in
    search (rules, back)
