use Rattle.std.proofs.Common.{◌≡◌, ◌+◌, drop}
use Rattle.byte_io.specs.Bytes.{TakesUpTo}
use Rattle.loss_report.specs.Report.{lines_of}
use Rattle.tune_lines.specs.Lines.{user_line}
use Rattle.tune_lines.proofs.lines.put_users.Given as goal

-- the lines so far
abbrev pub invariant-loop-i : goal.invariant-loop-i
invariant-loop-i g l = record {
  taken : TakesUpTo (g.O.Sink.taken l.fn.out) (g.O.Sink.taken l.out) (lines_of user_line 1 l.users) (lines_of user_line (l.i + 1) (drop l.i l.users));
  faults : g.O.Sink.faults l.out ≡ g.O.Sink.faults l.fn.out;
  may : g.O.Sink.may_write l.out;
}
