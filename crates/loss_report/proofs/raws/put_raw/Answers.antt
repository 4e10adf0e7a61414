use Rattle.std.proofs.Common.{◌∙◌, subst, ℕ, List, arith, rules}
use Rattle.byte_io.specs.Bytes.{TakesPart}
use Rattle.loss_report.specs.declared.raws.RawAnswer.TheVariants.{Kept}
use Rattle.loss_report.specs.declared.raws.RawLine.{RawLine}
use Rattle.loss_report.specs.Raws.{raw_line}
use Rattle.loss_report.proofs.Writing.{lines_more, lines_fault}
use Rattle.loss_report.proofs.raws.put_raw.Goals as goal

none : RawLine
none = record { line = 0; answer = Kept }

pub returns-in_err-put_all-clause-part : goal.returns-in_err-put_all-clause-part
unfolding none
returns-in_err-put_all-clause-part g c =
    let taken = g.O.Sink.taken in
    let piece = c.deref.ensures.0 ∙ c.raw_bytes-bytes.ensures in
    let part = lines_fault (λ place raw. raw_line raw) (taken c.args.out.now) (taken c.loop-raw.out) (taken c.put_all.new.out)
    1 c.loop-raw.raw-index c.args.raws.now none (omega arith) c.loop-raw.invariant.taken
    (subst (λ (bytes : List ℕ). TakesPart (taken c.loop-raw.out) (taken c.put_all.new.out) bytes) piece c.in_err-put_all.ensures.part) in
    search (rules, part)

pub loop-raw-preserved : goal.loop-raw-preserved
unfolding none
loop-raw-preserved g c =
    let taken = g.O.Sink.taken in
    let piece = c.deref.ensures.0 ∙ c.raw_bytes-bytes.ensures in
    record {
      taken = lines_more (λ place raw. raw_line raw) (taken c.args.out.now) (taken c.loop-raw.out) (taken c.put_all.new.out)
          1 c.loop-raw.raw-index c.args.raws.now none (omega arith) c.loop-raw.invariant.taken
          (cc (c.in_ok-put_all.ensures.all, piece));
      faults = c.in_ok-put_all.ensures.count ∙ c.loop-raw.invariant.faults;
      may = c.in_ok-put_all.ensures.goes_on;
    }
