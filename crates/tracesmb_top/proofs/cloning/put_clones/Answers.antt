use Rattle.std.proofs.Common.{◌∙◌, ℕ, List, ap, subst, arith, rules}
use Rattle.byte_io.specs.Bytes.{after_told, TakesPart}
use Rattle.loss_report.proofs.Writing.{lines_more, lines_fault}
use Rattle.tracesmb_top.specs.Cloned.{clone_line}
use Rattle.tracesmb_top.proofs.CloneLemmas.{no_count}
use Rattle.tracesmb_top.proofs.cloning.put_clones.Goals as goal

pub returns-in_err-put_all-clause-part : goal.returns-in_err-put_all-clause-part
returns-in_err-put_all-clause-part g c =
    let taken = g.O.Sink.taken in let piece = c.deref.ensures.0 ∙ c.clone_line.ensures in
    let part = lines_fault clone_line (taken c.args.out.now) (taken c.loop-i.out) (taken c.put_all.new.out) 1 c.loop-i.i c.args.clones.now no_count
    (omega arith) c.loop-i.invariant.taken (subst (λ (bytes : List ℕ). TakesPart (taken c.loop-i.out) (taken c.put_all.new.out) bytes) piece c.in_err-put_all.ensures.part) in
    search (rules, part)

pub loop-i-preserved : goal.loop-i-preserved
loop-i-preserved g c =
    let taken = g.O.Sink.taken in let piece = c.deref.ensures.0 ∙ c.clone_line.ensures in
    record {
      taken = lines_more clone_line (taken c.args.out.now) (taken c.loop-i.out) (taken c.put_all.new.out) 1 c.loop-i.i c.args.clones.now no_count
          (omega arith) c.loop-i.invariant.taken (c.in_ok-put_all.ensures.all ∙ ap (λ (bytes : List ℕ). after_told (taken c.loop-i.out) bytes) piece);
      faults = c.in_ok-put_all.ensures.count ∙ c.loop-i.invariant.faults;
      may = c.in_ok-put_all.ensures.goes_on;
    }
